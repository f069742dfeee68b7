-- The numbers of the rows with a key.
use Rattle.std.proofs.Common.{◌≡◌, ◌≢◌, ℕ, Bool, true, false, cond, not, List, [], ◌∷◌, ◌++◌, map, filter, Some, option_map, nat_eq, refl, sym, ap, subst, ◌∙◌, arith, true≢false}
use Rattle.std.specs.List.{AllByRecursion}
use Rattle.std.specs.Map.{lookup}
use Rattle.std.proofs.lemmas.Bool.Decides.{nat_tests}
use Rattle.std.proofs.lemmas.List.{append-nil}
use Rattle.std.proofs.lemmas.Option.{same_Some, none-some}
use Rattle.ynl_slots.specs.Slots.{IsUnused, HasDistinctNumbers, without}
use Rattle.ynl_slots.proofs.Lists.{all_both}
use Rattle.ynl_tables.specs.containers.Chains.{numbers_of}
use Rattle.ynl_slots.proofs.Entries.{itself, other, without-unused}

module _ {X : Type 0} (key : X → ℕ) (k : ℕ) where
  numbers-cons : (e : ℕ × X) (es : List (ℕ × X)) → numbers_of key k (e ∷ es) ≡ cond (nat_eq (key e.1) k) (e.0 ∷ numbers_of key k es) (numbers_of key k es)
  numbers-cons e es = go (nat_eq (key e.1) k)
    where
      go : (b : Bool) → map (λ f. f.0) (cond b (e ∷ filter (λ f. nat_eq (key f.1) k) es) (filter (λ f. nat_eq (key f.1) k) es)) ≡ cond b (e.0 ∷ numbers_of key k es) (numbers_of key k es)
      go true = refl
      go false = refl

  first_of : (e : ℕ × X) (es : List (ℕ × X)) → nat_eq (key e.1) k ≡ true → numbers_of key k (e ∷ es) ≡ e.0 ∷ numbers_of key k es
  first_of e es q = numbers-cons e es ∙ ap (λ (b : Bool). cond b (e.0 ∷ numbers_of key k es) (numbers_of key k es)) q

  none_of : (e : ℕ × X) (es : List (ℕ × X)) → nat_eq (key e.1) k ≡ false → numbers_of key k (e ∷ es) ≡ numbers_of key k es
  none_of e es q = numbers-cons e es ∙ ap (λ (b : Bool). cond b (e.0 ∷ numbers_of key k es) (numbers_of key k es)) q

  -- what holds of all numbers holds of these
  pub all_numbers : (P : ℕ → Type 0) (es : List (ℕ × X)) → AllByRecursion (λ e. P e.0) es → AllByRecursion P (numbers_of key k es)
  all_numbers P [] h = tt
  all_numbers P (e ∷ es) h = go (nat_eq (key e.1) k) refl (all_numbers P es h.1)
    where
      go : (b : Bool) → nat_eq (key e.1) k ≡ b → AllByRecursion P (numbers_of key k es) → AllByRecursion P (numbers_of key k (e ∷ es))
      go true q r = subst (AllByRecursion P) (sym (first_of e es q)) (h.0, r)
      go false q r = subst (AllByRecursion P) (sym (none_of e es q)) r

  -- there are none where no row has the key, and only there
  pub no_numbers : (es : List (ℕ × X)) → AllByRecursion (λ e. key e.1 ≢ k) es → numbers_of key k es ≡ []
  no_numbers [] h = refl
  no_numbers (e ∷ es) h = none_of e es (other (key e.1) k h.0) ∙ no_numbers es h.1

  pub none_from_numbers : (es : List (ℕ × X)) → numbers_of key k es ≡ [] → AllByRecursion (λ e. key e.1 ≢ k) es
  none_from_numbers [] h = tt
  none_from_numbers (e ∷ es) h = go (nat_eq (key e.1) k) refl (λ r. none_from_numbers es r)
    where
      go : (b : Bool) → nat_eq (key e.1) k ≡ b → (numbers_of key k es ≡ [] → AllByRecursion (λ f. key f.1 ≢ k) es) → AllByRecursion (λ f. key f.1 ≢ k) (e ∷ es)
      go true q rest = absurd (cc (first_of e es q, h))
      go false q rest = ((λ is. true≢false (sym (ap (λ m. nat_eq m k) is ∙ itself k) ∙ q)), rest (sym (none_of e es q) ∙ h))

  -- they are of the rows with the key
  pub all_of_key : (es : List (ℕ × X)) → HasDistinctNumbers es → AllByRecursion (λ m. option_map key (lookup (nat_eq m) es) ≡ Some k) (numbers_of key k es)
  all_of_key [] d = tt
  all_of_key (e ∷ es) d =
      go (nat_eq (key e.1) k) refl
      (all_both (λ m. m ≢ e.0) (λ m. option_map key (lookup (nat_eq m) es) ≡ Some k) (λ m. option_map key (lookup (nat_eq m) (e ∷ es)) ≡ Some k)
      (λ m apart is. ap (λ (b : Bool). option_map key (cond b (Some e.1) (lookup (nat_eq m) es))) (other m e.0 apart) ∙ is)
      (numbers_of key k es) (all_numbers (λ m. m ≢ e.0) es d.0) (all_of_key es d.1))
    where
      go : (b : Bool) → nat_eq (key e.1) k ≡ b → AllByRecursion (λ m. option_map key (lookup (nat_eq m) (e ∷ es)) ≡ Some k) (numbers_of key k es)
          → AllByRecursion (λ m. option_map key (lookup (nat_eq m) (e ∷ es)) ≡ Some k) (numbers_of key k (e ∷ es))
      go true q r =
          let is : key e.1 ≡ k = grind (arith, nat_tests) in
          subst (AllByRecursion (λ m. option_map key (lookup (nat_eq m) (e ∷ es)) ≡ Some k)) (sym (first_of e es q))
          (ap (λ (b : Bool). option_map key (cond b (Some e.1) (lookup (nat_eq e.0) es))) (itself e.0) ∙ ap (λ (n : ℕ). Some n) is, r)
      go false q r = subst (AllByRecursion (λ m. option_map key (lookup (nat_eq m) (e ∷ es)) ≡ Some k)) (sym (none_of e es q)) r

  -- after a push
  numbers-push : (n : ℕ) (row : X) (es : List (ℕ × X)) → numbers_of key k (es ++ (n, row) ∷ []) ≡ numbers_of key k es ++ cond (nat_eq (key row) k) (n ∷ []) []
  numbers-push n row [] = numbers-cons (n, row) []
  numbers-push n row (e ∷ es) = go (nat_eq (key e.1) k) refl (numbers-push n row es)
    where
      go : (b : Bool) → nat_eq (key e.1) k ≡ b → numbers_of key k (es ++ (n, row) ∷ []) ≡ numbers_of key k es ++ cond (nat_eq (key row) k) (n ∷ []) []
          → numbers_of key k (e ∷ (es ++ (n, row) ∷ [])) ≡ numbers_of key k (e ∷ es) ++ cond (nat_eq (key row) k) (n ∷ []) []
      go true q r = first_of e (es ++ (n, row) ∷ []) q ∙ ap (λ ns. e.0 ∷ ns) r ∙ ap (λ ns. ns ++ cond (nat_eq (key row) k) (n ∷ []) []) (sym (first_of e es q))
      go false q r = none_of e (es ++ (n, row) ∷ []) q ∙ r ∙ ap (λ ns. ns ++ cond (nat_eq (key row) k) (n ∷ []) []) (sym (none_of e es q))

  pub numbers-push-own : (n : ℕ) (row : X) (es : List (ℕ × X)) → key row ≡ k → numbers_of key k (es ++ (n, row) ∷ []) ≡ numbers_of key k es ++ n ∷ []
  numbers-push-own n row es is =
      let q : nat_eq (key row) k ≡ true = grind (arith, nat_tests) in
      numbers-push n row es ∙ ap (λ (b : Bool). numbers_of key k es ++ cond b (n ∷ []) []) q

  pub numbers-push-other : (n : ℕ) (row : X) (es : List (ℕ × X)) → key row ≢ k → numbers_of key k (es ++ (n, row) ∷ []) ≡ numbers_of key k es
  numbers-push-other n row es apart =
      numbers-push n row es ∙ ap (λ (b : Bool). numbers_of key k es ++ cond b (n ∷ []) []) (other (key row) k apart) ∙ append-nil (numbers_of key k es)

  without_cons : (n : ℕ) (e : ℕ × X) (es : List (ℕ × X)) (b : Bool) → nat_eq n e.0 ≡ b → numbers_of key k (without n (e ∷ es)) ≡ numbers_of key k (cond (not b) (e ∷ without n es) (without n es))
  without_cons n e es b q = ap (λ (b : Bool). numbers_of key k (cond (not b) (e ∷ without n es) (without n es))) q

  -- after the removal of a row with another key
  pub numbers-without-other : (n : ℕ) (es : List (ℕ × X)) → AllByRecursion (λ m. m ≢ n) (numbers_of key k es) → numbers_of key k (without n es) ≡ numbers_of key k es
  numbers-without-other n [] h = refl
  numbers-without-other n (e ∷ es) h = go (nat_eq n e.0) refl (nat_eq (key e.1) k) refl (λ r. numbers-without-other n es r)
    where
      go : (a : Bool) → nat_eq n e.0 ≡ a → (b : Bool) → nat_eq (key e.1) k ≡ b
          → (AllByRecursion (λ m. m ≢ n) (numbers_of key k es) → numbers_of key k (without n es) ≡ numbers_of key k es)
          → numbers_of key k (without n (e ∷ es)) ≡ numbers_of key k (e ∷ es)
      go true p true q rest =
          let is : n ≡ e.0 = grind (arith, nat_tests) in
          let r = subst (AllByRecursion (λ m. m ≢ n)) (first_of e es q) h in
          absurd (r.0 (sym is))
      go true p false q rest =
          without_cons n e es true p ∙ rest (subst (AllByRecursion (λ m. m ≢ n)) (none_of e es q) h) ∙ sym (none_of e es q)
      go false p true q rest =
          let r = subst (AllByRecursion (λ m. m ≢ n)) (first_of e es q) h in
          without_cons n e es false p ∙ first_of e (without n es) q ∙ ap (λ ns. e.0 ∷ ns) (rest r.1) ∙ sym (first_of e es q)
      go false p false q rest =
          without_cons n e es false p ∙ none_of e (without n es) q ∙ rest (subst (AllByRecursion (λ m. m ≢ n)) (none_of e es q) h) ∙ sym (none_of e es q)

  -- a number among others, and what its removal leaves
  pub record Splits (n : ℕ) (es : List (ℕ × X)) : Type 0 where
    pub front : List ℕ
    pub back : List ℕ
    pub were : numbers_of key k es ≡ front ++ n ∷ back
    pub are : numbers_of key k (without n es) ≡ front ++ back

  -- the number of a row with this key is among the others
  pub splits : (n : ℕ) (row : X) (es : List (ℕ × X)) → HasDistinctNumbers es → lookup (nat_eq n) es ≡ Some row → key row ≡ k → Splits n es
  splits n row [] d found is = absurd (none-some row found)
  splits n row (e ∷ es) d found is = go (nat_eq n e.0) refl found (λ r. splits n row es d.1 r is)
    where
      behind : nat_eq n e.0 ≡ false → (b : Bool) → nat_eq (key e.1) k ≡ b → Splits n es → Splits n (e ∷ es)
      behind p true q s = record {
        front = e.0 ∷ s.front;
        back = s.back;
        were = first_of e es q ∙ ap (λ ns. e.0 ∷ ns) s.were;
        are = without_cons n e es false p ∙ first_of e (without n es) q ∙ ap (λ ns. e.0 ∷ ns) s.are;
      }
      behind p false q s = record {
        front = s.front;
        back = s.back;
        were = none_of e es q ∙ s.were;
        are = without_cons n e es false p ∙ none_of e (without n es) q ∙ s.are;
      }

      go : (b : Bool) → nat_eq n e.0 ≡ b → cond b (Some e.1) (lookup (nat_eq n) es) ≡ Some row → (lookup (nat_eq n) es ≡ Some row → Splits n es) → Splits n (e ∷ es)
      go true p there later =
          let same : n ≡ e.0 = grind (arith, nat_tests) in
          let own : key e.1 ≡ k = ap key (same_Some e.1 row there) ∙ is in
          let q : nat_eq (key e.1) k ≡ true = grind (arith, nat_tests) in
          let unused : IsUnused n es = subst (λ (m : ℕ). IsUnused m es) (sym same) d.0 in
          record {
            front = [];
            back = numbers_of key k es;
            were = first_of e es q ∙ ap (λ m. m ∷ numbers_of key k es) (sym same);
            are = without_cons n e es true p ∙ ap (numbers_of key k) (without-unused n es unused);
          }
      go false p there later = behind p (nat_eq (key e.1) k) refl (later there)
