-- What holds of each of some rows, and of each two of them.
use Rattle.std.proofs.Common.{◌≡◌, ◌≢◌, ℕ, Bool, true, false, cond, not, List, [], ◌∷◌, ◌++◌, map, Option, Some, None, option_map, nat_eq, refl, sym, ap, subst, ◌∙◌, arith, true≢false}
use Rattle.std.specs.List.{AllByRecursion}
use Rattle.std.specs.Map.{lookup}
use Rattle.std.proofs.lemmas.Bool.Decides.{nat_tests}
use Rattle.std.proofs.lemmas.Option.{same_Some, none-some}
use Rattle.ynl_slots.proofs.Lookups.{lookup-with_row, lookup-push, lookup-unused, lookup-without}
use Rattle.ynl_slots.specs.Slots.{IsUnused, HasDistinctNumbers, with_row, without}
use Rattle.ynl_lanes.specs.lane.Levels.{AreOrdered, ArePairs}

module _ {X : Type 0} where
  pub all_then : (P Q : X → Type 0) → ((x : X) → P x → Q x) → (xs : List X) → AllByRecursion P xs → AllByRecursion Q xs
  all_then P Q f [] h = tt
  all_then P Q f (x ∷ xs) h = (f x h.0, all_then P Q f xs h.1)

  pub all_both : (P Q R : X → Type 0) → ((x : X) → P x → Q x → R x) → (xs : List X) → AllByRecursion P xs → AllByRecursion Q xs → AllByRecursion R xs
  all_both P Q R f [] h k = tt
  all_both P Q R f (x ∷ xs) h k = (f x h.0 k.0, all_both P Q R f xs h.1 k.1)

  pub all_append : (P : X → Type 0) (xs ys : List X) → AllByRecursion P xs → AllByRecursion P ys → AllByRecursion P (xs ++ ys)
  all_append P [] ys h k = k
  all_append P (x ∷ xs) ys h k = (h.0, all_append P xs ys h.1 k)

  pub all_map : (P : X → Type 0) (Q : X → Type 0) (g : X → X) → ((x : X) → P x → Q (g x)) → (xs : List X) → AllByRecursion P xs → AllByRecursion Q (map g xs)
  all_map P Q g f [] h = tt
  all_map P Q g f (x ∷ xs) h = (f x h.0, all_map P Q g f xs h.1)

  pub ordered_map : (P : X → Type 0) (R Q : X → X → Type 0) (g : X → X) → ((x y : X) → P x → P y → R x y → Q (g x) (g y)) → (xs : List X) → AllByRecursion P xs → AreOrdered R xs → AreOrdered Q (map g xs)
  ordered_map P R Q g f [] h k = tt
  ordered_map P R Q g f (x ∷ xs) h k = (
    all_map (λ y. P y × R x y) (Q (g x)) g (λ y q. f x y h.0 q.0 q.1) xs (all_both P (R x) (λ y. P y × R x y) (λ y p r. (p, r)) xs h.1 k.0),
    ordered_map P R Q g f xs h.1 k.1,
  )

  pub ordered_push : (R : X → X → Type 0) (xs : List X) (y : X) → AreOrdered R xs → AllByRecursion (λ x. R x y) xs → AreOrdered R (xs ++ y ∷ [])
  ordered_push R [] y h k = (tt, tt)
  ordered_push R (x ∷ xs) y h k = (all_append (R x) xs (y ∷ []) h.0 (k.0, tt), ordered_push R xs y h.1 k.1)

  pub pairs_map : {Y : Type 0} (P : X → Type 0) (R Q : Y → X → Type 0) (g : X → X) → ((y : Y) (x : X) → P x → R y x → Q y (g x)) → (ys : List Y) (xs : List X) → AllByRecursion P xs → ArePairs R ys xs → ArePairs Q ys (map g xs)
  pairs_map P R Q g f [] [] h k = tt
  pairs_map P R Q g f (y ∷ ys) (x ∷ xs) h k = (f y x h.0 k.0, pairs_map P R Q g f ys xs h.1 k.1)
  pairs_map P R Q g f [] (x ∷ xs) h k = absurd k
  pairs_map P R Q g f (y ∷ ys) [] h k = absurd k

  pub pairs_then : {Y : Type 0} (R Q : Y → X → Type 0) → ((y : Y) (x : X) → R y x → Q y x) → (ys : List Y) (xs : List X) → ArePairs R ys xs → ArePairs Q ys xs
  pairs_then R Q f [] [] k = tt
  pairs_then R Q f (y ∷ ys) (x ∷ xs) k = (f y x k.0, pairs_then R Q f ys xs k.1)
  pairs_then R Q f [] (x ∷ xs) k = absurd k
  pairs_then R Q f (y ∷ ys) [] k = absurd k

  pub pairs_with : {Y : Type 0} (P : X → Type 0) (R Q : Y → X → Type 0) → ((y : Y) (x : X) → P x → R y x → Q y x) → (ys : List Y) (xs : List X) → AllByRecursion P xs → ArePairs R ys xs → ArePairs Q ys xs
  pairs_with P R Q f [] [] h k = tt
  pairs_with P R Q f (y ∷ ys) (x ∷ xs) h k = (f y x h.0 k.0, pairs_with P R Q f ys xs h.1 k.1)
  pairs_with P R Q f [] (x ∷ xs) h k = absurd k
  pairs_with P R Q f (y ∷ ys) [] h k = absurd k

  pub all_any : (P : X → Type 0) → ((x : X) → P x) → (xs : List X) → AllByRecursion P xs
  all_any P f [] = tt
  all_any P f (x ∷ xs) = (f x, all_any P f xs)

  pub pairs_same : (R : X → X → Type 0) → ((x : X) → R x x) → (xs : List X) → ArePairs R xs xs
  pairs_same R f [] = tt
  pairs_same R f (x ∷ xs) = (f x, pairs_same R f xs)

module _ {X : Type 0} where
  -- what holds of all entries, at what is under a number
  pub all_lookup : (P : ℕ × X → Type 0) (n : ℕ) (row : X) (es : List (ℕ × X)) → AllByRecursion P es → lookup (nat_eq n) es ≡ Some row → P (n, row)
  all_lookup P n row [] h k = absurd (cc)
  all_lookup P n row (e ∷ es) h k = go (nat_eq n e.0) refl k (λ rest. all_lookup P n row es h.1 rest)
    where
      go : (b : Bool) → nat_eq n e.0 ≡ b → cond b (Some e.1) (lookup (nat_eq n) es) ≡ Some row → (lookup (nat_eq n) es ≡ Some row → P (n, row)) → P (n, row)
      go true q same later =
          let here : n ≡ e.0 = grind (arith, nat_tests) in
          let is : e.1 ≡ row = same_Some e.1 row same in
          subst (λ (m : ℕ). P (m, row)) (sym here) (subst (λ (r : X). P (e.0, r)) is h.0)
      go false q rest later = later rest

  -- no number comes twice after a write
  unused_with_row : (m n : ℕ) (row : X) (es : List (ℕ × X)) → IsUnused m es → IsUnused m (with_row n row es)
  unused_with_row m n row [] h = tt
  unused_with_row m n row (e ∷ es) h = (go (nat_eq n e.0), unused_with_row m n row es h.1)
    where
      go : (b : Bool) → (let new : ℕ × X = cond b (e.0, row) e in new.0 ≢ m)
      go true = h.0
      go false = h.0

  pub distinct_with_row : (n : ℕ) (row : X) (es : List (ℕ × X)) → HasDistinctNumbers es → HasDistinctNumbers (with_row n row es)
  distinct_with_row n row [] h = tt
  distinct_with_row n row (e ∷ es) h = (go (nat_eq n e.0), distinct_with_row n row es h.1)
    where
      go : (b : Bool) → (let new : ℕ × X = cond b (e.0, row) e in IsUnused new.0 (with_row n row es))
      go true = unused_with_row e.0 n row es h.0
      go false = unused_with_row e.0 n row es h.0

  -- what is under a number after a write
  pub found_written : (n : ℕ) (row was : X) (es : List (ℕ × X)) → lookup (nat_eq n) es ≡ Some was → lookup (nat_eq n) (with_row n row es) ≡ Some row
  found_written n row was es found =
      let met : nat_eq n n ≡ true = grind (arith, nat_tests) in
      lookup-with_row n n row es ∙ ap (λ (b : Bool). cond b (option_map (λ (_ : X). row) (lookup (nat_eq n) es)) (lookup (nat_eq n) es)) met ∙ ap (option_map (λ (_ : X). row)) found

  pub found_other : (n m : ℕ) (row : X) (es : List (ℕ × X)) → n ≢ m → lookup (nat_eq n) (with_row m row es) ≡ lookup (nat_eq n) es
  found_other n m row es apart =
      let missed : nat_eq n m ≡ false = grind (arith, nat_tests) in
      lookup-with_row n m row es ∙ ap (λ (b : Bool). cond b (option_map (λ (_ : X). row) (lookup (nat_eq n) es)) (lookup (nat_eq n) es)) missed

  pub each_written : (P Q : ℕ → X → Type 0) (m : ℕ) (row was : X) (es : List (ℕ × X)) → lookup (nat_eq m) es ≡ Some was → Q m row → ((n : ℕ) (x : X) → n ≢ m → lookup (nat_eq n) es ≡ Some x → P n x → Q n x)
      → ((n : ℕ) (x : X) → lookup (nat_eq n) es ≡ Some x → P n x) → (n : ℕ) (x : X) → lookup (nat_eq n) (with_row m row es) ≡ Some x → Q n x
  each_written P Q m row was es there here others all n x found = go (nat_eq n m) refl
    where
      go : (b : Bool) → nat_eq n m ≡ b → Q n x
      go true q =
          let same : n ≡ m = grind (arith, nat_tests) in
          let is : row ≡ x = same_Some _ _ (sym (found_written m row was es there) ∙ ap (λ k. lookup (nat_eq k) (with_row m row es)) (sym same) ∙ found) in
          subst (λ k. Q k x) (sym same) (subst (λ y. Q m y) is here)
      go false q =
          let apart : n ≢ m = λ same. true≢false (sym (let met : nat_eq n m ≡ true = grind (arith, nat_tests) in met) ∙ q) in
          let was : lookup (nat_eq n) es ≡ Some x = sym (found_other n m row es apart) ∙ found in
          others n x apart was (all n x was)

  -- what is under a number after a push
  pub found_pushed : (m n : ℕ) (row x : X) (es : List (ℕ × X)) → IsUnused m es → lookup (nat_eq n) es ≡ Some x → lookup (nat_eq n) (es ++ (m, row) ∷ []) ≡ Some x
  found_pushed m n row x es unused found = go (nat_eq n m) refl
    where
      go : (b : Bool) → nat_eq n m ≡ b → lookup (nat_eq n) (es ++ (m, row) ∷ []) ≡ Some x
      go true q =
          let same : n ≡ m = grind (arith, nat_tests) in
          absurd (none-some x (sym (lookup-unused m es unused) ∙ ap (λ k. lookup (nat_eq k) es) (sym same) ∙ found))
      go false q = lookup-push n m row es unused ∙ ap (λ (b : Bool). cond b (Some row) (lookup (nat_eq n) es)) q ∙ found

  pub last_found : (m : ℕ) (row : X) (es : List (ℕ × X)) → IsUnused m es → lookup (nat_eq m) (es ++ (m, row) ∷ []) ≡ Some row
  last_found m row es unused =
      let met : nat_eq m m ≡ true = grind (arith, nat_tests) in
      lookup-push m m row es unused ∙ ap (λ (b : Bool). cond b (Some row) (lookup (nat_eq m) es)) met

  pub each_pushed : (P Q : ℕ → X → Type 0) (m : ℕ) (row : X) (es : List (ℕ × X)) → IsUnused m es → Q m row → ((n : ℕ) (x : X) → lookup (nat_eq n) es ≡ Some x → P n x → Q n x)
      → ((n : ℕ) (x : X) → lookup (nat_eq n) es ≡ Some x → P n x) → (n : ℕ) (x : X) → lookup (nat_eq n) (es ++ (m, row) ∷ []) ≡ Some x → Q n x
  each_pushed P Q m row es unused here others all n x found = go (nat_eq n m) refl
    where
      read : lookup (nat_eq n) (es ++ (m, row) ∷ []) ≡ cond (nat_eq n m) (Some row) (lookup (nat_eq n) es)
      read = lookup-push n m row es unused

      go : (b : Bool) → nat_eq n m ≡ b → Q n x
      go true q =
          let same : n ≡ m = grind (arith, nat_tests) in
          let is : row ≡ x = same_Some _ _ (sym (read ∙ ap (λ (b : Bool). cond b (Some row) (lookup (nat_eq n) es)) q) ∙ found) in
          subst (λ k. Q k x) (sym same) (subst (λ y. Q m y) is here)
      go false q =
          let was : lookup (nat_eq n) es ≡ Some x = sym (read ∙ ap (λ (b : Bool). cond b (Some row) (lookup (nat_eq n) es)) q) ∙ found in
          others n x was (all n x was)

  unused_pushed : (k m : ℕ) (row : X) (es : List (ℕ × X)) → m ≢ k → IsUnused k es → IsUnused k (es ++ (m, row) ∷ [])
  unused_pushed k m row es apart h = all_append (λ e. e.0 ≢ k) es ((m, row) ∷ []) h (apart, tt)

  pub distinct_pushed : (m : ℕ) (row : X) (es : List (ℕ × X)) → IsUnused m es → HasDistinctNumbers es → HasDistinctNumbers (es ++ (m, row) ∷ [])
  distinct_pushed m row [] unused h = (tt, tt)
  distinct_pushed m row (e ∷ es) unused h = (unused_pushed e.0 m row es (λ same. unused.0 (sym same)) h.0, distinct_pushed m row es unused.1 h.1)

  -- what is under a number after a removal
  pub found_without : (m n : ℕ) (x : X) (es : List (ℕ × X)) → n ≢ m → lookup (nat_eq n) es ≡ Some x → lookup (nat_eq n) (without m es) ≡ Some x
  found_without m n x es apart found =
      let missed : nat_eq n m ≡ false = grind (arith, nat_tests) in
      lookup-without n m es ∙ ap (λ (b : Bool). cond b None (lookup (nat_eq n) es)) missed ∙ found

  pub was_without : (m n : ℕ) (x : X) (es : List (ℕ × X)) → lookup (nat_eq n) (without m es) ≡ Some x → (n ≢ m) × (lookup (nat_eq n) es ≡ Some x)
  was_without m n x es found = go (nat_eq n m) refl
    where
      read : lookup (nat_eq n) (without m es) ≡ cond (nat_eq n m) None (lookup (nat_eq n) es)
      read = lookup-without n m es

      go : (b : Bool) → nat_eq n m ≡ b → (n ≢ m) × (lookup (nat_eq n) es ≡ Some x)
      go true q = absurd (none-some x (sym (read ∙ ap (λ (b : Bool). let o : Option X = cond b None (lookup (nat_eq n) es) in o) q) ∙ found))
      go false q = (
        (λ same. true≢false (sym (let met : nat_eq n m ≡ true = grind (arith, nat_tests) in met) ∙ q)),
        sym (read ∙ ap (λ (b : Bool). let o : Option X = cond b None (lookup (nat_eq n) es) in o) q) ∙ found,
      )

  pub same_without : (m n : ℕ) (es : List (ℕ × X)) → n ≢ m → lookup (nat_eq n) (without m es) ≡ lookup (nat_eq n) es
  same_without m n es apart =
      let missed : nat_eq n m ≡ false = grind (arith, nat_tests) in
      lookup-without n m es ∙ ap (λ (b : Bool). let o : Option X = cond b None (lookup (nat_eq n) es) in o) missed

  -- entries that are left
  pub all_without : (P : ℕ × X → Type 0) (m : ℕ) (es : List (ℕ × X)) → AllByRecursion P es → AllByRecursion P (without m es)
  all_without P m [] h = tt
  all_without P m (e ∷ es) h = go (nat_eq m e.0) (all_without P m es h.1)
    where
      go : (b : Bool) → AllByRecursion P (without m es) → AllByRecursion P (cond (not b) (e ∷ without m es) (without m es))
      go true k = k
      go false k = (h.0, k)

  pub ordered_without : (R : ℕ × X → ℕ × X → Type 0) (m : ℕ) (es : List (ℕ × X)) → AreOrdered R es → AreOrdered R (without m es)
  ordered_without R m [] h = tt
  ordered_without R m (e ∷ es) h = go (nat_eq m e.0) (ordered_without R m es h.1)
    where
      go : (b : Bool) → AreOrdered R (without m es) → AreOrdered R (cond (not b) (e ∷ without m es) (without m es))
      go true k = k
      go false k = (all_without (R e) m es h.0, k)

  pub distinct_without : (m : ℕ) (es : List (ℕ × X)) → HasDistinctNumbers es → HasDistinctNumbers (without m es)
  distinct_without m [] h = tt
  distinct_without m (e ∷ es) h = go (nat_eq m e.0) (distinct_without m es h.1)
    where
      go : (b : Bool) → HasDistinctNumbers (without m es) → HasDistinctNumbers (cond (not b) (e ∷ without m es) (without m es))
      go true k = k
      go false k = (all_without (λ f. f.0 ≢ e.0) m es h.0, k)
