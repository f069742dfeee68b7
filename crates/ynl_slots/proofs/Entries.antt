-- What a push, a removal or a write leaves of the entries, for callers.
use Rattle.std.proofs.Common.{◌≡◌, ◌≢◌, ℕ, Bool, true, false, cond, not, List, [], ◌∷◌, ◌++◌, map, Option, Some, None, is_some, nat_eq, refl, sym, ap, subst, ◌∙◌, arith, true≢false}
use Rattle.std.specs.List.{AllByRecursion}
use Rattle.std.specs.Map.{lookup}
use Rattle.std.proofs.lemmas.Bool.Decides.{nat_tests}
use Rattle.std.proofs.lemmas.Option.{same_Some}
use Rattle.ynl_slots.specs.Slots.{IsLive, IsUnused, HasDistinctNumbers, without}
use Rattle.ynl_slots.proofs.Lists.{all_append}
use Rattle.ynl_slots.proofs.Lookups.{lookup-push, lookup-unused, lookup-without}

pub itself : (n : ℕ) → nat_eq n n ≡ true
itself n = grind (arith, nat_tests)

pub other : (m n : ℕ) → m ≢ n → nat_eq m n ≡ false
other m n apart = grind (arith, nat_tests)

module _ {X : Type 0} where
  -- what is under another number after a push, and after a removal
  pub lookup-push-other : (m n : ℕ) (row : X) (es : List (ℕ × X)) → IsUnused n es → m ≢ n → lookup (nat_eq m) (es ++ (n, row) ∷ []) ≡ lookup (nat_eq m) es
  lookup-push-other m n row es unused apart =
      lookup-push m n row es unused ∙ ap (λ (b : Bool). cond b (Some row) (lookup (nat_eq m) es)) (other m n apart)

  pub lookup-without-other : (m n : ℕ) (es : List (ℕ × X)) → m ≢ n → lookup (nat_eq m) (without n es) ≡ lookup (nat_eq m) es
  lookup-without-other m n es apart =
      lookup-without m n es ∙ ap (λ (b : Bool). let o : Option X = cond b None (lookup (nat_eq m) es) in o) (other m n apart)

  pub without-unused : (n : ℕ) (es : List (ℕ × X)) → IsUnused n es → without n es ≡ es
  without-unused n [] h = refl
  without-unused n (e ∷ es) h =
      ap (λ (b : Bool). let r : List (ℕ × X) = cond (not b) (e ∷ without n es) (without n es) in r) (other n e.0 (λ same. h.0 (sym same)))
      ∙ ap (λ r. e ∷ r) (without-unused n es h.1)

  -- a row that was pushed is live, and its removal undoes the push
  pub live-pushed : (n : ℕ) (row : X) (es : List (ℕ × X)) → IsUnused n es → IsLive n (es ++ (n, row) ∷ [])
  live-pushed n row es unused = ap is_some (lookup-push n n row es unused ∙ ap (λ (b : Bool). cond b (Some row) (lookup (nat_eq n) es)) (itself n))

  pub without-pushed : (n : ℕ) (row : X) (es : List (ℕ × X)) → IsUnused n es → without n (es ++ (n, row) ∷ []) ≡ es
  without-pushed n row [] h = ap (λ (b : Bool). let r : List (ℕ × X) = cond (not b) ((n, row) ∷ []) [] in r) (itself n)
  without-pushed n row (e ∷ es) h =
      ap (λ (b : Bool). let r : List (ℕ × X) = cond (not b) (e ∷ without n (es ++ (n, row) ∷ [])) (without n (es ++ (n, row) ∷ [])) in r) (other n e.0 (λ same. h.0 (sym same)))
      ∙ ap (λ r. e ∷ r) (without-pushed n row es h.1)

  -- what holds of all holds of those that a removal leaves
  pub all_without : (P : ℕ × X → Type 0) (n : ℕ) (es : List (ℕ × X)) → AllByRecursion P es → AllByRecursion P (without n es)
  all_without P n [] h = tt
  all_without P n (e ∷ es) h = go (nat_eq n e.0) (all_without P n es h.1)
    where
      go : (b : Bool) → AllByRecursion P (without n es) → AllByRecursion P (cond (not b) (e ∷ without n es) (without n es))
      go true k = k
      go false k = (h.0, k)

  pub unused_without : (n : ℕ) (es : List (ℕ × X)) → IsUnused n (without n es)
  unused_without n [] = tt
  unused_without n (e ∷ es) = go (nat_eq n e.0) refl (unused_without n es)
    where
      go : (b : Bool) → nat_eq n e.0 ≡ b → IsUnused n (without n es) → IsUnused n (cond (not b) (e ∷ without n es) (without n es))
      go true q k = k
      go false q k = ((λ same. true≢false (sym (ap (nat_eq n) same ∙ itself n) ∙ q)), k)

  pub distinct_without : (n : ℕ) (es : List (ℕ × X)) → HasDistinctNumbers es → HasDistinctNumbers (without n es)
  distinct_without n [] h = tt
  distinct_without n (e ∷ es) h = go (nat_eq n e.0) (distinct_without n es h.1)
    where
      go : (b : Bool) → HasDistinctNumbers (without n es) → HasDistinctNumbers (cond (not b) (e ∷ without n es) (without n es))
      go true k = k
      go false k = (all_without (λ f. f.0 ≢ e.0) n es h.0, k)

  pub distinct_push : (n : ℕ) (row : X) (es : List (ℕ × X)) → IsUnused n es → HasDistinctNumbers es → HasDistinctNumbers (es ++ (n, row) ∷ [])
  distinct_push n row [] unused h = (tt, tt)
  distinct_push n row (e ∷ es) unused h = (all_append (λ f. f.0 ≢ e.0) es ((n, row) ∷ []) h.0 ((λ same. unused.0 (sym same)), tt), distinct_push n row es unused.1 h.1)

  unused_alike : (n : ℕ) (xs ys : List (ℕ × X)) → map (λ e. e.0) xs ≡ map (λ e. e.0) ys → IsUnused n ys → IsUnused n xs
  unused_alike n [] ys same h = tt
  unused_alike n (x ∷ xs) [] same h = absurd (cc)
  unused_alike n (x ∷ xs) (y ∷ ys) same h =
      let here : x.0 ≡ y.0 = cc in
      let rest : map (λ e. e.0) xs ≡ map (λ e. e.0) ys = cc in
      ((λ is. h.0 (sym here ∙ is)), unused_alike n xs ys rest h.1)

  pub distinct_alike : (xs ys : List (ℕ × X)) → map (λ e. e.0) xs ≡ map (λ e. e.0) ys → HasDistinctNumbers ys → HasDistinctNumbers xs
  distinct_alike [] ys same h = tt
  distinct_alike (x ∷ xs) [] same h = absurd (cc)
  distinct_alike (x ∷ xs) (y ∷ ys) same h =
      let here : x.0 ≡ y.0 = cc in
      let rest : map (λ e. e.0) xs ≡ map (λ e. e.0) ys = cc in
      (unused_alike x.0 xs ys rest (subst (λ (n : ℕ). IsUnused n ys) (sym here) h.0), distinct_alike xs ys rest h.1)

  -- rows under the same distinct numbers are the same if what is under each number is
  pub same_rows : (xs ys : List (ℕ × X)) → map (λ e. e.0) xs ≡ map (λ e. e.0) ys → HasDistinctNumbers ys → ((n : ℕ) → lookup (nat_eq n) xs ≡ lookup (nat_eq n) ys) → xs ≡ ys
  same_rows [] [] same d h = refl
  same_rows [] (y ∷ ys) same d h = absurd (cc)
  same_rows (x ∷ xs) [] same d h = absurd (cc)
  same_rows (x ∷ xs) (y ∷ ys) same d h =
      let rest : map (λ e. e.0) xs ≡ map (λ e. e.0) ys = cc in
      ap (λ (e : ℕ × X). e ∷ xs) (λ i. (here i, row i)) ∙ ap (λ es. y ∷ es) (same_rows xs ys rest d.1 (behind rest))
    where
      here : x.0 ≡ y.0
      here = cc

      first : (n : ℕ) (e : ℕ × X) (es : List (ℕ × X)) → n ≡ e.0 → lookup (nat_eq n) (e ∷ es) ≡ Some e.1
      first n e es is = ap (λ (b : Bool). cond b (Some e.1) (lookup (nat_eq n) es)) (ap (nat_eq n) (sym is) ∙ itself n)

      row : x.1 ≡ y.1
      row = same_Some x.1 y.1 (sym (first x.0 x xs refl) ∙ h x.0 ∙ first x.0 y ys here)

      later : (n : ℕ) (e : ℕ × X) (es : List (ℕ × X)) → n ≢ e.0 → lookup (nat_eq n) (e ∷ es) ≡ lookup (nat_eq n) es
      later n e es apart = ap (λ (b : Bool). cond b (Some e.1) (lookup (nat_eq n) es)) (other n e.0 apart)

      behind : map (λ e. e.0) xs ≡ map (λ e. e.0) ys → (n : ℕ) → lookup (nat_eq n) xs ≡ lookup (nat_eq n) ys
      behind rest n = go (nat_eq n y.0) refl
        where
          go : (b : Bool) → nat_eq n y.0 ≡ b → lookup (nat_eq n) xs ≡ lookup (nat_eq n) ys
          go true q =
              let is : n ≡ y.0 = grind (arith, nat_tests) in
              let none : IsUnused n ys = subst (λ (k : ℕ). IsUnused k ys) (sym is) d.0 in
              lookup-unused n xs (unused_alike n xs ys rest none) ∙ sym (lookup-unused n ys none)
          go false q =
              let apart : n ≢ y.0 = λ is. true≢false (sym (ap (nat_eq n) (sym is) ∙ itself n) ∙ q) in
              sym (later n x xs (λ is. apart (is ∙ here))) ∙ h n ∙ later n y ys apart
