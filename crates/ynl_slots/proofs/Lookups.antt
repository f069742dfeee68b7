-- What is under a number after a change, for callers.
use Rattle.std.proofs.Common.{◌≡◌, ℕ, Bool, true, false, cond, not, nat_eq, List, [], ◌∷◌, ◌++◌, Option, None, Some, option_map, refl, sym, ◌∙◌, arith, true≢false}
use Rattle.std.specs.Map.{lookup}
use Rattle.std.proofs.lemmas.Option.{none-some, same_Some}
use Rattle.std.proofs.lemmas.Bool.Decides.{nat_tests}
use Rattle.ynl_slots.specs.Slots.{IsUnused, IsOnly, HasDistinctNumbers, with_row, without}

module _ {X : Type 0} where
  none_either_way : (b : Bool) → ◌≡◌ {A = Option X} None (cond b None None)
  none_either_way true = refl
  none_either_way false = refl

  -- nothing is under a number that no entry has
  pub lookup-unused : (number : ℕ) (es : List (ℕ × X)) → IsUnused number es → lookup (nat_eq number) es ≡ None
  lookup-unused number [] h = refl
  lookup-unused number (e ∷ es) h = let apart = h.0 in let rest = lookup-unused number es h.1 in grind (arith, nat_tests)

  pub unused_from_lookup : (number : ℕ) (es : List (ℕ × X)) → lookup (nat_eq number) es ≡ None → IsUnused number es
  unused_from_lookup number [] h = tt
  unused_from_lookup number (e ∷ es) h = go (nat_eq number e.0) refl h (λ k. unused_from_lookup number es k)
    where
      go : (b : Bool) → nat_eq number e.0 ≡ b → cond b (Some e.1) (lookup (nat_eq number) es) ≡ None → (lookup (nat_eq number) es ≡ None → IsUnused number es) → IsUnused number (e ∷ es)
      go true q k rest = absurd (none-some e.1 (sym k))
      go false q k rest = (λ same. let met : nat_eq number e.0 ≡ true = grind (arith, nat_tests) in true≢false (sym met ∙ q), rest k)

  -- what a push leaves under each number
  pub lookup-push : (n number : ℕ) (row : X) (es : List (ℕ × X)) → IsUnused number es → lookup (nat_eq n) (es ++ (number, row) ∷ []) ≡ cond (nat_eq n number) (Some row) (lookup (nat_eq n) es)
  lookup-push n number row [] h = refl
  lookup-push n number row (e ∷ es) h = go (nat_eq n e.0) refl (nat_eq n number) refl (lookup-push n number row es h.1)
    where
      go : (b : Bool) → nat_eq n e.0 ≡ b → (c : Bool) → nat_eq n number ≡ c → lookup (nat_eq n) (es ++ (number, row) ∷ []) ≡ cond (nat_eq n number) (Some row) (lookup (nat_eq n) es)
          → cond b (Some e.1) (lookup (nat_eq n) (es ++ (number, row) ∷ [])) ≡ cond (nat_eq n number) (Some row) (cond b (Some e.1) (lookup (nat_eq n) es))
      go true p true q k = absurd (h.0 (grind (arith, nat_tests)))
      go true p false q k = rw q refl
      go false p c q k = k

  -- what a removal leaves
  pub lookup-without : (n number : ℕ) (es : List (ℕ × X)) → lookup (nat_eq n) (without number es) ≡ cond (nat_eq n number) None (lookup (nat_eq n) es)
  lookup-without n number [] = none_either_way (nat_eq n number)
  lookup-without n number (e ∷ es) = go (nat_eq number e.0) refl (nat_eq n e.0) refl (nat_eq n number) refl (lookup-without n number es)
    where
      go : (a : Bool) → nat_eq number e.0 ≡ a → (b : Bool) → nat_eq n e.0 ≡ b → (c : Bool) → nat_eq n number ≡ c → lookup (nat_eq n) (without number es) ≡ cond (nat_eq n number) None (lookup (nat_eq n) es)
          → lookup (nat_eq n) (cond (not a) (e ∷ without number es) (without number es)) ≡ cond (nat_eq n number) None (cond b (Some e.1) (lookup (nat_eq n) es))
      go true o true p true q k = rw q (rw q at k)
      go true o true p false q k = absurd (grind (arith, nat_tests))
      go true o false p c q k = k
      go false o true p true q k = absurd (grind (arith, nat_tests))
      go false o true p false q k = rw (p, q) refl
      go false o false p c q k = rw p k

  -- what a write leaves
  pub lookup-with_row : (n number : ℕ) (row : X) (es : List (ℕ × X)) → lookup (nat_eq n) (with_row number row es) ≡ cond (nat_eq n number) (option_map (λ _. row) (lookup (nat_eq n) es)) (lookup (nat_eq n) es)
  lookup-with_row n number row [] = none_either_way (nat_eq n number)
  lookup-with_row n number row (e ∷ es) = go (nat_eq number e.0) refl (nat_eq n e.0) refl (nat_eq n number) refl (lookup-with_row n number row es)
    where
      go : (a : Bool) → nat_eq number e.0 ≡ a → (b : Bool) → nat_eq n e.0 ≡ b → (c : Bool) → nat_eq n number ≡ c
          → lookup (nat_eq n) (with_row number row es) ≡ cond (nat_eq n number) (option_map (λ _. row) (lookup (nat_eq n) es)) (lookup (nat_eq n) es)
          → lookup (nat_eq n) (cond a (e.0, row) e ∷ with_row number row es) ≡ cond (nat_eq n number) (option_map (λ _. row) (cond b (Some e.1) (lookup (nat_eq n) es))) (cond b (Some e.1) (lookup (nat_eq n) es))
      go true o true p true q k = rw (p, q) refl
      go true o true p false q k = absurd (grind (arith, nat_tests))
      go true o false p c q k = rw p k
      go false o true p true q k = absurd (grind (arith, nat_tests))
      go false o true p false q k = rw (p, q) refl
      go false o false p c q k = rw p k

  -- what is under a number is all that is
  pub only_from_distinct : (number : ℕ) (row : X) (es : List (ℕ × X)) → HasDistinctNumbers es → lookup (nat_eq number) es ≡ Some row → IsOnly number row es
  only_from_distinct number row [] distinct found = tt
  only_from_distinct number row (e ∷ es) distinct found = go (nat_eq number e.0) refl found (λ k. only_from_distinct number row es distinct.1 k)
    where
      others : (fs : List (ℕ × X)) → number ≡ e.0 → IsUnused e.0 fs → IsOnly number row fs
      others [] same h = tt
      others (f ∷ fs) same h = (λ is. absurd (h.0 (is ∙ same)), others fs same h.1)

      go : (b : Bool) → nat_eq number e.0 ≡ b → cond b (Some e.1) (lookup (nat_eq number) es) ≡ Some row → (lookup (nat_eq number) es ≡ Some row → IsOnly number row es) → IsOnly number row (e ∷ es)
      go true q k rest =
          let same : number ≡ e.0 = grind (arith, nat_tests) in
          (λ is. same_Some _ _ k, others es same distinct.0)
      go false q k rest =
          (λ is. let met : nat_eq number e.0 ≡ true = grind (arith, nat_tests) in absurd (true≢false (sym met ∙ q)), rest k)
