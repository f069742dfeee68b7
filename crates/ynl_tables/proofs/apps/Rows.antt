-- One row of distinct numbers changes.
use Rattle.std.proofs.Common.{◌≡◌, ℕ, Bool, true, false, cond, List, [], ◌∷◌, Option, Some, None, option_map, nat_eq, refl, sym, ap, ◌∙◌, arith}
use Rattle.std.specs.Map.{lookup}
use Rattle.std.proofs.lemmas.Bool.Decides.{nat_tests}
use Rattle.ynl_slots.specs.Slots.{Numbered, IsOnly, HasDistinctNumbers, with_row}
use Rattle.ynl_slots.proofs.Chaining.{numbers_stay}
use Rattle.ynl_slots.proofs.Entries.{itself, distinct_alike}
use Rattle.ynl_slots.proofs.Lookups.{lookup-with_row, only_from_distinct}
use Rattle.ynl_tables.specs.apps.Apps.{with_change}

module _ {X : Type 0} where
  -- what is under a number after a change, for callers
  pub lookup-with_change : (m n : ℕ) (change : X → X) (es : List (ℕ × X)) → lookup (nat_eq m) (with_change n change es) ≡ cond (nat_eq m n) (option_map change (lookup (nat_eq m) es)) (lookup (nat_eq m) es)
  lookup-with_change m n change [] = either (nat_eq m n)
    where
      either : (b : Bool) → ◌≡◌ {A = Option X} None (cond b None None)
      either true = refl
      either false = refl
  lookup-with_change m n change (e ∷ es) = go (nat_eq n e.0) refl (nat_eq m e.0) refl (nat_eq m n) refl (lookup-with_change m n change es)
    where
      go : (a : Bool) → nat_eq n e.0 ≡ a → (b : Bool) → nat_eq m e.0 ≡ b → (c : Bool) → nat_eq m n ≡ c
          → lookup (nat_eq m) (with_change n change es) ≡ cond (nat_eq m n) (option_map change (lookup (nat_eq m) es)) (lookup (nat_eq m) es)
          → lookup (nat_eq m) (cond a (e.0, change e.1) e ∷ with_change n change es) ≡ cond (nat_eq m n) (option_map change (cond b (Some e.1) (lookup (nat_eq m) es))) (cond b (Some e.1) (lookup (nat_eq m) es))
      go true o true p true q k = rw (p, q) refl
      go true o true p false q k = absurd (grind (arith, nat_tests))
      go true o false p c q k = rw p k
      go false o true p true q k = absurd (grind (arith, nat_tests))
      go false o true p false q k = rw (p, q) refl
      go false o false p c q k = rw p k

  only_changed : (n : ℕ) (row : X) (change : X → X) (es : List (ℕ × X)) → IsOnly n row es → with_row n (change row) es ≡ with_change n change es
  only_changed n row change [] only = refl
  only_changed n row change (e ∷ es) only = go (nat_eq n e.0) refl (only_changed n row change es only.1)
    where
      go : (b : Bool) → nat_eq n e.0 ≡ b → with_row n (change row) es ≡ with_change n change es → cond b (e.0, change row) e ∷ with_row n (change row) es ≡ cond b (e.0, change e.1) e ∷ with_change n change es
      go true q r =
          let same : n ≡ e.0 = grind (arith, nat_tests) in
          ap (λ (x : X). (e.0, change x) ∷ with_row n (change row) es) (sym (only.0 (sym same))) ∙ ap (λ fs. (e.0, change e.1) ∷ fs) r
      go false q r = ap (λ fs. e ∷ fs) r

  same_rows : (n : ℕ) (es : List (ℕ × X)) → with_change n (λ row. row) es ≡ es
  same_rows n [] = refl
  same_rows n (e ∷ es) = go (nat_eq n e.0) (same_rows n es)
    where
      go : (b : Bool) → with_change n (λ row. row) es ≡ es → cond b (e.0, e.1) e ∷ with_change n (λ row. row) es ≡ e ∷ es
      go true k = ap (λ fs. e ∷ fs) k
      go false k = ap (λ fs. e ∷ fs) k

  module _ (rows now : Numbered X) (view_is : rows ≡ now) (distinct : HasDistinctNumbers rows.entries) (n : ℕ) (row next : X) (found : lookup (nat_eq n) rows.entries ≡ Some row) where
    only : IsOnly n row rows.entries
    only = only_from_distinct n row rows.entries distinct found

    -- a write of the changed row
    pub changed : (change : X → X) → next ≡ change row → record rows { entries = with_row n next rows.entries } ≡ record now { entries = with_change n change now.entries }
    changed change is =
        ap (λ (x : X). record rows { entries = with_row n x rows.entries }) is
        ∙ ap (λ (es : List (ℕ × X)). record rows { entries = es }) (only_changed n row change rows.entries only)
        ∙ ap (λ (t : Numbered X). record t { entries = with_change n change t.entries }) view_is

    -- a write of the same row
    pub unchanged : next ≡ row → record rows { entries = with_row n next rows.entries } ≡ now
    unchanged is =
        ap (λ (x : X). record rows { entries = with_row n x rows.entries }) is
        ∙ ap (λ (es : List (ℕ × X)). record rows { entries = es }) (only_changed n row (λ x. x) rows.entries only ∙ same_rows n rows.entries)
        ∙ view_is

  pub still_distinct : (n : ℕ) (row : X) (es : List (ℕ × X)) → HasDistinctNumbers es → HasDistinctNumbers (with_row n row es)
  still_distinct n row es distinct = distinct_alike (with_row n row es) es (numbers_stay n row es) distinct

  -- what is under the number after a write
  pub written : (n : ℕ) (row next : X) (es : List (ℕ × X)) → lookup (nat_eq n) es ≡ Some row → lookup (nat_eq n) (with_row n next es) ≡ Some next
  written n row next es found =
      lookup-with_row n n next es
      ∙ ap (λ (b : Bool). cond b (option_map (λ _. next) (lookup (nat_eq n) es)) (lookup (nat_eq n) es)) (itself n)
      ∙ ap (option_map (λ _. next)) found
