-- A list that is kept stands in its place, and the others in theirs.
use Rattle.std.proofs.Common.{◌≡◌, ℕ, List, slice_get, slice_set, Option, None, Some, inl, inr, refl, sym, ap, subst, ◌∙◌}
use Rattle.std.specs.Option.{option_and_then}
use Rattle.std.proofs.lemmas.Option.{none-some}
use Rattle.ynl_inventory.proofs.PartLists.{set-cases}

-- each value that is told stands under its number
abbrev AreIn : {X Y : Type 0} → (X → Option Y) → (ℕ → Y → Type 0) → List X → Type 0
AreIn {Y = Y} f P xs = (n : ℕ) (y : Y) → option_and_then f (slice_get xs n) ≡ Some y → P n y

-- one more is set
pub set-in : {X Y : Type 0} (f : X → Option Y) (P : ℕ → Y → Type 0) (xs : List X) (i : ℕ) (old new : X) → slice_get xs i ≡ Some old → ((y : Y) → f new ≡ Some y → P i y) → AreIn f P xs → AreIn f P (slice_set xs i new)
set-in {X = X} f P xs i old new at good all n y = go (slice_get (slice_set xs i new) n) refl
  where
    go : (o : Option X) → slice_get (slice_set xs i new) n ≡ o → option_and_then f o ≡ Some y → P n y
    go None is told = absurd (none-some y told)
    go (Some x) is told = elim (set-cases xs i n old new x at is) [
      | inl here ↦ subst (λ k. P k y) (sym here.0) (good y (ap f (sym here.1) ∙ told))
      | inr there ↦ all n y (ap (option_and_then f) there.1 ∙ told)
    ]
