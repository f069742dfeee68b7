-- The containers of a partition are told apart by their clocks.
use Rattle.std.proofs.Common.{◌≡◌, ◌<◌, ℕ, zero, suc, List, [], ◌∷◌, slice_get, Some, nat_eq, refl, sym, ap, ◌∙◌, arith}
use Rattle.std.specs.Map.{lookup}
use Rattle.std.proofs.lemmas.Bool.Decides.{nat_tests}
use Rattle.std.proofs.lemmas.Map.Entries.{place_from_lookup}
use Rattle.std.proofs.lemmas.Option.{none-some, same_Some}
use Rattle.ynl_tables.specs.declared.containers.container.Container.{Container}
use Rattle.ynl_tables.specs.containers.Table.{IsRising}
use Rattle.ynl_inventory.proofs.Lookups.{in-place}

-- a clock has one place
rising-places : (es : List (ℕ × Container)) (i j : ℕ) (a b : ℕ × Container) → IsRising es → slice_get es i ≡ Some a → slice_get es j ≡ Some b → a.1.clock ≡ b.1.clock → i ≡ j
rising-places [] i j a b r at there same = absurd (none-some a at)
rising-places (e ∷ es) zero zero a b r at there same = refl
rising-places (e ∷ es) zero (suc j) a b r at there same =
    let below : e.1.clock < b.1.clock = in-place (λ f. e.1.clock < f.1.clock) es j b r.0 there in
    let is : e.1.clock ≡ a.1.clock = ap (λ (f : ℕ × Container). f.1.clock) (same_Some e a at) in
    absurd (omega arith)
rising-places (e ∷ es) (suc i) zero a b r at there same =
    let below : e.1.clock < a.1.clock = in-place (λ f. e.1.clock < f.1.clock) es i a r.0 at in
    let is : e.1.clock ≡ b.1.clock = ap (λ (f : ℕ × Container). f.1.clock) (same_Some e b there) in
    absurd (omega arith)
rising-places (e ∷ es) (suc i) (suc j) a b r at there same = ap suc (rising-places es i j a b r.1 at there same)

-- a clock has one number
pub rising-numbers : (es : List (ℕ × Container)) (n m : ℕ) (a b : Container) → IsRising es → lookup (nat_eq n) es ≡ Some a → lookup (nat_eq m) es ≡ Some b → a.clock ≡ b.clock → n ≡ m
rising-numbers es n m a b r at there same =
    let one = place_from_lookup (nat_eq n) es a at in
    let two = place_from_lookup (nat_eq m) es b there in
    let is : one.0 ≡ two.0 = rising-places es one.0 two.0 (one.1, a) (two.1, b) r one.2 two.2 same in
    let both : ◌≡◌ {A = ℕ × Container} (one.1, a) (two.1, b) = same_Some (one.1, a) (two.1, b) (sym one.2 ∙ ap (slice_get es) is ∙ two.2) in
    let numbers : one.1 ≡ two.1 = ap (λ (e : ℕ × Container). e.0) both in
    grind (arith, nat_tests, numbers, one.3, two.3)
