use Rattle.std.proofs.Common.{◌≡◌, ◌<◌, ℕ, List, Some, length, get_or, nat_eq, slice_get, sym, subst, ap, ◌∙◌}
use Rattle.std.proofs.Math.ListN.{set}
use Rattle.std.specs.List.{position_or_len}
use Rattle.std.proofs.lemmas.Option.{slice_get-get_or}
use Rattle.ynl_slots.specs.declared.chain.Chain.{Chain}
use Rattle.ynl_slots.specs.Slots.{IsLive, HasDistinctNumbers, with_row}
use Rattle.ynl_slots.proofs.Chaining.{numbers_stay}
use Rattle.ynl_slots.proofs.Entries.{distinct_alike}
use Rattle.ynl_tables.specs.apps.Chains.{no_chain}
use Rattle.ynl_tables.proofs.apps.Chaining.{place_live, with_row-set}
use Rattle.ynl_tables.proofs.apps.chains.Chains.set.Goals as goal

-- the row of a partition that has a place is read there
read-there : (n : ℕ) (chains : List (ℕ × Chain)) (place : ℕ) → IsLive n chains → place ≡ position_or_len (λ (e : ℕ × Chain). nat_eq n e.0) chains → slice_get chains place ≡ Some (get_or chains place (0, no_chain))
read-there n chains place live is =
    let within : position_or_len (λ (e : ℕ × Chain). nat_eq n e.0) chains < length chains = place_live n chains live in
    slice_get-get_or chains place (0, no_chain) (subst (λ (m : ℕ). m < length chains) (sym is) within)

-- what is written at the place
written : (n : ℕ) (chain : Chain) (chains : List (ℕ × Chain)) (place : ℕ) (row : ℕ × Chain) → HasDistinctNumbers chains → place ≡ position_or_len (λ (e : ℕ × Chain). nat_eq n e.0) chains → slice_get chains place ≡ Some row
    → set chains place (row.0, chain) ≡ with_row n chain chains
written n chain chains place row distinct is read =
    ap (λ (m : ℕ). set chains m (row.0, chain)) is ∙ sym (with_row-set n chain row chains distinct (sym (ap (slice_get chains) is) ∙ read))

pub set_row-requires : goal.set_row-requires
set_row-requires c =
    let n : ℕ = c.args.partition in
    let chains : List (ℕ × Chain) = c.self.inside.rows.items in
    let place = c.place_of-place.ensures ∙ ap (position_or_len (λ (row : ℕ × Chain). nat_eq n row.0)) c.as_slice.ensures in
    let within : position_or_len (λ (e : ℕ × Chain). nat_eq n e.0) chains < length chains = place_live n chains (subst (IsLive n) (sym c.self.view_is) c.requires) in
    subst (λ (m : ℕ). m < length chains) (sym place) within

pub invariant_of-self : goal.invariant_of-self
invariant_of-self c =
    let n : ℕ = c.args.partition in
    let chains : List (ℕ × Chain) = c.self.inside.rows.items in
    let place = c.place_of-place.ensures ∙ ap (position_or_len (λ (row : ℕ × Chain). nat_eq n row.0)) c.as_slice.ensures in
    let read = read-there n chains c.place_of-place.result (subst (IsLive n) (sym c.self.view_is) c.requires) place in
    let made = c.set_row.ensures _ read ∙ written n c.args.chain chains c.place_of-place.result _ c.self.invariant place read in
    subst HasDistinctNumbers (sym made) (distinct_alike (with_row n c.args.chain chains) chains (numbers_stay n c.args.chain chains) c.self.invariant)

pub returns : goal.returns
returns c =
    let n : ℕ = c.args.partition in
    let chains : List (ℕ × Chain) = c.self.inside.rows.items in
    let place = c.place_of-place.ensures ∙ ap (position_or_len (λ (row : ℕ × Chain). nat_eq n row.0)) c.as_slice.ensures in
    let read = read-there n chains c.place_of-place.result (subst (IsLive n) (sym c.self.view_is) c.requires) place in
    c.set_row.ensures _ read ∙ written n c.args.chain chains c.place_of-place.result _ c.self.invariant place read ∙ ap (with_row n c.args.chain) c.self.view_is
