-- Seats under their tickets.
use Rattle.std.proofs.Common.{◌≡◌, ℕ, Bool, true, false, cond, List, [], ◌∷◌, Some, nat_eq, refl, sym, ap, ◌∙◌, arith, true≢false}
use Rattle.std.specs.List.{AllByRecursion, slice_get}
use Rattle.std.specs.Map.{lookup}
use Rattle.std.proofs.lemmas.Bool.Decides.{nat_tests}
use Rattle.std.proofs.lemmas.Option.{same_Some, none-some}
use Rattle.ynl_slots.specs.Slots.{IsUnused, HasDistinctNumbers}
use Rattle.ynl_lanes.specs.declared.lane.rows.SeatRow.{SeatRow}
use Rattle.ynl_lanes.specs.declared.lane.levels.Level.{Level}
use Rattle.ynl_lanes.specs.lane.Levels.{slot_in, is_slot, stands_at, IsIn, AreIn}
use Rattle.ynl_lanes.specs.lane.Found.{EachSeat}
use Rattle.ynl_lanes.proofs.lane.Lists.{all_lookup}

-- the line has the ticket of a seat at its slot
pub in_line-at : (level : Level) (tickets : List ℕ) (seats : List (ℕ × SeatRow)) (ticket slot : ℕ) (row : SeatRow) → AreIn level tickets seats → lookup (nat_eq ticket) seats ≡ Some row → slot_in level row ≡ Some slot → slice_get tickets slot ≡ Some ticket
in_line-at level tickets seats ticket slot row h found at = all_lookup (IsIn level tickets) ticket row seats h.in_line found slot at

-- so one seat stands in a slot
pub one_at : (level : Level) (tickets : List ℕ) (seats : List (ℕ × SeatRow)) (m n slot : ℕ) (row other : SeatRow) → AreIn level tickets seats → lookup (nat_eq m) seats ≡ Some row → slot_in level row ≡ Some slot → lookup (nat_eq n) seats ≡ Some other → slot_in level other ≡ Some slot → (m ≡ n) × (row ≡ other)
one_at level tickets seats m n slot row other h found at there also =
    let same : m ≡ n = same_Some _ _ (sym (in_line-at level tickets seats m slot row h found at) ∙ in_line-at level tickets seats n slot other h there also) in
    (same, same_Some _ _ (sym found ∙ ap (λ k. lookup (nat_eq k) seats) same ∙ there))

-- and none does where its ticket is of another seat, or of none
pub none_at : (level : Level) (tickets : List ℕ) (seats : List (ℕ × SeatRow)) (ticket slot : ℕ) → AreIn level tickets seats → slice_get tickets slot ≡ Some ticket → stands_at level slot (lookup (nat_eq ticket) seats) ≡ false → EachSeat (λ n row. ¬ (slot_in level row ≡ Some slot)) seats
none_at level tickets seats ticket slot h read fails n row found at =
    let same : n ≡ ticket = same_Some _ _ (sym (in_line-at level tickets seats n slot row h found at) ∙ read) in
    let here : stands_at level slot (lookup (nat_eq ticket) seats) ≡ true = ap (λ k. stands_at level slot (lookup (nat_eq k) seats)) (sym same) ∙ ap (stands_at level slot) found ∙ ap (is_slot slot) at ∙ same_slot slot in
    true≢false (sym here ∙ fails)
  where
    same_slot : (slot : ℕ) → is_slot slot (Some slot) ≡ true
    same_slot slot = grind (arith, nat_tests)

unused-found : {X : Type 0} (n m : ℕ) (es : List (ℕ × X)) (row : X) → n ≡ m → IsUnused m es → lookup (nat_eq n) es ≡ Some row → ⊥
unused-found n m [] row same apart found = none-some row found
unused-found n m (e ∷ es) row same apart found = go (nat_eq n e.0) refl found (λ behind. unused-found n m es row same apart.1 behind)
  where
    go : (b : Bool) → nat_eq n e.0 ≡ b → cond b (Some e.1) (lookup (nat_eq n) es) ≡ Some row → (lookup (nat_eq n) es ≡ Some row → ⊥) → ⊥
    go true q is later = apart.0 (sym (let here : n ≡ e.0 = grind (arith, nat_tests) in here) ∙ same)
    go false q is later = later is

-- what holds of each seat holds of all entries
pub all_from_each : {X : Type 0} (P : ℕ × X → Type 0) (es : List (ℕ × X)) → HasDistinctNumbers es → ((n : ℕ) (row : X) → lookup (nat_eq n) es ≡ Some row → P (n, row)) → AllByRecursion P es
all_from_each P [] h f = tt
all_from_each {X = X} P (e ∷ es) h f = (f e.0 e.1 (first (nat_eq e.0 e.0) (grind (arith, nat_tests))), all_from_each P es h.1 (λ n row found. f n row (behind n row (nat_eq n e.0) refl found)))
  where
    first : (b : Bool) → b ≡ true → cond b (Some e.1) (lookup (nat_eq e.0) es) ≡ Some e.1
    first true q = refl
    first false q = absurd (true≢false (sym q))

    behind : (n : ℕ) (row : X) (b : Bool) → nat_eq n e.0 ≡ b → lookup (nat_eq n) es ≡ Some row → cond b (Some e.1) (lookup (nat_eq n) es) ≡ Some row
    behind n row true q found = absurd (unused-found n e.0 es row (let here : n ≡ e.0 = grind (arith, nat_tests) in here) h.0 found)
    behind n row false q found = found
