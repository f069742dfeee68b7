-- The lines that a seat stands in: that of the lane, and that of its user.
use Rattle.std.specs.Prelude.{◌≡◌, ⊤, ℕ, ◌<◌, Bool, false, ◌==◌, nat_eq, List, [], ◌∷◌, Option, Some, None, slice_get, slice_index_or, if◌then◌else◌}
use Rattle.std.specs.List.{AllByRecursion}
use Rattle.ynl_lanes.specs.declared.lane.kinds.Kind.{Kind}
use Rattle.ynl_lanes.specs.lane.Lined.{Lined}
use Rattle.ynl_lanes.specs.declared.lane.rows.SeatRow.{SeatRow}
use Rattle.ynl_lanes.specs.declared.lane.levels.Level.{Level}
use Rattle.ynl_lanes.specs.declared.lane.levels.Level.TheVariants.{Lane, User}
use Rattle.ynl_lanes.specs.lane.Lines.{values_of}

-- the slot of a seat in a line, if it stands in it
abbrev pub slot_in : Level → SeatRow → Option ℕ
slot_in Lane row = Some row.slot
slot_in (User user) row = if nat_eq row.user user then Some row.own_slot else None

-- the seat with another slot in a line
abbrev pub at_slot : Level → ℕ → SeatRow → SeatRow
at_slot Lane slot row = record row { slot = slot }
at_slot (User user) slot row = if nat_eq row.user user then record row { own_slot = slot } else row

-- whether this is the slot
abbrev pub is_slot : ℕ → Option ℕ → Bool
is_slot slot None = false
is_slot slot (Some at) = at == slot

-- whether a seat, if there is one, stands in a slot of a line
abbrev pub stands_at : Level → ℕ → Option SeatRow → Bool
stands_at level slot None = false
stands_at level slot (Some row) = is_slot slot (slot_in level row)

-- the line has the ticket at the slot of its seat
abbrev pub IsIn : Level → List ℕ → ℕ × SeatRow → Type 0
IsIn level tickets e = (slot : ℕ) → slot_in level e.1 ≡ Some slot → slice_get tickets slot ≡ Some e.0

-- the first stands before the second, where both stand in the line
abbrev pub IsBefore : Level → ℕ × SeatRow → ℕ × SeatRow → Type 0
IsBefore level e f = (m n : ℕ) → slot_in level e.1 ≡ Some m → slot_in level f.1 ≡ Some n → m < n

-- so it is with each and all after it
abbrev pub AreOrdered : {X : Type 0} → (X → X → Type 0) → List X → Type 0
AreOrdered R [] = ⊤
AreOrdered R (x ∷ xs) = AllByRecursion (R x) xs × AreOrdered R xs

-- the things of two lists go together, one by one
abbrev pub ArePairs : {X Y : Type 0} → (X → Y → Type 0) → List X → List Y → Type 0
ArePairs R [] [] = ⊤
ArePairs R (x ∷ xs) (y ∷ ys) = R x y × ArePairs R xs ys
ArePairs R _ _ = ⊥

-- the seats stand in the line in their order
pub record AreIn (level : Level) (tickets : List ℕ) (seats : List (ℕ × SeatRow)) : Type 0 where
  pub in_line : AllByRecursion (IsIn level tickets) seats
  pub ordered : AreOrdered (IsBefore level) seats

-- a seat has another slot in a line, at which the new line has the values that the old one had at the old slot
pub record IsMoved {T : Type 0} (level : Level) (old new : Lined T) (e f : ℕ × SeatRow) : Type 0 where
  pub ticket : f.0 ≡ e.0
  pub slot : ℕ
  pub row : f.1 ≡ at_slot level slot e.1
  pub values : (kind : Kind) (from : ℕ) → slot_in level e.1 ≡ Some from → (d : T) → slice_index_or (values_of kind new) slot d ≡ slice_index_or (values_of kind old) from d
