-- Seats under their tickets.
use Rattle.std.specs.Prelude.{◌≡◌, ℕ, List, Some, nat_eq}
use Rattle.std.specs.Map.{lookup}
use Rattle.ynl_lanes.specs.declared.lane.rows.SeatRow.{SeatRow}
use Rattle.ynl_lanes.specs.declared.lane.levels.Level.{Level}
use Rattle.ynl_lanes.specs.lane.Levels.{slot_in}

-- what holds of each seat
abbrev pub EachSeat : (ℕ → SeatRow → Type 0) → List (ℕ × SeatRow) → Type 0
EachSeat holds seats = (ticket : ℕ) (row : SeatRow) → lookup (nat_eq ticket) seats ≡ Some row → holds ticket row

-- the seat of a ticket stands in a slot of a line
pub record IsSeatAt (level : Level) (slot : ℕ) (seats : List (ℕ × SeatRow)) (ticket : ℕ) (row : SeatRow) : Type 0 where
  pub found : lookup (nat_eq ticket) seats ≡ Some row
  pub at : slot_in level row ≡ Some slot
