-- How the seat of a ticket goes to another slot.
use Rattle.std.specs.Prelude.{◌≡◌, ℕ, List, nat_eq, Some}
use Rattle.std.specs.Map.{lookup}
use Rattle.ynl_slots.specs.Slots.{with_row}
use Rattle.ynl_lanes.specs.declared.lane.rows.SeatRow.{SeatRow}
use Rattle.ynl_lanes.specs.declared.lane.levels.Level.{Level}
use Rattle.ynl_lanes.specs.lane.Levels.{at_slot}

-- the row of the ticket has another slot in the line
pub record Moves (level : Level) (ticket slot : ℕ) (old new : List (ℕ × SeatRow)) : Type 0 where
  pub row : SeatRow
  pub found : lookup (nat_eq ticket) old ≡ Some row
  pub entries : new ≡ with_row ticket (at_slot level slot row) old
