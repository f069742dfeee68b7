-- Room for one more seat.
use Rattle.std.specs.Prelude.{◌≡◌, ℕ, List}
use Rattle.ynl_lanes.specs.declared.lane.kinds.Kind.{Kind}
use Rattle.ynl_lanes.specs.declared.lane.rows.SeatRow.{SeatRow}
use Rattle.ynl_lanes.specs.declared.lane.rows.UserRow.{UserRow}
use Rattle.ynl_lanes.specs.lane.Rows.{waits_in}

-- the seat is the same, in whatever slots it stands, and the same waits there
pub record IsSameSeat (old new : List (ℕ × UserRow)) (e f : ℕ × SeatRow) : Type 0 where
  pub ticket : f.0 ≡ e.0
  pub app : f.1.app ≡ e.1.app
  pub user : f.1.user ≡ e.1.user
  pub waits : (kind : Kind) → waits_in kind new f.1 ≡ waits_in kind old e.1
