-- The applications of a lane's seats.
use Rattle.std.specs.Prelude.{ℕ, List, map, filter, nat_lt}
use Rattle.ynl_lanes.specs.declared.lane.rows.SeatRow.{SeatRow}

-- those of the seats that stand before a slot
abbrev pub apps_before : ℕ → List (ℕ × SeatRow) → List ℕ
apps_before slot seats = map (λ e. e.1.app) (filter (λ e. nat_lt e.1.slot slot) seats)
