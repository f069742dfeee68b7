-- Seats.
use Rattle.std.specs.Prelude.{ℕ, ◌+◌}

-- how many calls were answered on a seat, and the least place that the next one can have
pub record Standing : Type 0 where
  pub calls : ℕ
  pub front : ℕ

-- the seat behind a call at this place
abbrev pub passed : Standing → ℕ → Standing
passed seat place = record { calls = seat.calls + 1; front = place + 1 }
