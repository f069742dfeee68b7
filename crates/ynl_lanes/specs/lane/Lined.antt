-- A line, as contracts see it.
use Rattle.std.specs.Prelude.{ℕ, List, [], ◌∷◌, Option, Some, None}
use Rattle.ynl_lanes.specs.declared.lane.kinds.Both.{Both}

-- the tickets by their slots, the values of each kind by theirs, and for how many tickets there is memory
pub record Lined (T : Type 0) : Type 0 where
  pub tickets : List ℕ
  pub masters : List T
  pub asks : List T
  pub room : ℕ

-- the tickets of a line with one slot
abbrev pub only_ticket : Option ℕ → List ℕ
only_ticket None = []
only_ticket (Some ticket) = ticket ∷ []

-- a line with one slot, or a longer one
abbrev pub lined : {T : Type 0} → Option ℕ → Both T → Option (Lined T) → Lined T
lined ticket values (Some long) = long
lined ticket values None = record { tickets = only_ticket ticket; masters = values.master ∷ []; asks = values.ask ∷ []; room = 1 }
