-- Lines of tickets, with a value of each kind at each slot.
use Rattle.std.specs.Prelude.{ℕ, ◌-◌, ◌<◌, ◌≤◌, ◌^◌, List, length, slice_set, slice_index_or}
use Rattle.ynl_lanes.specs.declared.lane.kinds.Kind.{Kind}
use Rattle.ynl_lanes.specs.declared.lane.kinds.Kind.TheVariants.{Master, Ask}
use Rattle.ynl_lanes.specs.lane.Lined.{Lined}

module _ {T : Type 0} where
  -- the values of a kind
  abbrev pub values_of : Kind → Lined T → List T
  values_of Master line = line.masters
  values_of Ask line = line.asks

  -- one more ticket takes no memory
  pub record HasRoom (line : Lined T) : Type 0 where
    pub tickets : length line.tickets < line.room
    pub masters : length line.tickets < length line.masters
    pub asks : length line.tickets < length line.asks
    pub small : length line.tickets < 2 ^ 32 - 1

  -- each ticket has a value of each kind, and each slot a number below 2^32
  pub record IsLine (line : Lined T) : Type 0 where
    pub small : length line.tickets < 2 ^ 32
    pub masters : length line.tickets ≤ length line.masters
    pub asks : length line.tickets ≤ length line.asks

  -- a value goes from a slot to another, and leaves none behind
  abbrev pub moved : T → ℕ → ℕ → List T → List T
  moved none from to values = slice_set (slice_set values from none) to (slice_index_or values from none)
