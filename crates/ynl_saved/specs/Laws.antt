-- What is promised of saved states, as statements over the definitions.
use Rattle.std.specs.Prelude.{◌≡◌, List, IsTrue, Some}
use Rattle.std.specs.List.{AllByRecursion}
use Rattle.ynl_model.specs.Accepted.{is_accepted}
use Rattle.ynl_model.specs.Cluster.{State}
use Rattle.ynl_model.specs.Events.{after, state_after}
use Rattle.ynl_model.specs.Queues.{Config}
use Rattle.ynl_model.specs.declared.events.Event.{Event}
use Rattle.ynl_laws.specs.Bounded.{AreRanged}
use Rattle.ynl_laws.specs.Working.{IsWorking}
use Rattle.ynl_saved.specs.Restoring.{Restored, nothing_restored, restored_by}
use Rattle.ynl_saved.specs.Saving.{state_lines}
use Rattle.ynl_saved.specs.declared.lines.StateLine.{StateLine}
use Rattle.ynl_saved.specs.Asks.{AllWithin, IsCounted}
use Rattle.ynl_saved.specs.Lines.{IsCountedLine, IsSizedLine}

-- the lines of a state are sound one after another, and tell that state
abbrev pub IsTold : Config → State → Type 0
IsTold c s = (r : Restored) × (restored_by c (nothing_restored c) (state_lines c s) ≡ Some r) × (r.state ≡ s)

-- the lines of the state after events are sound one after another, and tell that state
abbrev pub TellsState : Type 0
TellsState =
    (c : Config) (events : List Event) → IsTrue (is_accepted c)
    → (r : Restored) × (restored_by c (nothing_restored c) (state_lines c (state_after c events)) ≡ Some r) × (r.state ≡ state_after c events)

-- under an accepted configuration, some lines whose sizes are in range are sound one after another, and tell this
pub record Restores (c : Config) (lines : List StateLine) (r : Restored) : Type 0 where
  pub accepted : IsTrue (is_accepted c)
  pub sized : AllByRecursion IsSizedLine lines
  pub told : restored_by c (nothing_restored c) lines ≡ Some r

-- of the state that such lines told, and of each that events reach from it, the lines are sound one after another, and tell that state
abbrev pub AreRestoredTold : Type 0
AreRestoredTold = (c : Config) (lines : List StateLine) (r : Restored) → Restores c lines r → (events : List Event) → IsTold c (after c r.state events)

-- the state that such lines told works, and so does each that events reach from it whose sizes are in range
abbrev pub DoRestoredWork : Type 0
DoRestoredWork = (c : Config) (lines : List StateLine) (r : Restored) → Restores c lines r → (events : List Event) → AreRanged events → IsWorking c (after c r.state events)

-- no ask of the state after events counts more than an ask may, where none does that they set
abbrev pub AreAsksWithin : Type 0
AreAsksWithin = (c : Config) (events : List Event) → IsTrue (is_accepted c) → AllByRecursion IsCounted events → AllWithin (state_after c events).leaves

-- nor does one of the state that lines told none of whose asks does, and of each that such events reach from it
abbrev pub AreRestoredAsksWithin : Type 0
AreRestoredAsksWithin =
    (c : Config) (lines : List StateLine) (r : Restored) → Restores c lines r → AllByRecursion IsCountedLine lines → (events : List Event) → AllByRecursion IsCounted events → AllWithin (after c r.state events).leaves
