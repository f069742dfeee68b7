-- The lines of each state that events reach from one that lines told are sound one after another, and tell that state.
use Rattle.std.proofs.Common.{◌≡◌, List, Some}
use Rattle.std.specs.List.{AllByRecursion}
use Rattle.std.specs.Prelude.{IsTrue}
use Rattle.ynl_model.specs.Accepted.{is_accepted}
use Rattle.ynl_model.specs.Events.{after}
use Rattle.ynl_model.specs.Queues.{Config}
use Rattle.ynl_model.specs.declared.events.Event.{Event}
use Rattle.ynl_saved.specs.Restoring.{Restored, nothing_restored, restored_by}
use Rattle.ynl_saved.specs.Saving.{state_lines}
use Rattle.ynl_laws.specs.Bounded.{AreRanged}
use Rattle.ynl_laws.specs.Working.{IsWorking}
use Rattle.ynl_laws.proofs.Soundness.Working.{working-after}
use Rattle.ynl_saved.specs.Asks.{AllWithin, IsCounted}
use Rattle.ynl_saved.proofs.Counts.{within-after}
use Rattle.ynl_saved.proofs.Restored.{IsRestored, restored-works}
use Rattle.ynl_saved.proofs.Tellable.{tellable-after}
use Rattle.ynl_saved.proofs.Telling.{tells}

-- from one that lines told, whatever events come
pub reached-tells : (c : Config) → IsTrue (is_accepted c) → (r : Restored) → IsRestored c r → (events : List Event) →
    (new : Restored) × (restored_by c (nothing_restored c) (state_lines c (after c r.state events)) ≡ Some new) × (new.state ≡ after c r.state events)
reached-tells c accepted r h events = let saveable = h.saveable in tells c accepted (after c r.state events) (tellable-after c accepted events r.state saveable.tellable)

-- each state works that events reach from one that lines told, where their sizes are in range
pub reached-works : (c : Config) (r : Restored) → IsRestored c r → (events : List Event) → AreRanged events → IsWorking c (after c r.state events)
reached-works c r h events ranged = working-after c events r.state ranged (restored-works c r h)

-- and no ask counts more than an ask may, where none does that lines told, and none that they set
pub reached-within : (c : Config) → IsTrue (is_accepted c) → (r : Restored) → IsRestored c r → AllWithin r.state.leaves → (events : List Event) → AllByRecursion IsCounted events → AllWithin (after c r.state events).leaves
reached-within c accepted r h within events counted = let saveable = h.saveable in within-after c accepted events r.state saveable.tellable counted within
