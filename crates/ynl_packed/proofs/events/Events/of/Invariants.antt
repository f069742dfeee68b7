use Rattle.std.proofs.Common.{◌≡◌, take}
use Rattle.ynl_packed.proofs.events.Events.of.Given as goal

abbrev pub invariant-loop-event : goal.invariant-loop-event
invariant-loop-event l = l.kept ≡ take l.event-index l.events
