use Rattle.std.proofs.Common.{List}
use Rattle.ynl_model.specs.Queues.{QueueRow}
use Rattle.ynl_queues.specs.Index.{ArePlaces, AreStepsTo}
use Rattle.ynl_queues.proofs.index.steps_to.Given as goal

abbrev pub invariant-loop-depth : goal.invariant-loop-depth
invariant-loop-depth l = (rows : List QueueRow) → ArePlaces rows l.places → AreStepsTo rows l.queue l.depth l.steps.items
