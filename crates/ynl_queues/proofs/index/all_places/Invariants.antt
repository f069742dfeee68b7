use Rattle.std.proofs.Common.{take}
use Rattle.ynl_queues.specs.Index.{ArePlaces}
use Rattle.ynl_queues.proofs.index.all_places.Given as goal

abbrev pub invariant-loop-i : goal.invariant-loop-i
invariant-loop-i l = ArePlaces (take l.i l.rows) l.places
