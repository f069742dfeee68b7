use Rattle.std.specs.Vec.{vec_capacity}
use Rattle.ynl_service.proofs.Beaten.{Serving}
use Rattle.ynl_service.proofs.serving.serve.Given as goal

abbrev pub decreases-loop-left : goal.decreases-loop-left
decreases-loop-left l = l.left

abbrev pub invariant-loop-left : goal.invariant-loop-left
invariant-loop-left l = Serving l.fn.cluster l.node l.fn.times l.fn.placed.items l.cluster l.shut l.left (vec_capacity l.placed) l.placed.items
