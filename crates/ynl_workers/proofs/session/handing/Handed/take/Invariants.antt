use Rattle.std.specs.Vec.Iter.{into_iter_items}
use Rattle.ynl_workers.proofs.session.Takes.{TakenSoFar}
use Rattle.ynl_workers.proofs.session.handing.Handed.take.Given as goal

abbrev pub invariant-loop-end : goal.invariant-loop-end
invariant-loop-end l = TakenSoFar l.fn.self.lists.items l.self.lists.items l.fn.ends.items (into_iter_items l.end-iterator)
