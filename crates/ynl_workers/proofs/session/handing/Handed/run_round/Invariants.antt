use Rattle.std.proofs.Common.{◌≡◌, ◌<◌, vec_len}
use Rattle.std.specs.Slice.Iter.{chunks_rest, chunks_size}
use Rattle.ynl_workers.specs.session.Handed.{AreNotHalted}
use Rattle.ynl_workers.proofs.session.Rounds.{AddsSoFar}
use Rattle.ynl_workers.proofs.session.handing.Handed.run_round.Given as goal

abbrev pub invariant-loop-batch : goal.invariant-loop-batch
invariant-loop-batch g l =
    (goal.iterator-loop-batch g).can_next l.batch-iterator
    × (goal.iterator-loop-batch g).is_finite l.batch-iterator
    × (0 < chunks_size l.batch-iterator)
    × AddsSoFar (g.G.Gate.is_free l.gate) l.nodes (chunks_rest l.batch-iterator) l.fn.self.lists.items l.self.lists.items
    × (vec_len l.halted ≡ l.crew.workers)
    × (g.G.Gate.is_free l.gate → AreNotHalted l.halted.items)
