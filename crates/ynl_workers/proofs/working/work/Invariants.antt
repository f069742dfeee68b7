use Rattle.std.proofs.Common.{vec_capacity}
use Rattle.ynl_workers.proofs.Turning.{IsWorkTo}
use Rattle.ynl_workers.proofs.working.work.Given as goal

abbrev pub invariant-loop-number : goal.invariant-loop-number
invariant-loop-number g l = IsWorkTo l.nodes l.receipts.items l.number l.fn.seat l.seat (vec_capacity l.fn.receipts) (vec_capacity l.receipts)
