use Rattle.std.specs.List.{All}
use Rattle.ynl_queues.specs.Index.{AreShares}
use Rattle.ynl_queues.proofs.index.all_shares.Given as goal

abbrev pub invariant-loop-row : goal.invariant-loop-row
invariant-loop-row l = All (AreShares l.config) l.shares.items
