use Rattle.std.proofs.Common.{length}
use Rattle.ynl_queues.proofs.ways.+is_within.Given as goal

abbrev pub decreases-is_within : goal.decreases-is_within
decreases-is_within l = length l.queue.now
