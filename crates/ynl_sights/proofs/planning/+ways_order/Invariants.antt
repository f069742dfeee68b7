use Rattle.std.proofs.Common.{length}
use Rattle.ynl_sights.proofs.planning.+ways_order.Given as goal

abbrev pub decreases-ways_order : goal.decreases-ways_order
decreases-ways_order l = length l.a.now
