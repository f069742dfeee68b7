use Rattle.std.proofs.Common.{length}
use Rattle.ynl_lanes.proofs.firsts.Searched.{IsReached, left}
use Rattle.ynl_lanes.proofs.firsts.tree.search.Given as goal

abbrev pub invariant-nodes : goal.invariant-nodes
invariant-nodes g l = IsReached (g.P.Test.passes l.test) l.tree l.from l.node l.height

abbrev pub decreases-nodes : goal.decreases-nodes
decreases-nodes g l = left (length l.tree) l.node l.height
