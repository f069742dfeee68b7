use Rattle.std.proofs.Common.{length}
use Rattle.ynl_inventory.specs.Apps.{containers_of}
use Rattle.ynl_cluster.specs.Leaving.{IsLeaving}
use Rattle.ynl_cluster.proofs.cluster.Cluster.clear.Given as goal

-- some of the node's containers went, and all else is as it was
abbrev pub invariant-loop-number : goal.invariant-loop-number
invariant-loop-number l = IsLeaving l.node l.p l.fn.self l.self

-- each that goes is one less
abbrev pub decreases-loop-number : goal.decreases-loop-number
decreases-loop-number l = length (containers_of l.self.rows l.p)
