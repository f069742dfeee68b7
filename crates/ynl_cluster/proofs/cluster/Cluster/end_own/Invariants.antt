use Rattle.std.proofs.Common.{length}
use Rattle.ynl_inventory.specs.Apps.{containers_of}
use Rattle.ynl_cluster.specs.Finishing.{IsFinishing, OwnsNoneBefore}
use Rattle.ynl_cluster.proofs.cluster.Cluster.end_own.Given as goal

-- some of the partition's containers of the application ended, and it has none in the partitions before
abbrev pub invariant-loop-number : goal.invariant-loop-number
invariant-loop-number l = record {
  so : IsFinishing l.app l.fn.self l.self;
  none : OwnsNoneBefore l.self.rows l.app l.p;
}

-- each that ends is one less
abbrev pub decreases-loop-number : goal.decreases-loop-number
decreases-loop-number l = length (containers_of l.self.rows l.p)
