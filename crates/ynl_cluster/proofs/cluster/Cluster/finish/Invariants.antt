use Rattle.ynl_cluster.specs.Finishing.{IsFinishing, OwnsNoneBefore}
use Rattle.ynl_cluster.proofs.cluster.Cluster.finish.Given as goal

-- the application's containers ended in the partitions so far
abbrev pub invariant-loop-p : goal.invariant-loop-p
invariant-loop-p l = record {
  so : IsFinishing l.app l.fn.self l.self;
  none : OwnsNoneBefore l.self.rows l.app l.p;
}
