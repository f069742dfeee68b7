use Rattle.std.proofs.Common.{◌≡◌}
use Rattle.std.specs.Prelude.{flat_map}
use Rattle.ynl_cluster.specs.Cluster.{label_of}
use Rattle.ynl_cluster.specs.requests.Requests.{asked, master_wanted}
use Rattle.ynl_sights.specs.Copying.{offers_at, AreLeavesOn}
use Rattle.ynl_sights.specs.Lists.{AreListsOf}
use Rattle.ynl_sights.specs.Rows.{asks_in, masters_in}
use Rattle.ynl_sights.proofs.Leaves.{leaves_before}
use Rattle.ynl_sights.proofs.copying.leaf_sights.Given as goal

abbrev pub invariant-loop-queue : goal.invariant-loop-queue
invariant-loop-queue l = record {
  leaves : AreLeavesOn l.cluster l.p l.leaves;
  lists : AreListsOf l.cluster.rows l.lists;
  masters : masters_in l.leaves ≡ flat_map (offers_at l.cluster l.p (master_wanted l.cluster.rows l.p)) (leaves_before l.cluster.rows.paths l.queue);
  asks : asks_in (label_of l.cluster l.p) l.leaves ≡ flat_map (offers_at l.cluster l.p (asked l.cluster.rows l.p)) (leaves_before l.cluster.rows.paths l.queue);
}
