-- The queues so far are copied, and the place is that of the last of them.
use Rattle.std.specs.Prelude.{slice_index_or}
use Rattle.ynl_cluster.specs.Cluster.{path_of}
use Rattle.ynl_sights.specs.Copying.{AddsTo, IsAt}
use Rattle.ynl_sights.proofs.ways.add_queues.Given as goal

abbrev pub invariant-loop-depth : goal.invariant-loop-depth
invariant-loop-depth l = record {
  place : IsAt l.cluster l.p (slice_index_or l.line l.depth 0) l.place;
  queues : AddsTo l.cluster l.p (path_of l.cluster l.fn.leaf) l.depth l.fn.queues.items l.queues.items;
}
