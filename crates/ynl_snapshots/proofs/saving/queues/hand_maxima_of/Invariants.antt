use Rattle.std.proofs.Common.{take}
use Rattle.std.specs.Prelude.{flat_map}
use Rattle.ynl_model.specs.Nodes.{partition_labels}
use Rattle.ynl_cluster.specs.Cluster.{path_of, state_in}
use Rattle.ynl_saved.specs.Handing.{TakesAll}
use Rattle.ynl_saved.specs.Saving.{maximum_lines}
use Rattle.ynl_snapshots.proofs.saving.queues.hand_maxima_of.Given as goal

-- the maxima on the partitions so far are told
abbrev pub invariant-loop-p : goal.invariant-loop-p
invariant-loop-p g l =
    TakesAll g.S.LineSink.gives l.initial.sink
    (flat_map (maximum_lines l.cluster.config (state_in l.cluster).maxima (path_of l.cluster l.queue)) (take l.p (partition_labels l.cluster.config.labels))) l.sink
