use Rattle.std.proofs.Common.{map, take}
use Rattle.ynl_cluster.specs.Cluster.{state_in}
use Rattle.ynl_saved.specs.Handing.{TakesAll}
use Rattle.ynl_saved.specs.Saving.{partition_line}
use Rattle.ynl_snapshots.proofs.saving.partitions.hand_partitions.Given as goal

-- the partitions so far are told
abbrev pub invariant-loop-p : goal.invariant-loop-p
invariant-loop-p g l = TakesAll g.S.LineSink.gives l.initial.sink (take l.p (map partition_line (state_in l.cluster).partitions)) l.sink
