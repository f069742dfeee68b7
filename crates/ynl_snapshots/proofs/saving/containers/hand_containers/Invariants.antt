use Rattle.std.proofs.Common.{map, take}
use Rattle.std.specs.Prelude.{flat_map}
use Rattle.ynl_model.specs.Cluster.{Partition}
use Rattle.ynl_cluster.specs.Cluster.{state_in}
use Rattle.ynl_saved.specs.Handing.{TakesAll}
use Rattle.ynl_saved.specs.declared.lines.StateLine.TheVariants.{Container as ContainerLine}
use Rattle.ynl_snapshots.proofs.saving.containers.hand_containers.Given as goal

-- the containers of the partitions so far are told
abbrev pub invariant-loop-p : goal.invariant-loop-p
invariant-loop-p g l = TakesAll g.S.LineSink.gives l.initial.sink (flat_map (λ (row : Partition). map ContainerLine row.containers) (take l.p (state_in l.cluster).partitions)) l.sink
