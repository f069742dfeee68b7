use Rattle.std.proofs.Common.{◌≡◌, ℕ, map, take}
use Rattle.ynl_slots.specs.Slots.{number_in}
use Rattle.ynl_slots.proofs.Walks.{left_from}
use Rattle.ynl_cluster.specs.Cluster.{state_in}
use Rattle.ynl_saved.specs.Handing.{TakesAll}
use Rattle.ynl_saved.specs.declared.lines.StateLine.TheVariants.{Node as NodeLine}
use Rattle.ynl_snapshots.proofs.saving.partitions.hand_nodes.Given as goal

-- the nodes before the next are told
abbrev pub invariant-loop-next : goal.invariant-loop-next
invariant-loop-next g l =
    (i : ℕ) × (l.next ≡ number_in l.cluster.rows.nodes i)
    × TakesAll g.S.LineSink.gives l.initial.sink (take i (map NodeLine (state_in l.cluster).nodes)) l.sink

-- one less is left
abbrev pub decreases-loop-next : goal.decreases-loop-next
decreases-loop-next g l = left_from l.next l.cluster.rows.nodes
