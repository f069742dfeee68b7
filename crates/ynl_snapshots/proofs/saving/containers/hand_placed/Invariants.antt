use Rattle.std.proofs.Common.{◌≡◌, ℕ, map, take}
use Rattle.ynl_slots.specs.Slots.{number_in}
use Rattle.ynl_slots.proofs.Walks.{left_from}
use Rattle.ynl_inventory.specs.Apps.{containers_of}
use Rattle.ynl_inventory.specs.Meaning.{placed_of}
use Rattle.ynl_cluster.specs.Cluster.{label_of}
use Rattle.ynl_saved.specs.Handing.{TakesAll}
use Rattle.ynl_saved.specs.declared.lines.StateLine.TheVariants.{Container as ContainerLine}
use Rattle.ynl_snapshots.proofs.saving.containers.hand_placed.Given as goal

-- the containers before the next are told
abbrev pub invariant-loop-next : goal.invariant-loop-next
invariant-loop-next g l =
    (i : ℕ) × (l.next ≡ number_in (containers_of l.cluster.rows l.p) i)
    × TakesAll g.S.LineSink.gives l.initial.sink (take i (map ContainerLine (map (λ e. placed_of l.cluster.rows (label_of l.cluster l.p) e.1) (containers_of l.cluster.rows l.p)))) l.sink

-- one less is left
abbrev pub decreases-loop-next : goal.decreases-loop-next
decreases-loop-next g l = left_from l.next (containers_of l.cluster.rows l.p)
