use Rattle.ynl_slots.proofs.Walks.{IsWalk, left_from}
use Rattle.ynl_inventory.specs.Meaning.{node_of}
use Rattle.ynl_cluster.specs.Cluster.{state_in}
use Rattle.ynl_waits.specs.Grounds.{spot}
use Rattle.ynl_service.proofs.reading.gathering.spots_of.Given as goal

-- the nodes before the next have their spots
abbrev pub invariant-loop-next : goal.invariant-loop-next
invariant-loop-next l = IsWalk (λ e. spot (state_in l.cluster) (node_of l.cluster.rows.partitions e.1)) l.cluster.rows.nodes l.next l.spots.items

-- one less is left
abbrev pub decreases-loop-next : goal.decreases-loop-next
decreases-loop-next l = left_from l.next l.cluster.rows.nodes
