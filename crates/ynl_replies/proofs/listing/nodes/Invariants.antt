use Rattle.ynl_slots.proofs.Walks.{IsWalk, left_from}
use Rattle.ynl_inventory.specs.Meaning.{node_of}
use Rattle.ynl_replies.proofs.listing.nodes.Given as goal

-- the nodes before the next are told
abbrev pub invariant-loop-next : goal.invariant-loop-next
invariant-loop-next l = IsWalk (λ e. node_of l.cluster.rows.partitions e.1) l.cluster.rows.nodes l.next l.list.items

-- one less is left
abbrev pub decreases-loop-next : goal.decreases-loop-next
decreases-loop-next l = left_from l.next l.cluster.rows.nodes
