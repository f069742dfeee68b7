-- How a node leaves: its containers go first.
use Rattle.std.specs.Prelude.{◌≡◌, ℕ}
use Rattle.ynl_slots.specs.Slots.{IsLive}
use Rattle.ynl_inventory.specs.Changes.{partition_of_node, with_left}
use Rattle.ynl_inventory.specs.Sound.{IsSound}
use Rattle.ynl_cluster.specs.Cluster.{ClusterView}

-- a node is leaving: some of its containers went with it, and all else is as it was
pub record IsLeaving (node p : ℕ) (old now : ClusterView) : Type 0 where
  pub same : now ≡ record old { rows = now.rows; rooms = now.rooms }
  pub left : with_left node now.rows ≡ with_left node old.rows
  pub nodes : now.rows.nodes ≡ old.rows.nodes
  pub place : p ≡ partition_of_node now.rows.nodes node
  pub live : IsLive node now.rows.nodes
  pub sound : IsSound now.rows
