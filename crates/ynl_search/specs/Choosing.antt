-- What is chosen for a node.
use Rattle.std.specs.Prelude.{◌≡◌, ◌<◌, ℕ, true, nat_eq, slice_get, Option, Some, option_map}
use Rattle.std.specs.Map.{lookup}
use Rattle.ynl_resource.specs.Amounts.{fits_in}
use Rattle.ynl_model.specs.Service.{choice}
use Rattle.ynl_slots.specs.Slots.{IsLive}
use Rattle.ynl_inventory.specs.Rows.{NodeRow, PartitionRow, Rows}
use Rattle.ynl_inventory.specs.Changes.{partition_of_node}
use Rattle.ynl_inventory.specs.Meaning.{node_of}
use Rattle.ynl_inventory.specs.Parts.{free_of}
use Rattle.ynl_inventory.specs.Sound.{IsAskedThere, IsPlaceable}
use Rattle.ynl_cluster.specs.Cluster.{ClusterView, state_in}
use Rattle.ynl_search.specs.declared.found.Found.{Found}
use Rattle.ynl_search.specs.Laws.{item_found}
use Rattle.ynl_search.specs.Scenes.{IsFirstGuest, IsFirstOwn}

-- what was found is the first of all that is eligible on a node
abbrev pub IsFirstOwnOn : ClusterView → ℕ → Option Found → Type 0
IsFirstOwnOn w n found = (row : NodeRow) → lookup (nat_eq n) w.rows.nodes ≡ Some row → IsFirstOwn w row.partition (node_of w.rows.partitions row) 0 found

-- it is the first of all that a node has room for as a guest
abbrev pub IsFirstGuestOn : ClusterView → ℕ → Option Found → Type 0
IsFirstGuestOn w n found = (row : NodeRow) → lookup (nat_eq n) w.rows.nodes ≡ Some row → IsFirstGuest w (node_of w.rows.partitions row) 0 found

-- it is what the model chooses for a node
abbrev pub IsChosen : ClusterView → ℕ → Option Found → Type 0
IsChosen w n found = (row : NodeRow) → lookup (nat_eq n) w.rows.nodes ≡ Some row → choice w.config (state_in w) (node_of w.rows.partitions row) ≡ option_map (item_found w.rows) found

-- it is of a live application, and what was asked for was asked for on a partition that is there
pub record IsNamed (v : Rows) (found : Found) : Type 0 where
  pub live : IsLive found.app v.apps
  pub asked : IsAskedThere v found.role

-- it fits on a node, and while the clock of the node's partition rises it may be placed there
pub record MayBePlaced (w : ClusterView) (n : ℕ) (found : Found) : Type 0 where
  pub named : IsNamed w.rows found
  pub fits : fits_in found.size (free_of w.rows n) ≡ true
  pub placeable : (partition : PartitionRow) → slice_get w.rows.partitions (partition_of_node w.rows.nodes n) ≡ Some partition → partition.clock < partition.limit
      → IsPlaceable w.rows n found.app found.role
