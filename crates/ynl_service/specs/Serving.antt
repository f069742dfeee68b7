-- What heartbeats place.
use Rattle.std.specs.Prelude.{◌≡◌, ℕ, suc, ◌≤◌, true, nat_eq, List, [], ◌∷◌, ◌++◌, slice_get, IfSome, Option, Some, option_map}
use Rattle.std.specs.Map.{lookup}
use Rattle.ynl_resource.specs.Amounts.{fits_in}
use Rattle.ynl_model.specs.declared.containers.Placed.{Placed}
use Rattle.ynl_model.specs.declared.nodes.Node.{Node}
use Rattle.ynl_model.specs.Changes.{beat, next_item}
use Rattle.ynl_laws.specs.Working.{IsWorking}
use Rattle.ynl_slots.specs.Slots.{IsLive}
use Rattle.ynl_inventory.specs.Rows.{NodeRow}
use Rattle.ynl_inventory.specs.Changes.{partition_of_node}
use Rattle.ynl_inventory.specs.Meaning.{node_of}
use Rattle.ynl_inventory.specs.Parts.{free_of}
use Rattle.ynl_inventory.specs.Sound.{IsPlaceable}
use Rattle.ynl_cluster.specs.Cluster.{ClusterView, state_in}
use Rattle.ynl_search.specs.declared.found.Found.{Found}
use Rattle.ynl_search.specs.Laws.{item_found}

-- the node under a number, as the model has it
pub record IsNode (w : ClusterView) (n : ℕ) (node : Node) : Type 0 where
  pub row : NodeRow
  pub found : lookup (nat_eq n) w.rows.nodes ≡ Some row
  pub is : node_of w.rows.partitions row ≡ node

-- it is what the model places next on a node
abbrev pub IsNext : ClusterView → ℕ → Option Found → Type 0
IsNext w n found = (node : Node) → IsNode w n node → next_item w.config (state_in w) node ≡ option_map (item_found w.rows) found

-- so many more containers may be placed on a node and take no memory
abbrev pub HasRoom : ClusterView → ℕ → ℕ → Type 0
HasRoom w n times = IfSome (slice_get w.rooms (partition_of_node w.rows.nodes n)) (λ room. times ≤ room)

-- it may be placed there now
pub record CanBePlaced (w : ClusterView) (n : ℕ) (found : Found) : Type 0 where
  pub placeable : IsPlaceable w.rows n found.app found.role
  pub fits : fits_in found.size (free_of w.rows n) ≡ true

-- a heartbeat of a node has placed what the model's does, so many times at most, and told it after what was told before
pub record IsServed (w u : ClusterView) (node : Node) (times : ℕ) (before after : List Placed) : Type 0 where
  pub state : state_in u ≡ (beat w.config node times (state_in w)).state
  pub placed : after ≡ before ++ (beat w.config node times (state_in w)).placed

-- one request that was next has been placed on a node, and told; there may be room for one less
pub record IsStep (w u : ClusterView) (n : ℕ) (before after : List Placed) : Type 0 where
  pub working : IsWorking u.config (state_in u)
  pub live : IsLive n u.rows.nodes
  pub node : (of : Node) → IsNode w n of → (stamp : ℕ) × IsNode u n (record of { stamp = stamp })
  pub told : Placed
  pub list : after ≡ before ++ told ∷ []
  pub beat : (of : Node) → IsNode w n of → (times : ℕ) → beat w.config of (suc times) (state_in w)
      ≡ record { placed = told ∷ (beat w.config of times (state_in u)).placed; state = (beat w.config of times (state_in u)).state }
  pub room : (left : ℕ) → HasRoom w n (suc left) → HasRoom u n left

-- none was next, and nothing has changed
pub record IsNoStep (w u : ClusterView) (n : ℕ) (before after : List Placed) : Type 0 where
  pub same : u ≡ w
  pub list : after ≡ before
  pub beat : (of : Node) → IsNode w n of → (times : ℕ) → beat w.config of times (state_in w) ≡ record { placed = []; state = state_in w }
