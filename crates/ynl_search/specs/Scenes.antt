-- The trees of queues that a search goes down, and where it has come to.
use Rattle.std.specs.Prelude.{◌≡◌, ℕ, nat_eq, List, [], ◌∷◌, filter, length, Option, Some, option_map}
use Rattle.std.specs.Map.{lookup}
use Rattle.std.specs.Option.{option_map_or}
use Rattle.ynl_resource.specs.Amounts.{nothing}
use Rattle.ynl_resource.specs.Names.{is_within, root}
use Rattle.ynl_resource.specs.declared.amounts.Resource.{Resource}
use Rattle.ynl_resource.specs.declared.labels.Label.TheVariants.{Unlabelled}
use Rattle.ynl_resource.specs.declared.paths.Path.{Path}
use Rattle.ynl_model.specs.declared.nodes.Node.{Node}
use Rattle.ynl_model.specs.Cluster.{free}
use Rattle.ynl_model.specs.Service.{asks_for, eligible, has_room}
use Rattle.ynl_inventory.specs.layout.Paths.{AreChildren, CoverBelow, HasNumber, names_of}
use Rattle.ynl_search.specs.descent.Scenes.{Branch, IsFirstBelow, Scene}
use Rattle.ynl_inventory.specs.Rows.{NodeRow}
use Rattle.ynl_inventory.specs.Meaning.{node_of}
use Rattle.ynl_inventory.specs.Sound.{HasPartition, IsSound}
use Rattle.ynl_cluster.specs.Cluster.{ClusterView, label_of, path_of, state_in}
use Rattle.ynl_search.specs.declared.found.Found.{Found}
use Rattle.ynl_search.specs.declared.place.Place.{Place}
use Rattle.ynl_search.specs.Laws.{item_asked, item_wanted}
use Rattle.ynl_search.specs.Places.{HasAmounts, IsPlace, IsSmallPlace}

-- a node that is not there
abbrev pub no_node : Node
no_node = record { name = []; label = Unlabelled; size = nothing; stamp = 0 }

-- the node of a number, as the model has it
abbrev pub node_at : ClusterView → ℕ → Node
node_at w n = option_map_or (node_of w.rows.partitions) (lookup (nat_eq n) w.rows.nodes) no_node

-- what is eligible on a node, by the ratios of its partition
abbrev pub own_scene : ClusterView → Node → Scene
own_scene w node = record { config = w.config; state = state_in w; label = node.label; items = eligible w.config (state_in w) node }

-- what a node has room for as a guest, by the ratios of DEFAULT
abbrev pub guest_scene : ClusterView → Node → Scene
guest_scene w node = record { config = w.config; state = state_in w; label = Unlabelled; items = filter (λ item. has_room (state_in w) node item.size) (asks_for (state_in w) Unlabelled) }

-- what was found is the first below a queue of what is eligible on a node, and is wanted on the partition
abbrev pub IsFirstOwn : ClusterView → ℕ → Node → ℕ → Option Found → Type 0
IsFirstOwn w p node q found = IsFirstBelow (own_scene w node) (path_of w q) (option_map (item_wanted w.rows p) found)

-- what was found is the first below a queue of what a node has room for as a guest, and is asked for on DEFAULT
abbrev pub IsFirstGuest : ClusterView → Node → ℕ → Option Found → Type 0
IsFirstGuest w node q found = IsFirstBelow (guest_scene w node) (path_of w q) (option_map (item_asked w.rows 0) found)

-- a queue and those just below it, in a scene
abbrev pub branch_at : ClusterView → Scene → ℕ → List ℕ → Branch
branch_at w scene q children = record { scene = scene; path = path_of w q; children = names_of w.rows.paths children }

-- how many queues stand at or below a queue
abbrev pub queues_below : List Path → Path → ℕ
queues_below paths queue = length (filter (is_within queue) (root ∷ paths))

-- a queue was reached, with those just below it
pub record IsReached (w : ClusterView) (place : Place) (children : List ℕ) : Type 0 where
  pub queue : HasNumber w.rows.paths place.queue
  pub small : IsSmallPlace place
  pub sound : IsSound w.rows
  pub all : AreChildren w.rows.paths place.queue children
  pub cover : CoverBelow w.rows.paths place.queue children

-- what was worked out on the way is what the model says of it, where so much is free
abbrev pub IsPlaceOf : ClusterView → ℕ → Resource → Place → Type 0
IsPlaceOf w p room place = IsPlace w.config (state_in w) (label_of w p) room (path_of w place.queue) place

-- and what it is guaranteed, and may use at most, is
abbrev pub HasAmountsIn : ClusterView → ℕ → Place → Type 0
HasAmountsIn w p place = HasAmounts w.config (state_in w) (label_of w p) (path_of w place.queue) place

-- a node stands in a partition, and has so much free
pub record IsNodeOf (w : ClusterView) (n p : ℕ) (room : Resource) : Type 0 where
  pub row : NodeRow
  pub found : lookup (nat_eq n) w.rows.nodes ≡ Some row
  pub partition : row.partition ≡ p
  pub has : HasPartition w.rows p
  pub free_is : room ≡ free (state_in w) (node_at w n)

-- a queue of the tree in which guests are looked for
pub record IsGuestQueue (w : ClusterView) (n : ℕ) (room : Resource) (place : Place) (children : List ℕ) : Type 0 where
  pub reached : IsReached w place children
  pub way : IsPlaceOf w 0 room place
  pub free_is : room ≡ free (state_in w) (node_at w n)

-- a queue of the tree in which what is eligible is looked for
pub record IsOwnQueue (w : ClusterView) (n p : ℕ) (room : Resource) (place : Place) (children : List ℕ) : Type 0 where
  pub reached : IsReached w place children
  pub way : IsPlaceOf w p room place
  pub node : IsNodeOf w n p room
