-- A cluster as a contract sees it, and the model's state that it means.
use Rattle.std.specs.Prelude.{◌≡◌, ℕ, ◌≤◌, ◌^◌, Bool, List, ◌∷◌, length, nat_eq, Some}
use Rattle.std.specs.List.{AllByRecursion}
use Rattle.std.specs.Map.{lookup}
use Rattle.ynl_resource.specs.Amounts.{IsSize}
use Rattle.ynl_resource.specs.Names.{root, tenant_of}
use Rattle.ynl_resource.specs.declared.labels.Label.{Label}
use Rattle.ynl_resource.specs.declared.names.Name.{Name}
use Rattle.ynl_resource.specs.declared.paths.Path.{Path}
use Rattle.ynl_model.specs.declared.queues.StopRow.{StopRow}
use Rattle.ynl_model.specs.declared.queues.MaximumRow.{MaximumRow}
use Rattle.ynl_model.specs.declared.containers.Placed.{Placed}
use Rattle.ynl_model.specs.Cluster.{State}
use Rattle.ynl_model.specs.Nodes.{partition_labels}
use Rattle.ynl_model.specs.Queues.{Config}
use Rattle.ynl_inventory.specs.layout.Paths.{HasNumber, path_at, paths_of}
use Rattle.ynl_inventory.specs.declared.layout.settings.shares.Share.{Share}
use Rattle.ynl_inventory.specs.layout.settings.Meaning.{maxima_of, stops_of}
use Rattle.ynl_lanes.specs.lane.Seats.{Seats}
use Rattle.ynl_lanes.specs.table.Lanes.{lane_at}
use Rattle.ynl_inventory.specs.Rows.{Rows, AppRow}
use Rattle.ynl_inventory.specs.declared.partition.Placement.{Placement}
use Rattle.ynl_inventory.specs.Changes.{partition_of_node}
use Rattle.ynl_inventory.specs.Meaning.{app_name, label_at, placed_of, state_of}
use Rattle.ynl_inventory.specs.Parts.{Held, placed_on}
use Rattle.ynl_inventory.specs.Sound.{HasPartition}
use Rattle.ynl_cluster.specs.seating.Seating.{AreSeated}

-- its configuration, its rows, how many placements take no memory by partition, what is set of its queues, and whether a node may join again without memory
pub record ClusterView : Type 0 where
  pub config : Config
  pub rows : Rows
  pub rooms : List ℕ
  pub stops : List Bool
  pub shares : List (List Share)
  pub ready : Bool

-- what it holds
abbrev pub held_in : ClusterView → Held
held_in w = record { rows = w.rows; rooms = w.rooms; ready = w.ready }

-- the marks of its queues below root
abbrev pub stops_in : ClusterView → List StopRow
stops_in w = stops_of (paths_of w.config) w.stops

-- their maxima
abbrev pub maxima_in : ClusterView → List MaximumRow
maxima_in w = maxima_of (paths_of w.config) (partition_labels w.config.labels) w.shares

-- the model's state
abbrev pub state_in : ClusterView → State
state_in w = state_of w.rows (stops_in w) (maxima_in w)

-- the label of a partition
abbrev pub label_of : ClusterView → ℕ → Label
label_of w p = label_at w.rows.partitions p

-- a container that stands as one that was placed at a clock, as the model has it
abbrev pub stood_in : ClusterView → Placement → ℕ → Placed
stood_in w placed clock = placed_of w.rows (label_of w (partition_of_node w.rows.nodes placed.node)) (placed_on placed clock)

-- the path of a queue
abbrev pub path_of : ClusterView → ℕ → Path
path_of w q = path_at w.rows.paths q

-- the tenant of a live application
abbrev pub tenant_in : Rows → AppRow → Name
tenant_in v row = tenant_of (path_at v.paths row.leaf)

-- and its name
abbrev pub name_in : Rows → AppRow → Name
name_in v row = app_name v.tenants row.tenant row.turn

-- there is a partition of the one number, and a queue of the other
pub record IsCell (w : ClusterView) (p q : ℕ) : Type 0 where
  pub partition : HasPartition w.rows p
  pub queue : HasNumber w.rows.paths q

-- partitions and queues have numbers of 8 and of 32 bits
pub record AreNumbered (v : Rows) : Type 0 where
  pub partitions : length v.partitions ≤ 2 ^ 8
  pub queues : length (root ∷ v.paths) ≤ 2 ^ 32

-- an application asks for amounts that requests may have
pub record AsksSizes (row : AppRow) : Type 0 where
  pub master : IsSize row.master
  pub asks : AllByRecursion (λ ask. IsSize ask.size) row.asks

-- so does each
abbrev pub AskSizes : Rows → Type 0
AskSizes v = (n : ℕ) (row : AppRow) → lookup (nat_eq n) v.apps ≡ Some row → AsksSizes row

-- what is seen of a lane is that of a leaf on a partition, in lanes that are those of the rows
pub record IsLaneIn (w : ClusterView) (p q : ℕ) (lane : Seats) : Type 0 where
  pub lanes : List (List Seats)
  pub seated : AreSeated w.rows lanes
  pub own : lane ≡ lane_at p q lanes
