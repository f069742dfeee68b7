-- What numbers of a cluster name in the model's state.
use Rattle.std.specs.Prelude.{◌≡◌, ℕ, ◌<◌, Bool, nat_eq, Some}
use Rattle.std.specs.Map.{lookup}
use Rattle.std.specs.Option.{option_map_or}
use Rattle.ynl_resource.specs.declared.names.Name.{Name}
use Rattle.ynl_resource.specs.declared.labels.Label.{Label}
use Rattle.ynl_resource.specs.declared.paths.Path.{Path}
use Rattle.ynl_model.specs.Applications.{find_app}
use Rattle.ynl_model.specs.Cluster.{node_of}
use Rattle.ynl_inventory.specs.layout.Paths.{HasNumber}
use Rattle.ynl_tables.specs.declared.containers.container.Container.{Container}
use Rattle.ynl_inventory.specs.Rows.{AppRow, NodeRow, Rows}
use Rattle.ynl_inventory.specs.Meaning.{app_of, node_of as node_of_row}
use Rattle.ynl_inventory.specs.Parts.{held_at}
use Rattle.ynl_inventory.specs.Sound.{HasPartition}
use Rattle.ynl_cluster.specs.Cluster.{ClusterView, label_of, path_of, state_in}
use Rattle.ynl_replies.specs.declared.admission.queues.CellNumbers.{CellNumbers}

-- a partition has this label
pub record IsPartitionOf (w : ClusterView) (label : Label) (p : ℕ) : Type 0 where
  pub there : HasPartition w.rows p
  pub own : label_of w p ≡ label

-- a node has this name
pub record IsNodeNamed (w : ClusterView) (name : Name) (n : ℕ) : Type 0 where
  pub row : NodeRow
  pub found : lookup (nat_eq n) w.rows.nodes ≡ Some row
  pub named : node_of (state_in w) name ≡ Some (node_of_row w.rows.partitions row)

-- a live application of a tenant has this name
pub record IsAppNamed (w : ClusterView) (tenant name : Name) (n : ℕ) : Type 0 where
  pub row : AppRow
  pub found : lookup (nat_eq n) w.rows.apps ≡ Some row
  pub named : find_app (state_in w).leaves tenant name ≡ Some (app_of w.rows (n, row))

-- whether a live application is of the tenant of a number
abbrev pub is_tenants : Rows → ℕ → ℕ → Bool
is_tenants v t app = nat_eq (option_map_or (λ row. row.tenant) (lookup (nat_eq app) v.apps) 0) t

-- a queue has this path
pub record IsQueueOf (w : ClusterView) (path : Path) (q : ℕ) : Type 0 where
  pub there : HasNumber w.rows.paths q
  pub own : path_of w q ≡ path

-- a queue below root has this path
pub record IsBelowRoot (w : ClusterView) (path : Path) (q : ℕ) : Type 0 where
  pub queue : IsQueueOf w path q
  pub below_root : 0 < q

-- a queue and a partition have this path and this label
pub record IsCellOf (w : ClusterView) (path : Path) (label : Label) (cell : CellNumbers) : Type 0 where
  pub partition : IsPartitionOf w label cell.partition
  pub queue : IsQueueOf w path cell.queue

-- so does a queue below root
pub record IsCellBelowRoot (w : ClusterView) (path : Path) (label : Label) (cell : CellNumbers) : Type 0 where
  pub partition : IsPartitionOf w label cell.partition
  pub queue : IsBelowRoot w path cell.queue

-- under a number in a partition stands this container
pub record IsContainerFound (w : ClusterView) (p n : ℕ) (c : Container) : Type 0 where
  pub there : HasPartition w.rows p
  pub found : held_at w.rows p n ≡ Some c
