-- What the change of each kind of event needs.
use Rattle.std.specs.Prelude.{◌≡◌, ◌≢◌, ℕ, ◌<◌, false, true, slice_get, Option, None, Some}
use Rattle.ynl_resource.specs.Amounts.{fits_in}
use Rattle.ynl_resource.specs.declared.amounts.Resource.{Resource}
use Rattle.ynl_resource.specs.declared.names.Name.{Name}
use Rattle.ynl_resource.specs.declared.ids.Id.{Id}
use Rattle.ynl_resource.specs.declared.labels.Label.{Label}
use Rattle.ynl_resource.specs.declared.paths.Path.{Path}
use Rattle.ynl_model.specs.declared.applications.AskRow.{AskRow}
use Rattle.ynl_inventory.specs.layout.Paths.{HasNumber}
use Rattle.ynl_tables.specs.submissions.Submissions.{turn_of}
use Rattle.ynl_model.specs.Events.{container_at, container_for, home_of}
use Rattle.ynl_model.specs.Nodes.{has_label, is_full}
use Rattle.ynl_model.specs.Queues.{accepts, is_leaf, may_use}
use Rattle.ynl_tables.specs.declared.containers.container.Container.{Container}
use Rattle.ynl_inventory.specs.Apps.{is_master_role}
use Rattle.ynl_inventory.specs.Rows.{PartitionRow}
use Rattle.ynl_inventory.specs.Meaning.{ask_of, has_none_below, node_number, placed_of, submitted_to, tenant_at}
use Rattle.ynl_inventory.specs.Sound.{CanAsk, HasPartition}
use Rattle.ynl_cluster.specs.Cluster.{ClusterView, label_of, path_of, state_in}
use Rattle.ynl_replies.specs.declared.admission.applications.Asking.{Asking}
use Rattle.ynl_replies.specs.declared.admission.containers.Held.{Held}
use Rattle.ynl_replies.specs.declared.admission.nodes.Moved.{Moved}
use Rattle.ynl_replies.specs.declared.admission.submissions.SubmissionNumbers.{SubmissionNumbers}
use Rattle.ynl_replies.specs.declared.admission.submissions.Target.{Target}
use Rattle.ynl_replies.specs.admission.Named.{IsAppNamed, IsContainerFound, IsNodeNamed, IsPartitionOf, IsQueueOf}

-- a node of this name may join a partition of this label: none has the name, and the partition is not full
pub record CanJoin (w : ClusterView) (name : Name) (label : Label) (p : ℕ) : Type 0 where
  pub partition : IsPartitionOf w label p
  pub new : node_number name w.rows.nodes ≡ None
  pub few : is_full (state_in w).nodes label ≡ false

-- the node of this name may go to the partition of this label: it stands in another, and the partition is not full
pub record CanRelabel (w : ClusterView) (name : Name) (label : Label) (moved : Moved) : Type 0 where
  pub node : IsNodeNamed w name moved.node
  pub partition : IsPartitionOf w label moved.partition
  pub other : node.row.partition ≢ moved.partition
  pub few : is_full (state_in w).nodes label ≡ false

-- containers may be placed on the node of this name: the clock of its partition still rises
pub record CanPlaceOn (w : ClusterView) (name : Name) (n : ℕ) : Type 0 where
  pub node : IsNodeNamed w name n
  pub partition : PartitionRow
  pub partition_found : slice_get w.rows.partitions node.row.partition ≡ Some partition
  pub rises : partition.clock < partition.limit

-- the live application of a tenant and a name may ask, and what it asks for is this by numbers
pub record CanAskAs (w : ClusterView) (tenant name : Name) (ask : AskRow) (asking : Asking) : Type 0 where
  pub app : IsAppNamed w tenant name asking.app
  pub can : CanAsk w.rows asking.app asking.ask
  pub means : ask_of w.rows.partitions asking.ask ≡ ask

-- under these numbers stands the container of this id on the node of this name
pub record CanExit (w : ClusterView) (name : Name) (id : Id) (held : Held) : Type 0 where
  pub container : Container
  pub found : IsContainerFound w held.partition held.number container
  pub named : container_at (state_in w) name id ≡ Some (placed_of w.rows (label_of w held.partition) container)

-- under these numbers stands the container of this id and this tenant
pub record IsTenants (w : ClusterView) (tenant : Name) (id : Id) (held : Held) : Type 0 where
  pub container : Container
  pub found : IsContainerFound w held.partition held.number container
  pub named : container_for (state_in w) tenant id ≡ Some (placed_of w.rows (label_of w held.partition) container)

-- and it is no master, so that the tenant may give it back
pub record CanRelease (w : ClusterView) (tenant : Name) (id : Id) (held : Held) : Type 0 where
  pub its : IsTenants w tenant id held
  pub asked : is_master_role its.container.role ≡ false

-- an application may come to the leaf of this path, with this label or the leaf's, if its name and the leaf's live applications let it: the leaf
-- accepts, may use the label, and the master is not too large
pub record IsTarget (w : ClusterView) (queue : Path) (label : Option Label) (master : Resource) (target : Target) : Type 0 where
  pub queue_is : IsQueueOf w queue target.leaf
  pub leaf_is : is_leaf w.config queue ≡ true
  pub open_is : accepts (state_in w).stops queue ≡ true
  pub home_is : IsPartitionOf w (home_of w.config queue label) target.home
  pub known : has_label w.config.labels (home_of w.config queue label) ≡ true
  pub may : may_use w.config queue (home_of w.config queue label) ≡ true
  pub fits : fits_in master w.config.maximum_allocation ≡ true

-- an application of this name may be submitted to the leaf of this path, with this label or the leaf's, by these numbers, whoever its user is
pub record CanSubmitAs (w : ClusterView) (queue : Path) (name : Name) (label : Option Label) (numbers : SubmissionNumbers) : Type 0 where
  pub unnamed : turn_of name (submitted_to w.rows.tenants numbers.tenant) ≡ None
  pub there : HasNumber w.rows.paths numbers.leaf
  pub leaf : has_none_below w.rows.paths (path_of w numbers.leaf) ≡ true
  pub tenant : tenant_at w.rows.paths numbers.leaf ≡ numbers.tenant
  pub home : HasPartition w.rows numbers.home
  pub own : path_of w numbers.leaf ≡ queue
  pub label_is : label_of w numbers.home ≡ home_of w.config queue label
