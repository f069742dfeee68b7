-- What is found in a cluster for what is asked about.
use Rattle.std.specs.Prelude.{◌≡◌, ◌⊎◌, ℕ, false, true, nat_eq, Some, None, [], slice_index_or}
use Rattle.std.specs.Map.{lookup}
use Rattle.ynl_resource.specs.declared.labels.Label.{Label}
use Rattle.ynl_resource.specs.declared.paths.Path.{Path}
use Rattle.ynl_model.specs.declared.nodes.Node.{Node}
use Rattle.ynl_model.specs.Nodes.{has_label}
use Rattle.ynl_model.specs.Queues.{Config, queue_row}
use Rattle.ynl_inventory.specs.Rows.{AppRow, NodeRow}
use Rattle.ynl_inventory.specs.Meaning.{node_of}
use Rattle.ynl_cluster.specs.Cluster.{ClusterView, path_of}
use Rattle.ynl_cluster.specs.seating.Seating.{shares}
use Rattle.ynl_replies.specs.admission.Named.{IsPartitionOf}
use Rattle.ynl_waits.specs.declared.waits.Applicant.{Applicant}

-- there is no such queue below root, or no such label
abbrev pub IsNowhere : Config → Path → Label → Type 0
IsNowhere c queue label = (queue_row c queue ≡ None) ⊎ (has_label c.labels label ≡ false)

-- a live application has the leaf and the user of another's name, and shares the partition of a label
pub record IsAskerOf (w : ClusterView) (app : Applicant) (label : Label) (n : ℕ) : Type 0 where
  pub row : AppRow
  pub found : lookup (nat_eq n) w.rows.apps ≡ Some row
  pub leaf : path_of w row.leaf ≡ app.leaf
  pub user : slice_index_or w.rows.users row.user [] ≡ app.user
  pub shared : (p : ℕ) → IsPartitionOf w label p → shares p row ≡ true

-- a number is that of a node
pub record IsNodeHere (w : ClusterView) (node : Node) (n : ℕ) : Type 0 where
  pub row : NodeRow
  pub found : lookup (nat_eq n) w.rows.nodes ≡ Some row
  pub is : node_of w.rows.partitions row ≡ node
