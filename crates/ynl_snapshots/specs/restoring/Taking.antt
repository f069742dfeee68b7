-- How a cluster takes a line.
use Rattle.std.specs.Prelude.{◌≡◌, ◌<◌, ℕ, Bool, false, true, None}
use Rattle.ynl_model.specs.declared.nodes.Node.{Node as NodeRow}
use Rattle.ynl_model.specs.Nodes.{is_full}
use Rattle.ynl_inventory.specs.Meaning.{app_of, node_number, submitted_to, tenant_at}
use Rattle.ynl_cluster.specs.Cluster.{ClusterView, label_of, state_in}
use Rattle.ynl_model.specs.declared.applications.AskRow.{AskRow}
use Rattle.ynl_model.specs.Applications.{find_ask}
use Rattle.ynl_replies.specs.declared.admission.applications.Asking.{Asking}
use Rattle.ynl_replies.specs.admission.Admitted.{CanAskAs}
use Rattle.ynl_replies.specs.admission.Named.{IsPartitionOf, IsQueueOf}
use Rattle.ynl_inventory.specs.layout.Paths.{HasNumber}
use Rattle.ynl_tables.specs.submissions.Submissions.{turn_of}
use Rattle.ynl_resource.specs.declared.names.Name.{Name}
use Rattle.ynl_resource.specs.declared.paths.Path.{Path}
use Rattle.ynl_inventory.specs.Sound.{IsLeaf}
use Rattle.ynl_snapshots.specs.declared.restoring.applications.Coming.{Coming}
use Rattle.ynl_saved.specs.declared.lines.StateLine.{StateLine}
use Rattle.ynl_saved.specs.Restoring.{Restored, is_sound_line, with_line}

-- a line is taken where it goes with what the lines before it told, and then the state is what the line makes of it; else nothing changes
pub record Takes (old : ClusterView) (r : Restored) (line : StateLine) (new : ClusterView) (taken : Bool) : Type 0 where
  pub sound : is_sound_line old.config r line ≡ taken
  pub config : new.config ≡ old.config
  pub told : taken ≡ true → state_in new ≡ with_line line (state_in old)
  pub same : taken ≡ false → new ≡ old

-- a node's partition has this number, no node has its name yet, and the partition is not full
pub record Joins (w : ClusterView) (node : NodeRow) (p : ℕ) : Type 0 where
  pub partition : IsPartitionOf w node.label p
  pub new : node_number node.name w.rows.nodes ≡ None
  pub few : is_full (state_in w).nodes (label_of w p) ≡ false

-- the leaf of a path and its tenant have these numbers, and no application of the tenant had the name
pub record Comes (w : ClusterView) (queue : Path) (name : Name) (coming : Coming) : Type 0 where
  pub queue_is : IsQueueOf w queue coming.leaf
  pub leaf : IsLeaf w.rows coming.leaf
  pub unnamed : turn_of name (submitted_to w.rows.tenants coming.tenant) ≡ None
  pub tenant : tenant_at w.rows.paths coming.leaf ≡ coming.tenant
  pub there : HasNumber w.rows.paths coming.tenant
  pub below_root : 0 < coming.tenant

-- an application of these names may ask for this, and asks for nothing of its label and priority yet
pub record AsksAnew (w : ClusterView) (tenant name : Name) (ask : AskRow) (asking : Asking) : Type 0 where
  pub can : CanAskAs w tenant name ask asking
  pub counted : 0 < ask.count
  pub new : find_ask (app_of w.rows (asking.app, can.app.row)) ask.label ask.priority ≡ None
