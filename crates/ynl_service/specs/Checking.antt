-- What is tested of a proposal, by numbers.
use Rattle.std.specs.Prelude.{◌≡◌, ℕ, Bool, true, false, not, ◌&&◌, nat_eq, [], ◌∷◌}
use Rattle.ynl_resource.specs.Amounts.{fits_in}
use Rattle.std.specs.Option.{option_map_or}
use Rattle.ynl_resource.specs.Refusals.{Reasons}
use Rattle.ynl_resource.specs.declared.amounts.Resource.{Resource}
use Rattle.ynl_resource.specs.declared.labels.Label.{Label}
use Rattle.ynl_resource.specs.declared.refusals.Refusal.TheVariants.{NoRoom, PartitionBusy, OverMaximum, OverUserLimit, OverMasterShare}
use Rattle.ynl_model.specs.declared.nodes.Node.{Node}
use Rattle.ynl_model.specs.declared.proposals.Proposal.{Proposal}
use Rattle.ynl_model.specs.declared.proposals.What.{What}
use Rattle.ynl_model.specs.declared.proposals.What.TheVariants.{Master as MasterWanted, Ask as AskWanted}
use Rattle.ynl_model.specs.Nodes.{has_label}
use Rattle.ynl_model.specs.Queues.{Config}
use Rattle.ynl_model.specs.Cluster.{State}
use Rattle.ynl_model.specs.Service.{Item, has_room, some_eligible, within_maximum, within_master_share, within_user_limit}
use Rattle.ynl_model.specs.Check.{comes_as_guest, proposed_item, same_size}
use Rattle.ynl_tables.specs.apps.Asks.{find_ask}
use Rattle.ynl_tables.specs.declared.containers.container.Role.{Role}
use Rattle.ynl_tables.specs.declared.containers.container.Role.TheVariants.{Master, Ask as Asked}
use Rattle.ynl_inventory.specs.declared.partition.Placement.{Placement}
use Rattle.ynl_inventory.specs.Rows.{AppRow}
use Rattle.ynl_inventory.specs.Meaning.{app_of, item_of, what_of}
use Rattle.ynl_inventory.specs.Parts.{free_of}
use Rattle.ynl_inventory.specs.Sound.{IsAskedThere, IsPlaceable}
use Rattle.ynl_cluster.specs.Cluster.{ClusterView}
use Rattle.ynl_replies.specs.admission.Named.{IsAppNamed, IsNodeNamed}

-- whether the label of what is wanted is that of a partition; a master's is its application's
abbrev pub is_known : Config → What → Bool
is_known c MasterWanted = true
is_known c (AskWanted label priority) = has_label c.labels label

-- what is wanted is this by numbers, and the partition of its label is there
pub record IsRoleOf (w : ClusterView) (what : What) (role : Role) : Type 0 where
  pub there : IsAskedThere w.rows role
  pub means : what_of w.rows.partitions role ≡ what

-- whether what is wanted is wanted on a partition; where a master is wanted its application says
abbrev pub is_for_at : ℕ → Role → Bool
is_for_at p Master = true
is_for_at p (Asked asked priority) = nat_eq asked p

-- whether what is asked for was asked for on DEFAULT
abbrev pub is_on_default : Role → Bool
is_on_default Master = false
is_on_default (Asked asked priority) = nat_eq asked 0

-- whether an application wants just this on a partition: while it waits a master of this size at home, and while it runs what it asks for
abbrev pub is_wanted_at : Bool → ℕ → AppRow → Role → Resource → Bool
is_wanted_at running p row Master size = not running && nat_eq row.home p && same_size row.master size
is_wanted_at running p row (Asked asked priority) size = running && option_map_or (λ ask. same_size ask.size size) (find_ask asked priority row.asks) false

-- the reasons that lie in the limits of the request's queues and user
abbrev pub limit_reasons : Config → State → Label → Item → Reasons
limit_reasons c s label item =
    (OverMaximum, not (within_maximum s label item)) ∷ (OverUserLimit, not (within_user_limit c s label item))
    ∷ (OverMasterShare, not (within_master_share c s label item.leaf item.what item.size)) ∷ []

-- those that lie in what the node and the partition have left for a request; limits count only where it is no guest
abbrev pub request_reasons : Config → State → Node → Item → Reasons
request_reasons c s node item =
    (NoRoom, not (has_room s node item.size)) ∷ (PartitionBusy, comes_as_guest c node.label item.what && some_eligible c s node)
    ∷ (OverMaximum, not (comes_as_guest c node.label item.what) && not (within_maximum s node.label item))
    ∷ (OverUserLimit, not (comes_as_guest c node.label item.what) && not (within_user_limit c s node.label item))
    ∷ (OverMasterShare, not (comes_as_guest c node.label item.what) && not (within_master_share c s node.label item.leaf item.what item.size))
    ∷ []

-- a placement is what a proposal would place: the node and the application that it names, and what is wanted there, which may be placed and fits
pub record IsProposed (w : ClusterView) (proposal : Proposal) (placement : Placement) : Type 0 where
  pub node : IsNodeNamed w proposal.node placement.node
  pub app : IsAppNamed w proposal.tenant proposal.app placement.app
  pub item : proposed_item proposal (app_of w.rows (placement.app, app.row)) ≡ item_of w.rows app.row placement.role placement.size
  pub placeable : IsPlaceable w.rows placement.node placement.app placement.role
  pub fits : fits_in placement.size (free_of w.rows placement.node) ≡ true
