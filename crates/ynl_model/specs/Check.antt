-- Proposals: what is proposed for a node, and for which reasons a proposal is not committed.
use Rattle.std.specs.Prelude.{Bool, true, false, not, ◌&&◌, ◌||◌, ◌==◌, [], ◌∷◌, ◌++◌, is_some, Option}
use Rattle.std.specs.Option.{option_map_or, option_map}
use Rattle.ynl_resource.specs.declared.amounts.Resource.{Resource}
use Rattle.ynl_resource.specs.Names.{same_label, is_default, top_level, tenant_of}
use Rattle.ynl_resource.specs.declared.names.Name.{Name}
use Rattle.ynl_resource.specs.declared.labels.Label.{Label}
use Rattle.ynl_resource.specs.Refusals.{Reasons}
use Rattle.ynl_resource.specs.declared.refusals.Refusal.TheVariants.{NoSuchNode, ClockSpent, Stale, NotAccessible, NoSuchApplication, NoSuchAsk, NoRoom, PartitionBusy, OverMaximum, OverUserLimit, OverMasterShare}
use Rattle.ynl_model.specs.Nodes.{Node}
use Rattle.ynl_model.specs.Queues.{Config, is_queue, may_use}
use Rattle.ynl_model.specs.Applications.{Application, find_app, find_ask}
use Rattle.ynl_model.specs.Cluster.{State, What, Master, Asked, node_of, is_spent, waits, runs}
use Rattle.ynl_model.specs.Service.{Item, item_of, has_room, within_maximum, within_user_limit, within_master_share, some_eligible, takes_guests, choice}
pub use Rattle.ynl_model.specs.declared.proposals.Proposal.{Proposal}

-- whether the node of a name passes a test, and false where there is none
abbrev pub node_that : State → Name → (Node → Bool) → Bool
node_that s name test = option_map_or test (node_of s name) false

-- whether the live application of a tenant and a name passes a test, and false where there is none
abbrev pub app_that : State → Name → Name → (Application → Bool) → Bool
app_that s tenant name test = option_map_or test (find_app s.leaves tenant name) false

-- whether there is a node of a name
abbrev pub has_node : State → Name → Bool
has_node s name = is_some (node_of s name)

-- whether a tenant has a live application of a name
abbrev pub has_app : State → Name → Name → Bool
has_app s tenant name = is_some (find_app s.leaves tenant name)

-- a request as a proposal for a node, with the node's stamp
abbrev pub proposal_of : Node → Item → Proposal
proposal_of node item = record { node = node.name; stamp = node.stamp; tenant = tenant_of item.leaf; app = item.app; what = item.what; size = item.size }

-- the choice on a node as a proposal
unfoldable pub proposed : Config → State → Node → Option Proposal
proposed c s node = option_map (proposal_of node) (choice c s node)

-- the reasons for which nothing is placed on a node at all
abbrev pub placing_reasons : Config → State → Name → Reasons
placing_reasons c s name = (NoSuchNode, not (has_node s name)) ∷ (ClockSpent, node_that s name (λ node. is_spent c.labels s node.label)) ∷ []

-- whether what is asked for would come to the partition as a guest
abbrev pub comes_as_guest : Config → Label → What → Bool
comes_as_guest c partition Master = false
comes_as_guest c partition (Asked label priority) = is_default label && takes_guests c partition

-- whether what is wanted is wanted on the partition; where a master is wanted its application says
abbrev pub is_for : Label → What → Bool
is_for partition Master = true
is_for partition (Asked label priority) = same_label label partition

-- whether a tenant may place this on the partition: it is a top-level queue, and a guest comes, or that queue may use the partition and this is for it
unfoldable pub has_access : Config → Label → Name → What → Bool
has_access c partition tenant what =
    is_queue c (top_level tenant) && (comes_as_guest c partition what || (may_use c (top_level tenant) partition && is_for partition what))

-- whether two sizes are the same
abbrev pub same_size : Resource → Resource → Bool
same_size a b = (a.memory == b.memory) && (a.vcores == b.vcores)

-- whether an application wants just this: while it waits a master of this size on its home label, and while it runs what it asks for
abbrev pub wants : State → Label → What → Resource → Application → Bool
wants s partition Master size app = waits s app && same_label app.home partition && same_size app.master size
wants s partition (Asked label priority) size app = runs s app && option_map_or (λ ask. same_size ask.size size) (find_ask app label priority) false

-- the request of a proposal, whose leaf and user its application has
abbrev pub proposed_item : Proposal → Application → Item
proposed_item proposal app = item_of app proposal.what proposal.size

-- whether the node and the request of a proposal pass a test, and false where there is no such node or application
abbrev pub request_that : State → Proposal → (Node → Item → Bool) → Bool
request_that s proposal test =
    node_that s proposal.node (λ node. app_that s proposal.tenant proposal.app (λ app. test node (proposed_item proposal app)))

-- the same, and false for a guest
abbrev pub own_request_that : Config → State → Proposal → (Node → Item → Bool) → Bool
own_request_that c s proposal test = request_that s proposal (λ node item. not (comes_as_guest c node.label item.what) && test node item)

-- the reasons for which a proposal is not committed
unfoldable pub commit_reasons : Config → State → Proposal → Reasons
commit_reasons c s proposal =
    placing_reasons c s proposal.node
    ++ (Stale, node_that s proposal.node (λ node. not (node.stamp == proposal.stamp)))
    ∷ (NotAccessible, node_that s proposal.node (λ node. not (has_access c node.label proposal.tenant proposal.what)))
    ∷ (NoSuchApplication, not (has_app s proposal.tenant proposal.app))
    ∷ (NoSuchAsk, node_that s proposal.node (λ node. app_that s proposal.tenant proposal.app (λ app. not (wants s node.label proposal.what proposal.size app))))
    ∷ (NoRoom, request_that s proposal (λ node item. not (has_room s node item.size)))
    ∷ (PartitionBusy, request_that s proposal (λ node item. comes_as_guest c node.label item.what && some_eligible c s node))
    ∷ (OverMaximum, own_request_that c s proposal (λ node item. not (within_maximum s node.label item)))
    ∷ (OverUserLimit, own_request_that c s proposal (λ node item. not (within_user_limit c s node.label item)))
    ∷ (OverMasterShare, own_request_that c s proposal (λ node item. not (within_master_share c s node.label item.leaf item.what item.size)))
    ∷ []
