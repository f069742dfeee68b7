-- What is proposed for a node is placed where it is committed at once.
use Rattle.std.specs.Prelude.{◌≡◌, IsTrue, IsFalse, List, [], ◌∷◌, ◌++◌, Some, None}
use Rattle.ynl_resource.specs.declared.names.Name.{Name}
use Rattle.ynl_resource.specs.Refusals.{first_that_holds}
use Rattle.ynl_model.specs.declared.nodes.Node.{Node}
use Rattle.ynl_model.specs.Queues.{Config}
use Rattle.ynl_model.specs.Accepted.{is_accepted}
use Rattle.ynl_model.specs.Cluster.{State, node_of, is_spent}
use Rattle.ynl_model.specs.Service.{Item, choice}
use Rattle.ynl_model.specs.Changes.{place, container_of}
use Rattle.ynl_model.specs.Check.{has_access, proposed, commit_reasons}
use Rattle.ynl_model.specs.Events.{step, state_after}
use Rattle.ynl_model.specs.declared.proposals.Proposal.{Proposal}
use Rattle.ynl_model.specs.declared.events.Event.{Event}
use Rattle.ynl_model.specs.declared.events.Event.TheVariants.{Propose, Commit}
use Rattle.ynl_model.specs.declared.replies.Reply.{Reply}
use Rattle.ynl_model.specs.declared.replies.Reply.TheVariants.{Proposed, Committed}

-- a proposal is committed: no reason is against it, the reply is the container of the request that is chosen for the node, and that request is placed there
pub record IsCommitted (c : Config) (s : State) (node : Node) (proposal : Proposal) : Type 0 where
  pub item : Item
  pub chosen : choice c s node ≡ Some item
  pub passes : first_that_holds (commit_reasons c s proposal) ≡ None
  pub reply : (step c s (Commit proposal)).reply ≡ Committed (container_of c s node item)
  pub state : (step c s (Commit proposal)).state ≡ place c node item s

-- in each state what is proposed for a node is committed, where the clock of its partition is not spent and the tenant has access there
abbrev pub AreAccessibleChoicesCommitted : Type 0
AreAccessibleChoicesCommitted =
    (c : Config) (events : List Event) (name : Name) (node : Node) (proposal : Proposal) → node_of (state_after c events) name ≡ Some node → IsFalse (is_spent c.labels (state_after c events) node.label)
    → proposed c (state_after c events) node ≡ Some proposal → IsTrue (has_access c node.label proposal.tenant proposal.what) → IsCommitted c (state_after c events) node proposal

-- in an accepted configuration the tenant has it: there what is proposed for a node is committed, where the clock of its partition is not spent
abbrev pub AreChoicesCommitted : Type 0
AreChoicesCommitted =
    (c : Config) (events : List Event) (name : Name) (node : Node) (proposal : Proposal) → IsTrue (is_accepted c) → node_of (state_after c events) name ≡ Some node
    → IsFalse (is_spent c.labels (state_after c events) node.label) → proposed c (state_after c events) node ≡ Some proposal → IsCommitted c (state_after c events) node proposal

-- a reply by which a proposal is committed: a container on its node, for what it asks for, under some id
abbrev pub IsCommitOf : Proposal → Reply → Type 0
IsCommitOf proposal (Committed container) =
    container ≡ record { id = container.id; node = proposal.node; tenant = proposal.tenant; app = proposal.app; what = proposal.what; size = proposal.size }
IsCommitOf proposal _ = ⊥

-- in an accepted configuration, whatever events came, a proposal that is answered and comes back as the very next event is committed
abbrev pub AreProposalsCommitted : Type 0
AreProposalsCommitted =
    (c : Config) (events : List Event) (name : Name) (proposal : Proposal) → IsTrue (is_accepted c) → (step c (state_after c events) (Propose name)).reply ≡ Proposed (Some proposal)
    → IsCommitOf proposal (step c (state_after c (events ++ Propose name ∷ [])) (Commit proposal)).reply
