-- What a heartbeat places first and what a commit places, as the very next event.
use Rattle.std.proofs.Common.{◌≡◌, ℕ, zero, suc, ◌<◌, Bool, true, false, cond, not, List, [], ◌∷◌, is_some, Option, Some, None, refl, sym, ap, ◌∙◌, arith}
use Rattle.std.specs.List.{AllByRecursion}
use Rattle.std.specs.Option.{option_map_or}
use mathlib.Core.Bool.{true≢false}
use Rattle.ynl_resource.specs.Names.{same_name}
use Rattle.ynl_resource.specs.declared.names.Name.{Name}
use Rattle.ynl_resource.specs.Refusals.{first_that_holds}
use Rattle.ynl_resource.specs.declared.refusals.Refusal.{Refusal}
use Rattle.ynl_resource.specs.declared.refusals.Refusal.TheVariants.{NoSuchNode, ClockSpent}
use Rattle.ynl_model.specs.declared.nodes.Node.{Node}
use Rattle.ynl_model.specs.declared.proposals.Proposal.{Proposal}
use Rattle.ynl_model.specs.declared.events.Event.TheVariants.{Heartbeat, Commit}
use Rattle.ynl_model.specs.declared.replies.Reply.TheVariants.{Refused, Placed}
use Rattle.ynl_model.specs.Nodes.{find_node}
use Rattle.ynl_model.specs.Queues.{Config}
use Rattle.ynl_model.specs.Applications.{Application, find_app}
use Rattle.ynl_model.specs.Cluster.{State, node_of, is_spent}
use Rattle.ynl_model.specs.Service.{Item, choice}
use Rattle.ynl_model.specs.Changes.{Beat, beat, next_item, place, container_of}
use Rattle.ynl_model.specs.Check.{proposed_item, commit_reasons}
use Rattle.ynl_model.specs.Events.{Outcome, answered, where_there, served, commits, reasons, accepted, step}
use Rattle.ynl_laws.specs.Working.{Apart, Pairs, places}
use Rattle.ynl_laws.proofs.Lists.{Each-with, pairs-unmap}
use Rattle.ynl_laws.proofs.Logic.{pass}
use Rattle.ynl_laws.proofs.Names.{same-name_self}
use Rattle.ynl_model.specs.Promises.{without_stamp}
use Rattle.ynl_waits.specs.Laws.{is_of_request, is_placed_first, is_committed}
use Rattle.ynl_waits.specs.Waits.{Request}
use Rattle.ynl_waits.proofs.Among.{IsAmong, among-each}

-- ---- nodes

-- nodes whose names differ are found by them
nodes-found : (nodes : List Node) → Pairs (λ (a b : Node). same_name a.name b.name ≡ false) nodes → AllByRecursion (λ (node : Node). find_node nodes node.name ≡ Some node) nodes
nodes-found [] h = tt
nodes-found (node ∷ nodes) h = (
  (λ i. cond (same-name_self node.name i) (Some node) (find_node nodes node.name)),
  Each-with (λ (other : Node). same_name node.name other.name ≡ false) (λ (other : Node). find_node nodes other.name ≡ Some other) (λ (other : Node). find_node (node ∷ nodes) other.name ≡ Some other)
      (λ other off e. (λ i. cond (off i) (Some node) (find_node nodes other.name)) ∙ e) nodes h.0 (nodes-found nodes h.1),
)

pub node-found : (s : State) → Apart (places s) → (node : Node) → IsAmong node s.nodes → node_of s node.name ≡ Some node
node-found s apart node there =
    among-each (λ (node : Node). find_node s.nodes node.name ≡ Some node) node s.nodes (nodes-found s.nodes (pairs-unmap without_stamp (λ a b. same_name a.name b.name ≡ false) s.nodes apart)) there

-- where the clock goes on the choice is placed next
pub next-is : (c : Config) (s : State) (node : Node) (item : Item) → is_spent c.labels s node.label ≡ false → choice c s node ≡ Some item → next_item c s node ≡ Some item
next-is c s node item fresh e = ap (λ b. cond b None (choice c s node)) fresh ∙ e

module _ (c : Config) (s : State) (tenant app : Name) (request : Request) where
  -- ---- a heartbeat

  first-placed : (node : Node) (times : ℕ) (item : Item) → 0 < times → next_item c s node ≡ Some item → is_placed_first tenant app request (Placed (beat c node times s).placed) ≡ is_of_request tenant app request (container_of c s node item)
  unfolding beat
  first-placed node zero item some e = absurd (omega arith)
  first-placed node (suc times) item some e = rw e refl

  module _ (node : Node) (there : node_of s node.name ≡ Some node) (fresh : is_spent c.labels s node.label ≡ false) where
    pub heartbeat-free : first_that_holds (reasons c s (Heartbeat node.name)) ≡ None
    unfolding reasons
    heartbeat-free =
        pass NoSuchNode _ (λ i. not (is_some (there i)))
        ∙ pass ClockSpent _ ((λ i. option_map_or (λ (node : Node). is_spent c.labels s node.label) (there i) false) ∙ fresh)

    heartbeat-served : step c s (Heartbeat node.name) ≡ served (beat c node c.containers_per_heartbeat s)
    unfolding step accepted
    heartbeat-served =
        ap (λ o. option_map_or (λ refusal. answered s (Refused refusal)) o (accepted c s (Heartbeat node.name))) heartbeat-free
        ∙ (λ i. where_there (there i) s (λ node. served (beat c node c.containers_per_heartbeat s)))

    -- what is chosen is placed first
    pub chosen-first : (item : Item) → 0 < c.containers_per_heartbeat → choice c s node ≡ Some item → is_of_request tenant app request (container_of c s node item) ≡ true →
        is_placed_first tenant app request (step c s (Heartbeat node.name)).reply ≡ true
    chosen-first item some e of = ap (λ (outcome : Outcome). is_placed_first tenant app request outcome.reply) heartbeat-served
        ∙ first-placed node c.containers_per_heartbeat item some (next-is c s node item fresh e) ∙ of

  -- a request that is placed first is what is chosen for a node whose clock goes on
  pub record IsServed (name : Name) : Type 0 where
    pub node : Node
    pub there : node_of s name ≡ Some node
    pub fresh : is_spent c.labels s node.label ≡ false
    pub item : Item
    pub chosen : choice c s node ≡ Some item
    pub of : is_of_request tenant app request (container_of c s node item) ≡ true

  placed-is : (name : Name) (node : Node) (times : ℕ) → node_of s name ≡ Some node → is_placed_first tenant app request (Placed (beat c node times s).placed) ≡ true → IsServed name
  unfolding beat
  placed-is name node zero there e = absurd (true≢false (sym e))
  placed-is name node (suc times) there e = go (is_spent c.labels s node.label) refl (choice c s node) refl e
    where
      go : (b : Bool) → is_spent c.labels s node.label ≡ b → (o : Option Item) → choice c s node ≡ o →
          is_placed_first tenant app request (Placed (option_map_or {U = Beat} (λ item. record {
            placed = container_of c s node item ∷ (beat c node times (place c node item s)).placed;
            state = (beat c node times (place c node item s)).state;
          }) (cond b None o) (record { placed = []; state = s })).placed) ≡ true → IsServed name
      go true f o g e = absurd (true≢false (sym e))
      go false f None g e = absurd (true≢false (sym e))
      go false f (Some item) g e = record { node = node; there = there; fresh = f; item = item; chosen = g; of = e }

  pub heartbeat-is : (name : Name) → is_placed_first tenant app request (step c s (Heartbeat name)).reply ≡ true → IsServed name
  unfolding step accepted
  heartbeat-is name e = go (first_that_holds (reasons c s (Heartbeat name))) (node_of s name) refl e
    where
      go : (why : Option Refusal) (o : Option Node) → node_of s name ≡ o →
          is_placed_first tenant app request (option_map_or (λ refusal. answered s (Refused refusal)) why (where_there o s (λ node. served (beat c node c.containers_per_heartbeat s)))).reply ≡ true → IsServed name
      go (Some refusal) o f e = absurd (true≢false (sym e))
      go None None f e = absurd (true≢false (sym e))
      go None (Some node) f e = placed-is name node c.containers_per_heartbeat f e

  -- ---- a commit

  -- a request that is committed is that of a proposal against which there is no reason
  pub record IsCommit (proposal : Proposal) : Type 0 where
    pub node : Node
    pub there : node_of s proposal.node ≡ Some node
    pub found : Application
    pub live : find_app s.leaves proposal.tenant proposal.app ≡ Some found
    pub free : first_that_holds (commit_reasons c s proposal) ≡ None
    pub of : is_of_request tenant app request (container_of c s node (proposed_item proposal found)) ≡ true

  pub commit-is : (proposal : Proposal) → is_committed tenant app request (step c s (Commit proposal)).reply ≡ true → IsCommit proposal
  unfolding step reasons accepted
  commit-is proposal e = go (first_that_holds (commit_reasons c s proposal)) refl (node_of s proposal.node) refl (find_app s.leaves proposal.tenant proposal.app) refl e
    where
      go : (why : Option Refusal) → first_that_holds (commit_reasons c s proposal) ≡ why → (o : Option Node) → node_of s proposal.node ≡ o → (p : Option Application) → find_app s.leaves proposal.tenant proposal.app ≡ p →
          is_committed tenant app request (option_map_or (λ refusal. answered s (Refused refusal)) why (where_there o s (λ node. where_there p s (commits c s proposal node)))).reply ≡ true → IsCommit proposal
      go (Some refusal) f o g p k e = absurd (true≢false (sym e))
      go None f None g p k e = absurd (true≢false (sym e))
      go None f (Some node) g None k e = absurd (true≢false (sym e))
      go None f (Some node) g (Some found) k e = record { node = node; there = g; found = found; live = k; free = f; of = e }
