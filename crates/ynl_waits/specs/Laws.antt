-- Laws of what is told of a request: what a heartbeat or a commit as the very next event does with it, and where a reason is told.
use Rattle.std.specs.Prelude.{◌≡◌, ℕ, ◌<◌, Bool, true, false, ◌&&◌, ◌||◌, IsTrue, IsFalse, ⊤, nat_lt, List, ◌∷◌, map, All}
use Rattle.std.specs.List.{AllByRecursion, Contains, list_any, list_all}
use Rattle.ynl_resource.specs.Names.{same_label}
use Rattle.ynl_resource.specs.declared.names.Name.{Name}
use Rattle.ynl_resource.specs.declared.labels.Label.{Label}
use Rattle.ynl_model.specs.Nodes.{partition_labels}
use Rattle.ynl_model.specs.Queues.{Config}
use Rattle.ynl_model.specs.Applications.{LeafApps}
use Rattle.ynl_model.specs.declared.containers.Placed.{Placed as Container}
use Rattle.ynl_model.specs.declared.proposals.Proposal.{Proposal}
use Rattle.ynl_model.specs.declared.events.Event.TheVariants.{Heartbeat, Commit}
use Rattle.ynl_model.specs.declared.replies.Reply.{Reply}
use Rattle.ynl_model.specs.declared.replies.Reply.TheVariants.{Placed, Committed}
use Rattle.ynl_model.specs.Cluster.{State, is_of}
use Rattle.ynl_model.specs.Events.{step}
use Rattle.ynl_model.specs.Promises.{IsUnrefused}
use Rattle.ynl_waits.specs.Grounds.{Ground, ground, guest_grounds}
use Rattle.ynl_waits.specs.Waits.{Request, Reason, Wait, Explained, same_what}
use Rattle.ynl_waits.specs.declared.waits.Reason.TheVariants.{Application, Clock, Room, Turn, Next}
use Rattle.ynl_waits.specs.declared.waits.Explained.TheVariants.{Refused, Waits}

-- ---- what comes of a request

-- whether a container is of a request of a tenant's application
abbrev pub is_of_request : Name → Name → Request → Container → Bool
is_of_request tenant app request container = is_of tenant app container && same_what container.what request.what

-- whether the first container that a reply to a heartbeat lists is of the request
abbrev pub is_placed_first : Name → Name → Request → Reply → Bool
is_placed_first tenant app request (Placed (container ∷ more)) = is_of_request tenant app request container
is_placed_first tenant app request _ = false

-- whether the container of a reply to a commit is of the request
abbrev pub is_committed : Name → Name → Request → Reply → Bool
is_committed tenant app request (Committed container) = is_of_request tenant app request container
is_committed tenant app request _ = false

-- ---- what is told

-- whether a reason is that the request is next
abbrev pub is_next : Reason → Bool
is_next (Next node nodes) = true
is_next _ = false

-- whether a reason is that another is ahead
abbrev pub is_turn : Reason → Bool
is_turn (Turn turn) = true
is_turn _ = false

-- whether a reason but `next` is one on a partition where the request may go: `application` and `turn` are on each, `clock` and `room`
-- on the one that they name, and the others on its own
abbrev pub is_reason_on : Request → Label → Reason → Bool
is_reason_on request label Application = true
is_reason_on request label (Turn turn) = true
is_reason_on request label (Clock other) = same_label other label
is_reason_on request label (Room other nodes free) = same_label other label
is_reason_on request label (Next node nodes) = false
is_reason_on request label _ = same_label request.label label

-- ---- the laws of one request

-- where it is told to be next on a node, a heartbeat of that node as the very next event is not refused, and the first container that it
-- places is of the request; the configuration has to let a heartbeat place any
pub record IsNextPlaced (c : Config) (s : State) (tenant app : Name) (wait : Wait) (node : Name) : Type 0 where
  pub free : IsUnrefused c s (Heartbeat node)
  pub first : 0 < c.containers_per_heartbeat → IsTrue (is_placed_first tenant app wait.request (step c s (Heartbeat node)).reply)

-- so on each node on which it is told to be next
abbrev pub AreNextPlaced : Config → State → Name → Name → Wait → Type 0
AreNextPlaced c s tenant app wait = (node : Name) (nodes : ℕ) → Contains wait.reasons (Next node nodes) → IsNextPlaced c s tenant app wait node

-- where it is not told to be next, no heartbeat as the very next event places a container of it first
abbrev pub IsNotPlaced : Config → State → Name → Name → Wait → Type 0
IsNotPlaced c s tenant app wait =
    IsFalse (list_any is_next wait.reasons) → (node : Name)
    → IsFalse (is_placed_first tenant app wait.request (step c s (Heartbeat node)).reply)

-- where it is not told that another is ahead either, no commit as the very next event places a container of it
abbrev pub IsNotCommitted : Config → State → Name → Name → Wait → Type 0
IsNotCommitted c s tenant app wait =
    IsFalse (list_any is_next wait.reasons) → IsFalse (list_any is_turn wait.reasons) → (proposal : Proposal)
    → IsFalse (is_committed tenant app wait.request (step c s (Commit proposal)).reply)

-- where it may go: its own partition, and those where it may be a guest
abbrev pub grounds_for : Config → State → Request → List Ground
grounds_for c s request = ground c s request.label ∷ guest_grounds c s request.what

-- whether a reason on a partition is told
abbrev pub is_told_on : Wait → Ground → Bool
is_told_on wait there = list_any (is_reason_on wait.request there.label) wait.reasons

-- it is told to be next, or a reason is told on each partition where it may go; so something is told of it
abbrev pub IsTold : Config → State → Wait → Type 0
IsTold c s wait = IsTrue (list_any is_next wait.reasons || list_all (is_told_on wait) (grounds_for c s wait.request))

-- a law holds of each request that is explained
abbrev pub OfEach : (Wait → Type 0) → Explained → Type 0
OfEach law (Refused refusal) = ⊤
OfEach law (Waits waits) = All law waits

-- ---- what the laws rest on

-- each ask of the live applications is for some containers
abbrev pub AreWanted : List LeafApps → Type 0
AreWanted leaves = AllByRecursion (λ row. AllByRecursion (λ app. AllByRecursion (λ ask. nat_lt 0 ask.count ≡ true) app.asks) row.apps) leaves

-- that is so, and the partitions are those of the configuration
pub record IsWellFormed (c : Config) (s : State) : Type 0 where
  pub wanted : AreWanted s.leaves
  pub partitions : map (λ row. row.label) s.partitions ≡ partition_labels c.labels
