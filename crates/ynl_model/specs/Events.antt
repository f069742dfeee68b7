-- What each event is refused for, what it does otherwise, and what whole lists of events do.
use Rattle.std.specs.Prelude.{◌≡◌, ℕ, Bool, true, false, not, ◌&&◌, nat_lt, nat_le, List, [], ◌∷◌, map, filter, find, count_by, length, is_some, Option, Some, unwrap_or, if◌then◌else◌}
use Rattle.std.specs.Option.{option_map_or, option_and_then}
use Rattle.ynl_resource.specs.Amounts.{fits_in}
use Rattle.ynl_resource.specs.Names.{same_name, same_label, is_default, root, same_path, tenant_of, same_id}
use Rattle.ynl_resource.specs.declared.names.Name.{Name}
use Rattle.ynl_resource.specs.declared.labels.Label.{Label}
use Rattle.ynl_resource.specs.declared.labels.Label.TheVariants.{Unlabelled}
use Rattle.ynl_resource.specs.declared.paths.Path.{Path}
use Rattle.ynl_resource.specs.declared.ids.Id.{Id}
use Rattle.ynl_resource.specs.Refusals.{Reasons, first_that_holds}
use Rattle.ynl_resource.specs.declared.refusals.Refusal.TheVariants.{NoSuchLabel, NodeExists, NoSuchNode, SameLabel, PartitionFull, NoSuchQueue, NotALeaf, QueueStopped, RootQueue, LabelNotAccessible, TooLarge, NameUsed, TooManyApplications, NoSuchApplication, LabelMismatch, TooManyAsks, NoSuchContainer, IsMaster, BelowCapacity}
use Rattle.ynl_model.specs.Nodes.{Node, has_label, is_full}
use Rattle.ynl_model.specs.Queues.{Config, setting, is_queue, is_leaf, may_use, capacity_on, accepts, set_stop, set_maximum}
use Rattle.ynl_model.specs.Applications.{Application, find_app, is_used, apps_of, in_leaf, submitted, with_app, new_app, find_ask, set_ask}
use Rattle.ynl_resource.specs.Ranges.{most_asks}
use Rattle.ynl_model.specs.declared.applications.AskRow.{AskRow}
use Rattle.ynl_model.specs.Cluster.{State, Container, opening, node_of, maximum, guaranteed, used, masters_used, guests, is_master, containers_on}
use Rattle.ynl_model.specs.Changes.{node_joins, node_leaves, Beat, beat, place, container_of, end, own_containers, app_finishes}
use Rattle.ynl_model.specs.Check.{Proposal, node_that, app_that, has_node, has_app, proposed, placing_reasons, proposed_item, commit_reasons}
pub use Rattle.ynl_model.specs.declared.events.Event.{Event}
pub use Rattle.ynl_model.specs.declared.events.Event.TheVariants.{Register, Lost, Relabel, Heartbeat, Exited, Submit, Ask, Release, Finish, Stop, Start, Poll, Usage, Propose, Commit, Maximum}
pub use Rattle.ynl_model.specs.declared.replies.Pending.{Pending}
pub use Rattle.ynl_model.specs.declared.entries.Entry.{Entry}
pub use Rattle.ynl_model.specs.declared.replies.Reply.{Reply}
pub use Rattle.ynl_model.specs.declared.replies.Reply.TheVariants.{Done, Refused, Placed, Proposed, Committed, Held, Usage as UsageOf}

-- ---- what the refusals and the changes speak of

-- the container of an id on the node of a name
abbrev pub container_at : State → Name → Id → Option Container
container_at s name id = option_and_then (λ node. find (λ container. same_id container.id id && same_name container.node name) (containers_on s node.label)) (node_of s name)

-- the container of an id, of a tenant
abbrev pub container_for : State → Name → Id → Option Container
container_for s tenant id = find (λ container. same_id container.id id && same_name container.tenant tenant) (containers_on s id.label)

-- the home label of a new application: the submitted one, or else the leaf's default
abbrev pub home_of : Config → Path → Option Label → Label
home_of c queue label = unwrap_or label (setting (λ row. row.leaf.default_label) Unlabelled c queue)

-- whether a leaf has as many live applications as it may have
abbrev pub has_most_apps : Config → State → Path → Bool
has_most_apps c s leaf = nat_le (setting (λ row. row.leaf.maximum_applications) 0 c leaf) (length (apps_of s.leaves leaf))

-- whether a label is neither DEFAULT nor the application's home
abbrev pub is_foreign : Label → Application → Bool
is_foreign label app = not (is_default label) && not (same_label app.home label)

-- whether an ask would be one too many: its count is above 0, it is new, and there are as many of its label as may be
abbrev pub is_one_too_many : Label → ℕ → ℕ → Application → Bool
is_one_too_many label priority count app =
    nat_lt 0 count && not (is_some (find_ask app label priority)) && nat_le most_asks (count_by (λ other. same_label other.label label) app.asks)

-- ---- refusals

-- the reasons for which an event of each kind is refused, in their order, each with whether it holds
unfoldable pub reasons : Config → State → Event → Reasons
reasons c s (Register name label size) =
    (NoSuchLabel, not (has_label c.labels label)) ∷ (NodeExists, has_node s name) ∷ (PartitionFull, is_full s.nodes label) ∷ []
reasons c s (Lost name) = (NoSuchNode, not (has_node s name)) ∷ []
reasons c s (Relabel name label) =
    (NoSuchLabel, not (has_label c.labels label)) ∷ (NoSuchNode, not (has_node s name))
    ∷ (SameLabel, node_that s name (λ node. same_label node.label label)) ∷ (PartitionFull, is_full s.nodes label) ∷ []
reasons c s (Heartbeat name) = placing_reasons c s name
reasons c s (Exited name id) = (NoSuchNode, not (has_node s name)) ∷ (NoSuchContainer, not (is_some (container_at s name id))) ∷ []
reasons c s (Submit queue app user label master) =
    (NoSuchQueue, not (is_queue c queue)) ∷ (NotALeaf, not (is_leaf c queue)) ∷ (QueueStopped, not (accepts s.stops queue))
    ∷ (NoSuchLabel, not (has_label c.labels (home_of c queue label))) ∷ (LabelNotAccessible, not (may_use c queue (home_of c queue label)))
    ∷ (TooLarge, not (fits_in master c.maximum_allocation)) ∷ (NameUsed, is_used s.leaves (tenant_of queue) app)
    ∷ (TooManyApplications, has_most_apps c s queue) ∷ []
reasons c s (Ask tenant app label priority count size) =
    (NoSuchApplication, not (has_app s tenant app)) ∷ (NoSuchLabel, not (has_label c.labels label))
    ∷ (LabelMismatch, app_that s tenant app (is_foreign label)) ∷ (TooLarge, not (fits_in size c.maximum_allocation))
    ∷ (TooManyAsks, app_that s tenant app (is_one_too_many label priority count)) ∷ []
reasons c s (Release tenant id) =
    (NoSuchContainer, not (is_some (container_for s tenant id))) ∷ (IsMaster, option_map_or is_master (container_for s tenant id) false) ∷ []
reasons c s (Finish tenant app) = (NoSuchApplication, not (has_app s tenant app)) ∷ []
reasons c s (Stop queue) = (NoSuchQueue, not (is_queue c queue)) ∷ (RootQueue, same_path queue root) ∷ []
reasons c s (Start queue) = (NoSuchQueue, not (is_queue c queue)) ∷ (RootQueue, same_path queue root) ∷ []
reasons c s (Poll tenant app label) = (NoSuchApplication, not (has_app s tenant app)) ∷ (NoSuchLabel, not (has_label c.labels label)) ∷ []
reasons c s (Usage queue label) = (NoSuchQueue, not (is_queue c queue)) ∷ (NoSuchLabel, not (has_label c.labels label)) ∷ []
reasons c s (Propose name) = placing_reasons c s name
reasons c s (Commit proposal) = commit_reasons c s proposal
reasons c s (Maximum queue label share) =
    (NoSuchQueue, not (is_queue c queue)) ∷ (RootQueue, same_path queue root) ∷ (NoSuchLabel, not (has_label c.labels label))
    ∷ (LabelNotAccessible, not (may_use c queue label)) ∷ (BelowCapacity, nat_lt share (capacity_on c queue label)) ∷ []

-- ---- what is answered to questions

-- what is shown of an ask
abbrev pub pending : AskRow → Pending
pending ask = record { priority = ask.priority; count = ask.count; size = ask.size }

-- an ask in its place among those of lower and of higher priority numbers
abbrev pub by_priority : AskRow → List AskRow → List AskRow
by_priority ask [] = ask ∷ []
by_priority ask (other ∷ others) = if nat_lt ask.priority other.priority then ask ∷ other ∷ others else other ∷ by_priority ask others

-- asks in the order of their priority numbers
abbrev pub sorted : List AskRow → List AskRow
sorted [] = []
sorted (ask ∷ asks) = by_priority ask (sorted asks)

-- an application's asks for a label, by priority
abbrev pub pending_on : Label → Application → List Pending
pending_on label app = map pending (sorted (filter (λ ask. same_label ask.label label) app.asks))

-- an application's containers on a partition by clock, and its asks for that label by priority
unfoldable pub held : State → Name → Name → Label → Reply
held s tenant name label = Held (own_containers s tenant name label) (option_map_or (pending_on label) (find_app s.leaves tenant name) [])

-- what a queue uses, is guaranteed and may use of a partition, and what its masters and its guests use there
unfoldable pub usage : Config → State → Path → Label → Reply
usage c s queue label = UsageOf (used s queue label) (guaranteed c s queue label) (maximum s queue label) (masters_used s queue label) (guests s queue label)

-- ---- what each event does that is not refused

-- the state after an event, and the reply
pub record Outcome : Type 0 where
  pub state : State
  pub reply : Reply

-- the state changes, and the reply says no more than that
abbrev pub done : State → Outcome
done s = record { state = s; reply = Done }

-- the reply is all, and the state stays
abbrev pub answered : State → Reply → Outcome
answered s reply = record { state = s; reply = reply }

-- what comes of something that is there; where it is not, the event has been refused
abbrev pub where_there : {X : Type 0} → Option X → State → (X → Outcome) → Outcome
where_there found s outcome_of = option_map_or outcome_of found (done s)

-- a request is placed on a node
abbrev pub commits : Config → State → Proposal → Node → Application → Outcome
commits c s proposal node app = record {
  state = place c node (proposed_item proposal app) s;
  reply = Committed (container_of c s node (proposed_item proposal app));
}

-- the node is served
abbrev pub served : Beat → Outcome
served after = record { state = after.state; reply = Placed after.placed }

-- what an event does that is not refused: the state after it, and the reply
unfoldable pub accepted : Config → State → Event → Outcome
accepted c s (Register name label size) = done (node_joins c name label size s)
accepted c s (Lost name) = where_there (node_of s name) s (λ node. done (node_leaves node s))
accepted c s (Relabel name label) = where_there (node_of s name) s (λ node. done (node_joins c name label node.size (node_leaves node s)))
accepted c s (Heartbeat name) = where_there (node_of s name) s (λ node. served (beat c node c.containers_per_heartbeat s))
accepted c s (Exited name id) = where_there (container_at s name id) s (λ container. done (end c s container))
accepted c s (Submit queue app user label master) = done (record s { leaves = in_leaf queue (submitted (new_app queue app user (home_of c queue label) master)) s.leaves })
accepted c s (Ask tenant app label priority count size) =
    where_there (find_app s.leaves tenant app) s
    (λ found. done (record s { leaves = in_leaf found.leaf (with_app app (set_ask (record { label = label; priority = priority; count = count; size = size }))) s.leaves }))
accepted c s (Release tenant id) = where_there (container_for s tenant id) s (λ container. done (end c s container))
accepted c s (Finish tenant app) = where_there (find_app s.leaves tenant app) s (λ found. done (app_finishes c found s))
accepted c s (Stop queue) = done (record s { stops = set_stop queue true s.stops })
accepted c s (Start queue) = done (record s { stops = set_stop queue false s.stops })
accepted c s (Poll tenant app label) = answered s (held s tenant app label)
accepted c s (Usage queue label) = answered s (usage c s queue label)
accepted c s (Propose name) = where_there (node_of s name) s (λ node. answered s (Proposed (proposed c s node)))
accepted c s (Commit proposal) = where_there (node_of s proposal.node) s (λ node. where_there (find_app s.leaves proposal.tenant proposal.app) s (commits c s proposal node))
accepted c s (Maximum queue label share) = done (record s { maxima = set_maximum queue label share s.maxima })

-- ---- steps and runs

-- one step: the first reason that holds is answered, and then nothing changes; where none holds, the event is accepted
unfoldable pub step : Config → State → Event → Outcome
step c s event = option_map_or (λ refusal. answered s (Refused refusal)) (first_that_holds (reasons c s event)) (accepted c s event)

-- the state after a list of events
abbrev pub after : Config → State → List Event → State
after c s [] = s
after c s (event ∷ events) = after c (step c s event).state events

-- the replies to a list of events, one to each
abbrev pub replies : Config → State → List Event → List Reply
replies c s [] = []
replies c s (event ∷ events) = (step c s event).reply ∷ replies c (step c s event).state events

-- the state of the cluster after a list of events, from the opening state
abbrev pub state_after : Config → List Event → State
state_after c events = after c (opening c) events

-- the replies of the cluster, from the opening state
abbrev pub replies_to : Config → List Event → List Reply
replies_to c events = replies c (opening c) events

-- a closed history: each entry has a reply, and it is the cluster's
abbrev pub IsHistory : Config → List Entry → Type 0
IsHistory c entries = map (λ entry. entry.reply) entries ≡ map Some (replies_to c (map (λ entry. entry.event) entries))
