-- The track is the nodes of the cluster.
use Rattle.std.proofs.Common.{◌≡◌, refl, sym, ap, ◌∙◌, ℕ, zero, suc, Bool, true, false, cond, not, ◌&&◌, List, [], ◌∷◌, map, length, Option, Some, None, is_some, filter}
use Rattle.std.proofs.lemmas.List.{map-append, length-map}
use Rattle.std.specs.Prelude.{nat_le}
use Rattle.std.specs.Option.{option_map, option_map_or}
use Rattle.ynl_resource.specs.declared.amounts.Resource.{Resource}
use Rattle.ynl_resource.specs.Names.{same_name, same_label, tenant_of}
use Rattle.ynl_resource.specs.declared.names.Name.{Name}
use Rattle.ynl_resource.specs.declared.labels.Label.{Label}
use Rattle.ynl_resource.specs.Refusals.{Reasons, first_that_holds}
use Rattle.ynl_resource.specs.declared.refusals.Refusal.TheVariants.{NoSuchLabel, NodeExists, NoSuchNode, SameLabel, PartitionFull}
use Rattle.ynl_model.specs.Nodes.{has_label, nodes_of, is_full, stamped, joined, left}
use Rattle.ynl_resource.specs.Ranges.{most_nodes}
use Rattle.ynl_model.specs.declared.nodes.Node.{Node}
use Rattle.ynl_model.specs.Queues.{Config}
use Rattle.ynl_model.specs.Applications.{Application, find_app}
use Rattle.ynl_model.specs.Cluster.{State, opening, node_of}
use Rattle.ynl_model.specs.declared.containers.Placed.{Placed as Container}
use Rattle.ynl_model.specs.Service.{Item}
use Rattle.ynl_model.specs.Changes.{node_joins, node_leaves, changed_at, next_item, Beat, beat, place, end, all_end, container_of, all_own, app_finishes}
use Rattle.ynl_model.specs.Events.{Outcome, answered, done, where_there, container_at, container_for, accepted, reasons, step, after}
use Rattle.ynl_model.specs.declared.events.Event.{Event}
use Rattle.ynl_model.specs.declared.events.Event.TheVariants.{Register, Lost, Relabel, Heartbeat, Exited, Submit, Ask, Release, Finish, Stop, Start, Poll, Usage, Propose, Commit, Maximum}
use Rattle.ynl_model.specs.declared.replies.Reply.TheVariants.{Refused}
use Rattle.ynl_model.specs.View.{tracked, registers, relabels, track_from, track_step, joined as added, dropped}
use Rattle.ynl_model.specs.declared.nodes.Tracked.{Tracked}
use Rattle.ynl_model.specs.Promises.{without_stamp, IsTracked}
use Rattle.ynl_laws.proofs.Lists.{find-map, filter-map, map-update}
use Rattle.ynl_laws.proofs.Logic.{is_some-map}
use Rattle.ynl_laws.proofs.Events.Outcomes.{there, step-cases}

-- ---- nodes without their stamps

abbrev pub Same : State → State → Type 0
Same s u = map without_stamp u.nodes ≡ map without_stamp s.nodes

pub changed-same : (c : Config) (name : Name) (label : Label) (change : List Container → List Container) (s : State) → Same s (changed_at c name label change s)
unfolding changed_at stamped
changed-same c name label change s = map-update without_stamp _ _ (λ node. refl) s.nodes

pub place-same : (c : Config) (node : Node) (item : Item) (s : State) → Same s (place c node item s)
unfolding place
place-same c node item s = changed-same c node.name node.label _ s

pub end-same : (c : Config) (s : State) (container : Container) → Same s (end c s container)
unfolding end
end-same c s container = changed-same c container.node container.id.label _ s

beat-same : (c : Config) (node : Node) (times : ℕ) (s : State) → Same s (beat c node times s).state
unfolding beat
beat-same c node zero s = refl
beat-same c node (suc times) s =
    elim (next_item c s node) as (λ found. Same s (option_map_or {U = Beat}
    (λ item. record { placed = container_of c s node item ∷ (beat c node times (place c node item s)).placed; state = (beat c node times (place c node item s)).state })
    found (record { placed = []; state = s })).state) [ None ↦ refl | Some item ↦ beat-same c node times (place c node item s) ∙ place-same c node item s ]

pub all_end-same : (c : Config) (containers : List Container) (s : State) → Same s (all_end c containers s)
all_end-same c [] s = refl
all_end-same c (container ∷ containers) s = all_end-same c containers (end c s container) ∙ end-same c s container

pub finish-same : (c : Config) (app : Application) (s : State) → Same s (app_finishes c app s)
unfolding app_finishes
finish-same c app s = all_end-same c (all_own s (tenant_of app.leaf) app.name) s

-- what is refused changes nothing
step-same : (c : Config) (s : State) (event : Event) → Same s (accepted c s event).state → Same s (step c s event).state
step-same c s event h = step-cases (Same s) c s event refl (λ _. h)

there-same : {X : Type 0} (found : Option X) (s : State) (f : X → Outcome) → ((x : X) → Same s (f x).state) → Same s (where_there found s f).state
there-same found s f h = there (Same s) found s f refl (λ x _. h x)

-- ---- what a track keeps

-- only a node that joins, is lost or goes elsewhere changes the track
pub record TrackKeeps (P : List Tracked → Type 0) (c : Config) (nodes : List Tracked) (event : Event) : Type 0 where
  pub joins : (name : Name) (label : Label) (size : Resource) → event ≡ Register name label size → registers c nodes name label ≡ true → P (added nodes name label size)
  pub drops : (name : Name) (node : Tracked) → tracked nodes name ≡ Some node → P (dropped nodes node)
  pub goes : (name : Name) (label : Label) (node : Tracked) → tracked nodes name ≡ Some node → relabels c nodes name label ≡ true → P (added (dropped nodes node) name label node.size)

pub track-keeps : (P : List Tracked → Type 0) (c : Config) (nodes : List Tracked) (event : Event) → P nodes → TrackKeeps P c nodes event → P (track_step c nodes event)
unfolding track_step
track-keeps P c nodes (Register name label size) h k = go (registers c nodes name label) refl
  where
    go : (b : Bool) → registers c nodes name label ≡ b → P (cond b (added nodes name label size) nodes)
    go true e = k.joins name label size refl e
    go false e = h
track-keeps P c nodes (Lost name) h k = go (tracked nodes name) refl
  where
    go : (o : Option Tracked) → tracked nodes name ≡ o → P (option_map_or (dropped nodes) o nodes)
    go None e = h
    go (Some node) e = k.drops name node e
track-keeps P c nodes (Relabel name label) h k = go (relabels c nodes name label) refl (tracked nodes name) refl
  where
    go : (b : Bool) → relabels c nodes name label ≡ b → (o : Option Tracked) → tracked nodes name ≡ o → P (cond b (option_map_or (λ node. added (dropped nodes node) name label node.size) o nodes) nodes)
    go true f None e = h
    go true f (Some node) e = k.goes name label node e f
    go false f o e = h
track-keeps P c nodes (Heartbeat name) h k = h
track-keeps P c nodes (Exited name id) h k = h
track-keeps P c nodes (Submit queue app user label master) h k = h
track-keeps P c nodes (Ask tenant app label priority count size) h k = h
track-keeps P c nodes (Release tenant id) h k = h
track-keeps P c nodes (Finish tenant app) h k = h
track-keeps P c nodes (Stop queue) h k = h
track-keeps P c nodes (Start queue) h k = h
track-keeps P c nodes (Poll tenant app label) h k = h
track-keeps P c nodes (Usage queue label) h k = h
track-keeps P c nodes (Propose name) h k = h
track-keeps P c nodes (Commit proposal) h k = h
track-keeps P c nodes (Maximum queue label share) h k = h

-- ---- a step

pub tracked-is : (name : Name) (s : State) → tracked (map without_stamp s.nodes) name ≡ option_map without_stamp (node_of s name)
tracked-is name s = find-map without_stamp (λ node. same_name node.name name) s.nodes

pub full-is : (label : Label) (s : State) → nat_le most_nodes (length (filter (λ node. same_label node.label label) (map without_stamp s.nodes))) ≡ is_full s.nodes label
unfolding is_full
full-is label s = ap (λ xs. nat_le most_nodes (length xs)) (filter-map without_stamp (λ node. same_label node.label label) s.nodes) ∙ ap (nat_le most_nodes) (length-map (nodes_of s.nodes label) without_stamp)

pub joins-is : (c : Config) (name : Name) (label : Label) (size : Resource) (s : State) → map without_stamp (node_joins c name label size s).nodes ≡ added (map without_stamp s.nodes) name label size
unfolding node_joins joined
joins-is c name label size s = map-append without_stamp s.nodes _

pub leaves-is : (node : Node) (s : State) → map without_stamp (node_leaves node s).nodes ≡ dropped (map without_stamp s.nodes) (without_stamp node)
unfolding node_leaves left
leaves-is node s = sym (filter-map without_stamp (λ other. not (same_name other.name node.name && same_label other.label node.label)) s.nodes)

-- the nodes after an event that is refused for the first of some reasons, and else has an outcome
abbrev outcome_places : Reasons → State → Outcome → List Tracked
outcome_places why s outcome = map without_stamp (option_map_or (λ refusal. answered s (Refused refusal)) (first_that_holds why) outcome).state.nodes

pub there-is : (name : Name) (s : State) → is_some (tracked (map without_stamp s.nodes) name) ≡ is_some (node_of s name)
there-is name s = ap is_some (tracked-is name s) ∙ is_some-map without_stamp (node_of s name)

-- each of the three reasons is the failure of one of the three tests
register-choice : (known there full : Bool) (s : State) (outcome : Outcome) (nodes : List Tracked) → map without_stamp outcome.state.nodes ≡ nodes →
    outcome_places ((NoSuchLabel, not known) ∷ (NodeExists, there) ∷ (PartitionFull, full) ∷ []) s outcome ≡ cond (known && not there && not full) nodes (map without_stamp s.nodes)
register-choice true false false s outcome nodes h = h
register-choice true false true s outcome nodes h = refl
register-choice true true full s outcome nodes h = refl
register-choice false there full s outcome nodes h = refl

register-is : (c : Config) (name : Name) (label : Label) (size : Resource) (s : State) →
    map without_stamp (step c s (Register name label size)).state.nodes ≡ track_step c (map without_stamp s.nodes) (Register name label size)
unfolding step reasons accepted track_step
register-is c name label size s =
    register-choice (has_label c.labels label) (is_some (node_of s name)) (is_full s.nodes label) s (accepted c s (Register name label size)) _ (joins-is c name label size s)
    ∙ (λ i. cond (has_label c.labels label && not (sym (there-is name s) i) && not (sym (full-is label s) i)) (added (map without_stamp s.nodes) name label size) (map without_stamp s.nodes))

lost-choice : (found : Option Node) (s : State) →
    outcome_places ((NoSuchNode, not (is_some found)) ∷ []) s (where_there found s (λ node. done (node_leaves node s)))
    ≡ option_map_or (dropped (map without_stamp s.nodes)) (option_map without_stamp found) (map without_stamp s.nodes)
lost-choice None s = refl
lost-choice (Some node) s = leaves-is node s

lost-is : (c : Config) (name : Name) (s : State) → map without_stamp (step c s (Lost name)).state.nodes ≡ track_step c (map without_stamp s.nodes) (Lost name)
unfolding step reasons accepted track_step
lost-is c name s = lost-choice (node_of s name) s ∙ ap (λ found. option_map_or (dropped (map without_stamp s.nodes)) found (map without_stamp s.nodes)) (sym (tracked-is name s))

-- where the node goes
abbrev goes : List Tracked → Name → Label → Option Tracked → List Tracked
goes nodes name label found = option_map_or (λ node. added (dropped nodes node) name label node.size) found nodes

moves-is : (c : Config) (name : Name) (label : Label) (node : Node) (s : State) →
    map without_stamp (node_joins c name label node.size (node_leaves node s)).nodes ≡ added (dropped (map without_stamp s.nodes) (without_stamp node)) name label node.size
moves-is c name label node s = joins-is c name label node.size (node_leaves node s) ∙ ap (λ nodes. added nodes name label node.size) (leaves-is node s)

relabel-found : (known same full : Bool) (c : Config) (name : Name) (label : Label) (node : Node) (s : State) →
    outcome_places ((NoSuchLabel, not known) ∷ (NoSuchNode, false) ∷ (SameLabel, same) ∷ (PartitionFull, full) ∷ []) s (done (node_joins c name label node.size (node_leaves node s)))
    ≡ cond (known && true && not same && not full) (added (dropped (map without_stamp s.nodes) (without_stamp node)) name label node.size) (map without_stamp s.nodes)
relabel-found true false false c name label node s = moves-is c name label node s
relabel-found true false true c name label node s = refl
relabel-found true true full c name label node s = refl
relabel-found false same full c name label node s = refl

abbrev in_label : Label → Option Tracked → Bool
in_label label found = option_map_or (λ node. same_label node.label label) found false

relabel-choice : (known full : Bool) (c : Config) (name : Name) (label : Label) (found : Option Node) (s : State) →
    outcome_places ((NoSuchLabel, not known) ∷ (NoSuchNode, not (is_some found)) ∷ (SameLabel, option_map_or (λ node. same_label node.label label) found false) ∷ (PartitionFull, full) ∷ []) s
    (where_there found s (λ node. done (node_joins c name label node.size (node_leaves node s))))
    ≡ cond (known && is_some (option_map without_stamp found) && not (in_label label (option_map without_stamp found)) && not full)
    (goes (map without_stamp s.nodes) name label (option_map without_stamp found)) (map without_stamp s.nodes)
relabel-choice true full c name label None s = refl
relabel-choice false full c name label None s = refl
relabel-choice known full c name label (Some node) s = relabel-found known (same_label node.label label) full c name label node s

relabel-is : (c : Config) (name : Name) (label : Label) (s : State) → map without_stamp (step c s (Relabel name label)).state.nodes ≡ track_step c (map without_stamp s.nodes) (Relabel name label)
unfolding step reasons accepted track_step
relabel-is c name label s =
    relabel-choice (has_label c.labels label) (is_full s.nodes label) c name label (node_of s name) s
    ∙ (λ i. cond (has_label c.labels label && is_some (sym (tracked-is name s) i) && not (in_label label (sym (tracked-is name s) i)) && not (sym (full-is label s) i))
    (goes (map without_stamp s.nodes) name label (sym (tracked-is name s) i)) (map without_stamp s.nodes))

-- every other event leaves the track and the nodes as they are
pub step-is : (c : Config) (s : State) (event : Event) → map without_stamp (step c s event).state.nodes ≡ track_step c (map without_stamp s.nodes) event
unfolding accepted track_step
step-is c s (Register name label size) = register-is c name label size s
step-is c s (Lost name) = lost-is c name s
step-is c s (Relabel name label) = relabel-is c name label s
step-is c s (Heartbeat name) = step-same c s (Heartbeat name) (there-same (node_of s name) s _ (λ node. beat-same c node c.containers_per_heartbeat s))
step-is c s (Exited name id) = step-same c s (Exited name id) (there-same (container_at s name id) s _ (end-same c s))
step-is c s (Submit queue app user label master) = step-same c s (Submit queue app user label master) refl
step-is c s (Ask tenant app label priority count size) = step-same c s (Ask tenant app label priority count size) (there-same (find_app s.leaves tenant app) s _ (λ found. refl))
step-is c s (Release tenant id) = step-same c s (Release tenant id) (there-same (container_for s tenant id) s _ (end-same c s))
step-is c s (Finish tenant app) = step-same c s (Finish tenant app) (there-same (find_app s.leaves tenant app) s _ (λ found. finish-same c found s))
step-is c s (Stop queue) = step-same c s (Stop queue) refl
step-is c s (Start queue) = step-same c s (Start queue) refl
step-is c s (Poll tenant app label) = step-same c s (Poll tenant app label) refl
step-is c s (Usage queue label) = step-same c s (Usage queue label) refl
step-is c s (Propose name) = step-same c s (Propose name) (there-same (node_of s name) s _ (λ node. refl))
step-is c s (Commit proposal) =
    step-same c s (Commit proposal) (there-same (node_of s proposal.node) s _ (λ node. there-same (find_app s.leaves proposal.tenant proposal.app) s _ (λ app. place-same c node _ s)))
step-is c s (Maximum queue label share) = step-same c s (Maximum queue label share) refl

-- ---- runs

from-is : (c : Config) (events : List Event) (s : State) → track_from c (map without_stamp s.nodes) events ≡ map without_stamp (after c s events).nodes
from-is c [] s = refl
from-is c (event ∷ events) s = ap (λ nodes. track_from c nodes events) (sym (step-is c s event)) ∙ from-is c events (step c s event).state

pub is_tracked : IsTracked
is_tracked c events = from-is c events (opening c)
