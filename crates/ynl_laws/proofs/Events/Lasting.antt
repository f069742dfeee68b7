-- What holds of nodes, containers and applications together, and stays with each change that an event can make, stays with each event.
use Rattle.std.proofs.Common.{◌≡◌, ℕ, true, false, List, [], ◌∷◌, Some, None, is_some, refl, sym, ◌∙◌}
use Rattle.std.specs.Option.{option_map_or}
use Rattle.ynl_resource.specs.declared.amounts.Resource.{Resource}
use Rattle.ynl_resource.specs.Names.{tenant_of}
use Rattle.ynl_resource.specs.declared.names.Name.{Name}
use Rattle.ynl_resource.specs.declared.labels.Label.{Label}
use Rattle.ynl_resource.specs.Refusals.{first_that_holds}
use Rattle.ynl_model.specs.declared.nodes.Node.{Node}
use Rattle.ynl_model.specs.Queues.{Config, may_use}
use Rattle.ynl_model.specs.Applications.{Application, leaf_of, find_app, in_leaf, submitted, with_app, set_ask, new_app}
use Rattle.ynl_model.specs.declared.applications.AskRow.{AskRow}
use Rattle.ynl_model.specs.Cluster.{State, node_of, opening}
use Rattle.ynl_model.specs.declared.containers.Placed.{Placed as Container}
use Rattle.ynl_model.specs.Service.{Item, choice}
use Rattle.ynl_model.specs.Changes.{node_joins, node_leaves, place, end, beat, app_finishes}
use Rattle.ynl_model.specs.Check.{proposed_item}
use Rattle.ynl_model.specs.Events.{container_at, container_for, home_of, is_foreign, accepted, reasons, step, after, state_after}
use Rattle.ynl_model.specs.declared.events.Event.{Event}
use Rattle.ynl_model.specs.declared.events.Event.TheVariants.{Register, Lost, Relabel, Heartbeat, Exited, Submit, Ask, Release, Finish, Stop, Start, Poll, Usage, Propose, Commit, Maximum}
use Rattle.ynl_laws.specs.Working.{IsKnown, Kept}
use Rattle.ynl_laws.proofs.Events.Chosen.{Fits, choice-fits, commit-fits, none-holds}
use Rattle.ynl_laws.proofs.Events.Changed.{kept-place, kept-opening, beat-keeps-by, step-keeps}
use Rattle.ynl_laws.proofs.Events.Outcomes.{step-cases, there}
use Rattle.ynl_laws.proofs.Events.Found.{FindsAll, is_found, place-finds, step-finds}
use Rattle.ynl_laws.proofs.Events.Wanted.{IsWanted, choice-wanted, commit-wanted}
use Rattle.ynl_laws.proofs.Logic.{not-false, both-some}

-- what holds of a state and stays with each change, of applications too
pub record Lasts (P : State → Type 0) (c : Config) : Type 0 where
  pub joins : (s : State) (name : Name) (label : Label) (size : Resource) → P s → P (node_joins c name label size s)
  pub leaves : (s : State) (node : Node) → P s → P (node_leaves node s)
  pub ends : (s : State) (container : Container) → P s → P (end c s container)
  pub placed : (s : State) (node : Node) (item : Item) → P s → Kept s → FindsAll s.leaves → IsKnown s.leaves item.leaf item.app → IsWanted c s node.label item → P (place c node item s)
  pub submits : (s : State) (app : Application) → P s → Kept s → FindsAll s.leaves → is_some (leaf_of s.leaves (tenant_of app.leaf) app.name) ≡ false → may_use c app.leaf app.home ≡ true → app.asks ≡ [] →
      P (record s { leaves = in_leaf app.leaf (submitted app) s.leaves })
  pub asks : (s : State) (tenant name : Name) (found : Application) (ask : AskRow) → P s → FindsAll s.leaves → find_app s.leaves tenant name ≡ Some found → is_foreign ask.label found ≡ false →
      P (record s { leaves = in_leaf found.leaf (with_app name (set_ask ask)) s.leaves })
  pub finishes : (s : State) (found : Application) → P s → FindsAll s.leaves → P (app_finishes c found s)
  pub elsewhere : (s u : State) → s.nodes ≡ u.nodes → s.partitions ≡ u.partitions → s.leaves ≡ u.leaves → P s → P u

module _ (P : State → Type 0) (c : Config) (lasts : Lasts P c) where
  beats : (node : Node) (times : ℕ) (s : State) → Kept s → FindsAll s.leaves → P s → P (beat c node times s).state
  beats node times s k finds h = (beat-keeps-by (λ u. P u × Kept u × FindsAll u.leaves) (λ u item. Fits u node item × IsWanted c u node.label item) c node
      (λ u g. both-some (Fits u node) (IsWanted c u node.label) (choice c u node) (choice-fits c u node g.1) (choice-wanted c u g.2 node))
      (λ u item g q fresh. (lasts.placed u node item g.0 g.1 g.2 q.0.known q.1, kept-place c node item u g.1 q.0.known, place-finds c node item u g.1 g.2)) times s (h, k, finds)).0

  accepted-lasts : (s : State) (event : Event) → Kept s → FindsAll s.leaves → P s → first_that_holds (reasons c s event) ≡ None → P (accepted c s event).state
  unfolding accepted reasons
  accepted-lasts s (Register name label size) k finds h none = lasts.joins s name label size h
  accepted-lasts s (Lost name) k finds h none = there P (node_of s name) s _ h (λ node e. lasts.leaves s node h)
  accepted-lasts s (Relabel name label) k finds h none = there P (node_of s name) s _ h (λ node e. lasts.joins (node_leaves node s) name label node.size (lasts.leaves s node h))
  accepted-lasts s (Heartbeat name) k finds h none = there P (node_of s name) s _ h (λ node e. beats node c.containers_per_heartbeat s k finds h)
  accepted-lasts s (Exited name id) k finds h none = there P (container_at s name id) s _ h (λ container e. lasts.ends s container h)
  accepted-lasts s (Submit queue app user label master) k finds h none =
      let all = none-holds (reasons c s (Submit queue app user label master)) none in
      lasts.submits s (new_app queue app user (home_of c queue label) master) h k finds all.1.1.1.1.1.1.0 (not-false _ all.1.1.1.1.0) refl
  accepted-lasts s (Ask tenant app label priority count size) k finds h none = there P (find_app s.leaves tenant app) s _ h (λ found e.
      lasts.asks s tenant app found (record { label = label; priority = priority; count = count; size = size }) h finds e
      (sym (λ i. option_map_or (is_foreign label) (e i) false) ∙ (none-holds (reasons c s (Ask tenant app label priority count size)) none).1.1.0))
  accepted-lasts s (Release tenant id) k finds h none = there P (container_for s tenant id) s _ h (λ container e. lasts.ends s container h)
  accepted-lasts s (Finish tenant app) k finds h none = there P (find_app s.leaves tenant app) s _ h (λ found e. lasts.finishes s found h finds)
  accepted-lasts s (Stop queue) k finds h none = lasts.elsewhere s _ refl refl refl h
  accepted-lasts s (Start queue) k finds h none = lasts.elsewhere s _ refl refl refl h
  accepted-lasts s (Poll tenant app label) k finds h none = h
  accepted-lasts s (Usage queue label) k finds h none = h
  accepted-lasts s (Propose name) k finds h none = there P (node_of s name) s _ h (λ node e. h)
  accepted-lasts s (Commit proposal) k finds h none =
      there P (node_of s proposal.node) s _ h (λ node e. there P (find_app s.leaves proposal.tenant proposal.app) s _ h (λ app f.
      lasts.placed s node (proposed_item proposal app) h k finds (commit-fits c s proposal node app k none e f).known (commit-wanted c s proposal node app finds none e f)))
  accepted-lasts s (Maximum queue label share) k finds h none = lasts.elsewhere s _ refl refl refl h

  pub step-lasts : (s : State) (event : Event) → Kept s → FindsAll s.leaves → P s → P (step c s event).state
  step-lasts s event k finds h = step-cases P c s event h (accepted-lasts s event k finds h)

  pub after-lasts : (events : List Event) (s : State) → Kept s → FindsAll s.leaves → P s → P (after c s events)
  after-lasts [] s k finds h = h
  after-lasts (event ∷ events) s k finds h =
      after-lasts events (step c s event).state (step-keeps c s event k) (step-finds c s event k finds) (step-lasts s event k finds h)

-- what holds at first and stays with each change holds after each list of events
pub lasting : (P : State → Type 0) (c : Config) → Lasts P c → P (opening c) → (events : List Event) → P (state_after c events)
lasting P c lasts first events = after-lasts P c lasts events (opening c) (kept-opening c) (is_found c []) first
