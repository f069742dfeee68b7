-- What stays with each change that an event can make stays with each event.
use Rattle.std.proofs.Common.{◌≡◌, ℕ, true, false, List, [], ◌∷◌, Some, None, is_some, option_map, refl, sym, ap, subst, ◌∙◌}
use Rattle.std.specs.Prelude.{IfSome}
use Rattle.std.specs.Option.{option_map_or}
use Rattle.ynl_resource.specs.declared.amounts.Resource.{Resource}
use Rattle.ynl_resource.specs.Names.{same_name, tenant_of}
use Rattle.ynl_resource.specs.declared.names.Name.{Name}
use Rattle.ynl_resource.specs.declared.labels.Label.{Label}
use Rattle.ynl_resource.specs.Refusals.{first_that_holds}
use Rattle.ynl_model.specs.Nodes.{has_label}
use Rattle.ynl_model.specs.declared.nodes.Node.{Node}
use Rattle.ynl_model.specs.Queues.{Config}
use Rattle.ynl_model.specs.Applications.{find_app}
use Rattle.ynl_model.specs.Cluster.{State, is_spent, node_of, opening}
use Rattle.ynl_model.specs.declared.containers.Placed.{Placed as Container}
use Rattle.ynl_model.specs.Service.{Item}
use Rattle.ynl_model.specs.Changes.{node_joins, node_leaves, place, end, beat, all_own, all_end, app_finishes}
use Rattle.ynl_model.specs.Check.{proposed_item, commit_reasons}
use Rattle.ynl_model.specs.Events.{container_at, container_for, accepted, reasons, step, after}
use Rattle.ynl_model.specs.declared.events.Event.{Event}
use Rattle.ynl_model.specs.declared.events.Event.TheVariants.{Register, Lost, Relabel, Heartbeat, Exited, Submit, Ask, Release, Finish, Stop, Start, Poll, Usage, Propose, Commit, Maximum}
use Rattle.ynl_model.specs.View.{tracked}
use Rattle.ynl_model.specs.Promises.{without_stamp}
use Rattle.ynl_laws.specs.Working.{Apart, Kept, places, Stands}
use Rattle.ynl_laws.proofs.Soundness.Tracked.{tracked-is, place-same, leaves-is}
use Rattle.ynl_laws.proofs.Soundness.Apart.{gone, step-apart}
use Rattle.ynl_laws.proofs.Events.Chosen.{Fits, commit-fits, none-holds}
use Rattle.ynl_laws.proofs.Events.Changed.{kept-place, beat-keeps, step-keeps, kept-opening}
use Rattle.ynl_laws.proofs.Events.Outcomes.{step-cases, there}
use Rattle.ynl_laws.proofs.Lists.{found-passes}
use Rattle.ynl_laws.proofs.Logic.{not-false, none-is}
use Rattle.ynl_laws.proofs.Names.{same-name_sym}

pub stands-found : (s : State) (name : Name) (node : Node) → node_of s name ≡ Some node → Stands s node
stands-found s name node e =
    let same : node.name ≡ name = same-name_sym node.name name (subst (λ o. IfSome o (λ node. same_name node.name name ≡ true)) e (found-passes (λ node. same_name node.name name) s.nodes)) in
    tracked-is node.name s ∙ ap (option_map without_stamp) (ap (node_of s) same ∙ e)

-- what holds of a state and stays with each change
pub record Stays (P : State → Type 0) (c : Config) : Type 0 where
  pub joins : (s : State) (name : Name) (label : Label) (size : Resource) → P s → has_label c.labels label ≡ true → tracked (places s) name ≡ None → P (node_joins c name label size s)
  pub leaves : (s : State) (node : Node) → P s → Stands s node → Apart (places s) → P (node_leaves node s)
  pub ends : (s : State) (container : Container) → P s → P (end c s container)
  pub placed : (s : State) (node : Node) (item : Item) → P s → Kept s → Stands s node → Apart (places s) → Fits s node item → is_spent c.labels s node.label ≡ false → P (place c node item s)
  pub elsewhere : (s u : State) → s.nodes ≡ u.nodes → s.partitions ≡ u.partitions → P s → P u

module _ (P : State → Type 0) (c : Config) (stays : Stays P c) where
  all-end : (containers : List Container) (s : State) → P s → P (all_end c containers s)
  all-end [] s h = h
  all-end (container ∷ containers) s h = all-end containers (end c s container) (stays.ends s container h)

  finishes : (app : _) (s : State) → P s → P (app_finishes c app s)
  unfolding app_finishes
  finishes app s h = stays.elsewhere (all_end c (all_own s (tenant_of app.leaf) app.name) s) _ refl refl (all-end (all_own s (tenant_of app.leaf) app.name) s h)

  free-name : (s : State) (name : Name) → is_some (node_of s name) ≡ false → tracked (places s) name ≡ None
  free-name s name h = tracked-is name s ∙ ap (option_map without_stamp) (none-is (node_of s name) h)

  beats : (node : Node) (times : ℕ) (s : State) → Kept s → Stands s node → Apart (places s) → P s → P (beat c node times s).state
  beats node times s k e a h = (beat-keeps (λ u. P u × Kept u × Stands u node × Apart (places u)) c node
      (λ u item g fits fresh. (stays.placed u node item g.0 g.1 g.2 (g.3) fits fresh, kept-place c node item u g.1 fits.known, ap (λ nodes. tracked nodes node.name) (place-same c node item u) ∙ g.2, subst Apart (sym (place-same c node item u)) g.3))
      (λ u g. g.1) times s (h, k, e, a)).0

  accepted-stays : (s : State) (event : Event) → Kept s → Apart (places s) → P s → first_that_holds (reasons c s event) ≡ None → P (accepted c s event).state
  unfolding accepted reasons commit_reasons
  accepted-stays s (Register name label size) k a h none =
      let all = none-holds (reasons c s (Register name label size)) none in
      stays.joins s name label size h (not-false _ all.0) (free-name s name all.1.0)
  accepted-stays s (Lost name) k a h none = there P (node_of s name) s _ h (λ node e. stays.leaves s node h (stands-found s name node e) a)
  accepted-stays s (Relabel name label) k a h none = there P (node_of s name) s _ h (λ node e.
      stays.joins (node_leaves node s) name label node.size (stays.leaves s node h (stands-found s name node e) a) (not-false _ (none-holds (reasons c s (Relabel name label)) none).0)
      (ap (λ nodes. tracked nodes name) (leaves-is node s) ∙ gone (places s) name (without_stamp node) a (tracked-is name s ∙ ap (option_map without_stamp) e)))
  accepted-stays s (Heartbeat name) k a h none = there P (node_of s name) s _ h (λ node e. beats node c.containers_per_heartbeat s k (stands-found s name node e) a h)
  accepted-stays s (Exited name id) k a h none = there P (container_at s name id) s _ h (λ container e. stays.ends s container h)
  accepted-stays s (Submit queue app user label master) k a h none = stays.elsewhere s _ refl refl h
  accepted-stays s (Ask tenant app label priority count size) k a h none = there P (find_app s.leaves tenant app) s _ h (λ found e. stays.elsewhere s _ refl refl h)
  accepted-stays s (Release tenant id) k a h none = there P (container_for s tenant id) s _ h (λ container e. stays.ends s container h)
  accepted-stays s (Finish tenant app) k a h none = there P (find_app s.leaves tenant app) s _ h (λ found e. finishes found s h)
  accepted-stays s (Stop queue) k a h none = stays.elsewhere s _ refl refl h
  accepted-stays s (Start queue) k a h none = stays.elsewhere s _ refl refl h
  accepted-stays s (Poll tenant app label) k a h none = h
  accepted-stays s (Usage queue label) k a h none = h
  accepted-stays s (Propose name) k a h none = there P (node_of s name) s _ h (λ node e. h)
  accepted-stays s (Commit proposal) k a h none =
      there P (node_of s proposal.node) s _ h (λ node e. there P (find_app s.leaves proposal.tenant proposal.app) s _ h (λ app f.
      stays.placed s node (proposed_item proposal app) h k (stands-found s proposal.node node e) a (commit-fits c s proposal node app k none e f)
      (sym (λ i. option_map_or (λ node. is_spent c.labels s node.label) (e i) false) ∙ spent)))
    where
      spent : option_map_or (λ node. is_spent c.labels s node.label) (node_of s proposal.node) false ≡ false
      spent = (none-holds (commit_reasons c s proposal) none).1.0
  accepted-stays s (Maximum queue label share) k a h none = stays.elsewhere s _ refl refl h

  pub step-stays : (s : State) (event : Event) → Kept s → Apart (places s) → P s → P (step c s event).state
  step-stays s event k a h = step-cases P c s event h (accepted-stays s event k a h)

  pub after-stays : (events : List Event) (s : State) → Kept s → Apart (places s) → P s → P (after c s events)
  after-stays [] s k a h = h
  after-stays (event ∷ events) s k a h = after-stays events (step c s event).state (step-keeps c s event k) (step-apart c s event a) (step-stays s event k a h)

-- what holds at first and stays with each change holds after each list of events
pub always : (P : State → Type 0) (c : Config) → Stays P c → P (opening c) → (events : List Event) → P (after c (opening c) events)
always P c stays first events = after-stays P c stays events (opening c) (kept-opening c) tt first
