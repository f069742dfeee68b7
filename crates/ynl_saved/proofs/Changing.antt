-- What holds at first and stays with each change that an event can make holds in each state; of each change all is known that the event was tested for.
use Rattle.std.proofs.Common.{◌≡◌, ◌≤◌, ℕ, Bool, true, false, not, List, [], length, Some, None, filter, refl, sym, ap, subst, ◌∙◌, arith}
use Rattle.std.specs.Prelude.{nat_lt, nat_le}
use Rattle.std.specs.Option.{option_map_or}
use Rattle.std.proofs.lemmas.Bool.Decides.{nat_tests}
use Rattle.std.proofs.lemmas.List.Sums.{length-filter, count_by-le-length}
use Rattle.ynl_resource.specs.Amounts.{fits_in}
use Rattle.ynl_resource.specs.Names.{same_label, tenant_of}
use Rattle.ynl_resource.specs.Ranges.{most_nodes}
use Rattle.ynl_resource.specs.Refusals.{first_that_holds}
use Rattle.ynl_resource.specs.declared.amounts.Resource.{Resource}
use Rattle.ynl_resource.specs.declared.labels.Label.{Label}
use Rattle.ynl_resource.specs.declared.names.Name.{Name}
use Rattle.ynl_resource.specs.declared.paths.Path.{Path}
use Rattle.ynl_model.specs.Applications.{Application, find_app, in_leaf, is_used, new_app, set_ask, submitted, with_app}
use Rattle.ynl_model.specs.Changes.{app_finishes, beat, end, node_joins, node_leaves, place}
use Rattle.ynl_model.specs.Check.{commit_reasons, proposed_item}
use Rattle.ynl_model.specs.Cluster.{State, is_spent, node_of, opening}
use Rattle.ynl_model.specs.Events.{accepted, container_at, container_for, has_most_apps, home_of, is_foreign, is_one_too_many, reasons, step}
use Rattle.ynl_model.specs.Nodes.{has_label, is_at, is_full, left, nodes_of}
use Rattle.ynl_model.specs.Queues.{Config, capacity_on, is_leaf, is_queue, may_use, set_maximum, set_stop}
use Rattle.ynl_model.specs.Service.{Item, choice}
use Rattle.ynl_model.specs.declared.containers.Placed.{Placed as Container}
use Rattle.ynl_model.specs.declared.events.Event.{Event}
use Rattle.ynl_model.specs.declared.events.Event.TheVariants.{Register, Lost, Relabel, Heartbeat, Exited, Submit, Ask, Release, Finish, Stop, Start, Poll, Usage, Propose, Commit, Maximum}
use Rattle.ynl_model.specs.declared.nodes.Node.{Node}
use Rattle.ynl_model.specs.View.{tracked}
use Rattle.ynl_laws.specs.Working.{Apart, IsOrdered, Kept, Stands, places}
use Rattle.ynl_laws.proofs.Events.Changed.{beat-keeps-by, kept-leaves, kept-opening, kept-place, step-keeps}
use Rattle.ynl_laws.proofs.Events.Chosen.{Fits, choice-fits, commit-fits, none-holds}
use Rattle.ynl_laws.proofs.Events.Found.{FindsAll, is_found, place-finds, step-finds}
use Rattle.ynl_laws.proofs.Events.Lasting.{step-lasts}
use Rattle.ynl_laws.proofs.Events.Outcomes.{step-cases, there}
use Rattle.ynl_laws.proofs.Events.Wanted.{IsWanted, choice-wanted, commit-wanted}
use Rattle.ynl_laws.proofs.Lists.{Pairs-filter, filter-swap}
use Rattle.ynl_laws.proofs.Lives.Entitled.{Entitled, entitled-after, entitled-lasts}
use Rattle.ynl_laws.proofs.Logic.{both-some, not-false}
use Rattle.ynl_laws.proofs.Soundness.Apart.{step-apart}
use Rattle.ynl_laws.proofs.Soundness.Ordered.{ordered-opening, ordered-stays}
use Rattle.ynl_laws.proofs.Soundness.Steps.{stands-found, step-stays}
use Rattle.ynl_laws.proofs.Soundness.Tracked.{leaves-is, place-same}
use Rattle.ynl_saved.proofs.Served.{IsServed, choice-served, commit-served}

-- what is known of every state already
pub record Base (c : Config) (s : State) : Type 0 where
  pub kept : Kept s
  pub finds : FindsAll s.leaves
  pub apart : Apart (places s)
  pub ordered : IsOrdered c s
  pub entitled : Entitled c s

-- what is known of an application that is submitted
pub record Comes (c : Config) (s : State) (app : Application) : Type 0 where
  pub queue : is_queue c app.leaf ≡ true
  pub leaf : is_leaf c app.leaf ≡ true
  pub may : may_use c app.leaf app.home ≡ true
  pub given : fits_in app.master c.maximum_allocation ≡ true
  pub unused : is_used s.leaves (tenant_of app.leaf) app.name ≡ false
  pub place : has_most_apps c s app.leaf ≡ false
  pub none : app.asks ≡ []

-- what stays with each change
pub record Goes (P : State → Type 0) (c : Config) : Type 0 where
  pub joins : (s : State) (name : Name) (label : Label) (size : Resource) → Base c s → P s → has_label c.labels label ≡ true → is_full s.nodes label ≡ false → P (node_joins c name label size s)
  pub leaves : (s : State) (node : Node) → Base c s → P s → P (node_leaves node s)
  pub ends : (s : State) (container : Container) → Base c s → P s → P (end c s container)
  pub placed : (s : State) (node : Node) (item : Item) → Base c s → P s → Fits s node item → IsWanted c s node.label item → IsServed s item → is_spent c.labels s node.label ≡ false → P (place c node item s)
  pub submits : (s : State) (app : Application) → Base c s → P s → Comes c s app → P (record s { leaves = in_leaf app.leaf (submitted app) s.leaves })
  pub asks : (s : State) (tenant name : Name) (label : Label) (priority count : ℕ) (size : Resource) (found : Application) → Base c s → P s → find_app s.leaves tenant name ≡ Some found → is_foreign label found ≡ false →
      fits_in size c.maximum_allocation ≡ true → is_one_too_many label priority count found ≡ false →
      P (record s { leaves = in_leaf found.leaf (with_app name (set_ask (record { label = label; priority = priority; count = count; size = size }))) s.leaves })
  pub finishes : (s : State) (found : Application) → Base c s → P s → P (app_finishes c found s)
  pub stops : (s : State) (queue : Path) (stopped : Bool) → P s → P (record s { stops = set_stop queue stopped s.stops })
  pub maxima : (s : State) (queue : Path) (label : Label) (share : ℕ) → P s → may_use c queue label ≡ true → nat_lt share (capacity_on c queue label) ≡ false → P (record s { maxima = set_maximum queue label share s.maxima })

-- where a node leaves no partition becomes full
full-left : (node : Node) (nodes : List Node) (label : Label) → is_full nodes label ≡ false → is_full (left node nodes) label ≡ false
unfolding is_full left
full-left node nodes label h = below (length (nodes_of nodes label)) (length (nodes_of (filter (λ other. not (is_at node.name node.label other)) nodes) label)) fewer h
  where
    fewer : length (nodes_of (filter (λ other. not (is_at node.name node.label other)) nodes) label) ≤ length (nodes_of nodes label)
    fewer = subst (λ few. length few ≤ length (nodes_of nodes label)) (sym (filter-swap (λ other. not (is_at node.name node.label other)) (λ other. same_label other.label label) nodes))
        (omega (arith, length-filter (λ other. not (is_at node.name node.label other)) (nodes_of nodes label), count_by-le-length (λ other. not (is_at node.name node.label other)) (nodes_of nodes label)))

    below : (m n : ℕ) → n ≤ m → nat_le most_nodes m ≡ false → nat_le most_nodes n ≡ false
    below m n less off = grind (arith, nat_tests, less, off)

-- the same of the state that the node leaves
left-full : (s : State) (node : Node) (label : Label) → is_full s.nodes label ≡ false → is_full (node_leaves node s).nodes label ≡ false
unfolding node_leaves
left-full s node label k = full-left node s.nodes label k

module _ (c : Config) where
  -- what was known is known where a node leaves
  base-leaves : (s : State) (node : Node) → Stands s node → Base c s → Base c (node_leaves node s)
  unfolding node_leaves
  base-leaves s node stands h =
      let in_order = ordered-stays c in
      let lasts = entitled-lasts c in
      record {
        kept = kept-leaves node s h.kept;
        finds = h.finds;
        apart = subst Apart (sym (leaves-is node s)) (Pairs-filter _ _ (places s) h.apart);
        ordered = in_order.leaves s node h.ordered stands h.apart;
        entitled = lasts.leaves s node h.entitled;
      }

  -- and where a request is placed
  base-place : (s : State) (node : Node) (item : Item) → Stands s node → Base c s → Fits s node item → IsWanted c s node.label item → is_spent c.labels s node.label ≡ false → Base c (place c node item s)
  base-place s node item stands h fits wanted fresh =
      let in_order = ordered-stays c in
      let lasts = entitled-lasts c in
      record {
        kept = kept-place c node item s h.kept fits.known;
        finds = place-finds c node item s h.kept h.finds;
        apart = subst Apart (sym (place-same c node item s)) h.apart;
        ordered = in_order.placed s node item h.ordered h.kept stands h.apart fits fresh;
        entitled = lasts.placed s node item h.entitled h.kept h.finds fits.known wanted;
      }

  -- and after each event
  pub base-step : (s : State) (event : Event) → Base c s → Base c (step c s event).state
  base-step s event h = record {
    kept = step-keeps c s event h.kept;
    finds = step-finds c s event h.kept h.finds;
    apart = step-apart c s event h.apart;
    ordered = step-stays (IsOrdered c) c (ordered-stays c) s event h.kept h.apart h.ordered;
    entitled = step-lasts (Entitled c) c (entitled-lasts c) s event h.kept h.finds h.entitled;
  }

  -- it is known at first
  pub base-opening : Base c (opening c)
  base-opening = record { kept = kept-opening c; finds = is_found c []; apart = tt; ordered = ordered-opening c; entitled = entitled-after c [] }

module _ (P : State → Type 0) (c : Config) (goes : Goes P c) where
  -- what stays with each placement stays with the turns of a heartbeat
  beats : (node : Node) (times : ℕ) (s : State) → Base c s → Stands s node → P s → P (beat c node times s).state
  beats node times s b e h = (beat-keeps-by (λ u. P u × Base c u × Stands u node) (λ u item. (Fits u node item × IsWanted c u node.label item) × IsServed u item) c node
      (λ u g. both-some (λ item. Fits u node item × IsWanted c u node.label item) (IsServed u) (choice c u node)
      (both-some (Fits u node) (IsWanted c u node.label) (choice c u node) (choice-fits c u node g.1.kept) (choice-wanted c u g.1.finds node)) (choice-served c u g.1.finds node))
      (λ u item g q fresh. (
        goes.placed u node item g.1 g.0 q.0.0 q.0.1 q.1 fresh,
        base-place c u node item g.2 g.1 q.0.0 q.0.1 fresh,
        ap (λ nodes. tracked nodes node.name) (place-same c node item u) ∙ g.2,
      )) times s (h, b, e)).0

  -- it stays with each event that is not refused
  accepted-goes : (s : State) (event : Event) → Base c s → P s → first_that_holds (reasons c s event) ≡ None → P (accepted c s event).state
  unfolding accepted reasons commit_reasons
  accepted-goes s (Register name label size) b h none =
      let all = none-holds (reasons c s (Register name label size)) none in
      goes.joins s name label size b h (not-false _ all.0) all.1.1.0
  accepted-goes s (Lost name) b h none = there P (node_of s name) s _ h (λ node e. goes.leaves s node b h)
  accepted-goes s (Relabel name label) b h none = there P (node_of s name) s _ h (λ node e.
      let all = none-holds (reasons c s (Relabel name label)) none in
      goes.joins (node_leaves node s) name label node.size (base-leaves c s node (stands-found s name node e) b) (goes.leaves s node b h) (not-false _ all.0) (left-full s node label all.1.1.1.0))
  accepted-goes s (Heartbeat name) b h none = there P (node_of s name) s _ h (λ node e. beats node c.containers_per_heartbeat s b (stands-found s name node e) h)
  accepted-goes s (Exited name id) b h none = there P (container_at s name id) s _ h (λ container e. goes.ends s container b h)
  accepted-goes s (Submit queue app user label master) b h none =
      let all = none-holds (reasons c s (Submit queue app user label master)) none in
      goes.submits s (new_app queue app user (home_of c queue label) master) b h (record {
        queue = not-false _ all.0;
        leaf = not-false _ all.1.0;
        may = not-false _ all.1.1.1.1.0;
        given = not-false _ all.1.1.1.1.1.0;
        unused = all.1.1.1.1.1.1.0;
        place = all.1.1.1.1.1.1.1.0;
        none = refl;
      })
  accepted-goes s (Ask tenant app label priority count size) b h none = there P (find_app s.leaves tenant app) s _ h (λ found e.
      let all = none-holds (reasons c s (Ask tenant app label priority count size)) none in
      goes.asks s tenant app label priority count size found b h e
      (sym (λ i. option_map_or (is_foreign label) (e i) false) ∙ all.1.1.0) (not-false _ all.1.1.1.0)
      (sym (λ i. option_map_or (is_one_too_many label priority count) (e i) false) ∙ all.1.1.1.1.0))
  accepted-goes s (Release tenant id) b h none = there P (container_for s tenant id) s _ h (λ container e. goes.ends s container b h)
  accepted-goes s (Finish tenant app) b h none = there P (find_app s.leaves tenant app) s _ h (λ found e. goes.finishes s found b h)
  accepted-goes s (Stop queue) b h none = goes.stops s queue true h
  accepted-goes s (Start queue) b h none = goes.stops s queue false h
  accepted-goes s (Poll tenant app label) b h none = h
  accepted-goes s (Usage queue label) b h none = h
  accepted-goes s (Propose name) b h none = there P (node_of s name) s _ h (λ node e. h)
  accepted-goes s (Commit proposal) b h none =
      there P (node_of s proposal.node) s _ h (λ node e. there P (find_app s.leaves proposal.tenant proposal.app) s _ h (λ app f.
      goes.placed s node (proposed_item proposal app) b h (commit-fits c s proposal node app b.kept none e f) (commit-wanted c s proposal node app b.finds none e f) (commit-served c s proposal node app b.finds none e f)
      (sym (λ i. option_map_or (λ node. is_spent c.labels s node.label) (e i) false) ∙ (none-holds (commit_reasons c s proposal) none).1.0)))
  accepted-goes s (Maximum queue label share) b h none =
      let all = none-holds (reasons c s (Maximum queue label share)) none in
      goes.maxima s queue label share h (not-false _ all.1.1.1.0) all.1.1.1.1.0

  -- and with each event
  pub step-goes : (s : State) (event : Event) → Base c s → P s → P (step c s event).state
  step-goes s event b h = step-cases P c s event h (accepted-goes s event b h)
