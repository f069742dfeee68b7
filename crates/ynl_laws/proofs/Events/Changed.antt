-- What each event leaves of what is kept.
use Rattle.std.proofs.Common.{◌≡◌, ℕ, zero, suc, Bool, true, false, cond, List, [], ◌∷◌, Option, Some, None, is_some, filter, refl, ap}
use Rattle.std.specs.Prelude.{⊤, IfSome}
use Rattle.std.specs.Option.{option_map_or}
use Rattle.ynl_resource.specs.declared.amounts.Resource.{Resource}
use Rattle.ynl_resource.specs.Names.{tenant_of}
use Rattle.ynl_resource.specs.declared.names.Name.{Name}
use Rattle.ynl_resource.specs.declared.labels.Label.{Label}
use Rattle.ynl_resource.specs.Refusals.{first_that_holds}
use Rattle.ynl_model.specs.Nodes.{partition_labels}
use Rattle.ynl_model.specs.declared.nodes.Node.{Node}
use Rattle.ynl_model.specs.Queues.{Config, QueueRow, is_leaf}
use Rattle.ynl_model.specs.Applications.{Application, LeafApps, find_app, in_leaf, with_app, finished, new_app}
use Rattle.ynl_model.specs.Cluster.{State, Partition, is_partition, in_partition, opening, node_of, is_spent}
use Rattle.ynl_model.specs.declared.containers.Placed.{Placed as Container}
use Rattle.ynl_model.specs.declared.proposals.What.{What}
use Rattle.ynl_model.specs.declared.proposals.What.TheVariants.{Master, Ask as Asked}
use Rattle.ynl_model.specs.Service.{Item, choice}
use Rattle.ynl_model.specs.Changes.{node_joins, node_leaves, changed_at, container_of, taken, place, end, next_item, Beat, beat, all_own, all_end, app_finishes}
use Rattle.ynl_model.specs.Check.{proposed_item}
use Rattle.ynl_model.specs.Events.{Outcome, where_there, container_at, container_for, home_of, accepted, reasons, step, after}
use Rattle.ynl_model.specs.declared.events.Event.{Event}
use Rattle.ynl_model.specs.declared.events.Event.TheVariants.{Register, Lost, Relabel, Heartbeat, Exited, Submit, Ask, Release, Finish, Stop, Start, Poll, Usage, Propose, Commit, Maximum}
use Rattle.ynl_laws.specs.Working.{IsKnown, UsesAll, EachUses, Kept}
use Rattle.ynl_laws.proofs.Events.Kept.{with_app-names, finished-names, with_app-apps, finished-apps, Extends, leaf-extends, leaf-knows, each-extends, kept-leaf, kept-submit}
use Rattle.ynl_laws.proofs.Events.Chosen.{Fits, choice-fits, commit-fits, none-holds}
use Rattle.ynl_laws.proofs.Lists.{Each-filter, Each-append, Each-map, Each-all, Each-update}
use Rattle.ynl_laws.proofs.Logic.{some-anything, itself}
use Rattle.std.proofs.lemmas.Option.{IfSome_then}
use Rattle.ynl_laws.proofs.Events.Outcomes.{step-cases}

-- ---- changes

pub taken-leaf : (what : What) (app : Application) → (taken what app).leaf ≡ app.leaf
taken-leaf Master app = refl
taken-leaf (Asked label priority) app = refl

pub taken-name : (what : What) (app : Application) → (taken what app).name ≡ app.name
taken-name Master app = refl
taken-name (Asked label priority) app = refl

uses-update : (leaves : List LeafApps) (label : Label) (change : Partition → Partition) → ((row : Partition) → UsesAll leaves row.containers → UsesAll leaves (change row).containers) → (rows : List Partition) →
    EachUses leaves rows → EachUses leaves (in_partition label change rows)
uses-update leaves label change keeps rows h = Each-update (λ row. UsesAll leaves row.containers) (is_partition label) change keeps rows h

pub kept-joins : (c : Config) (name : Name) (label : Label) (size : Resource) (s : State) → Kept s → Kept (node_joins c name label size s)
unfolding node_joins
kept-joins c name label size s h = record { apps = h.apps; uses = uses-update s.leaves label _ (λ row k. k) s.partitions h.uses }

pub kept-leaves : (node : Node) (s : State) → Kept s → Kept (node_leaves node s)
unfolding node_leaves
kept-leaves node s h = record { apps = h.apps; uses = uses-update s.leaves node.label _ (λ row k. Each-filter _ _ row.containers k) s.partitions h.uses }

pub kept-end : (c : Config) (s : State) (container : Container) → Kept s → Kept (end c s container)
unfolding end changed_at
kept-end c s container h = record { apps = h.apps; uses = uses-update s.leaves container.id.label _ (λ row k. Each-filter _ _ row.containers k) s.partitions h.uses }

pub place-extends : (s : State) (item : Item) → Extends s.leaves (in_leaf item.leaf (with_app item.app (taken item.what)) s.leaves)
place-extends s item = leaf-extends item.leaf _ (with_app-names item.app (taken item.what)) s.leaves

pub kept-place : (c : Config) (node : Node) (item : Item) (s : State) → Kept s → IsKnown s.leaves item.leaf item.app → Kept (place c node item s)
unfolding place changed_at container_of
kept-place c node item s h known = record {
  apps = leaf-knows item.leaf _ (with_app-names item.app (taken item.what)) (with_app-apps item.app (taken item.what) (taken-leaf item.what) (taken-name item.what)) s.leaves h.apps;
  uses = each-extends s.leaves _ _ (place-extends s item)
      (uses-update s.leaves node.label _ (λ row k. Each-append _ row.containers _ k (ap is_some known, tt)) s.partitions h.uses);
}

pub kept-finish : (c : Config) (app : Application) (s : State) → Kept s → Kept (app_finishes c app s)
unfolding app_finishes end changed_at
kept-finish c app s h = go (all_own s (tenant_of app.leaf) app.name) s h
  where
    go : (containers : List Container) (u : State) → Kept u → Kept (record (all_end c containers u) { leaves = in_leaf app.leaf (finished app.name) u.leaves })
    go [] u k = kept-leaf u app.leaf (finished app.name) (finished-names app.name) (finished-apps app.name) k
    go (container ∷ containers) u k = go containers (end c u container) (kept-end c u container k)

-- ---- turns

-- what holds of the state, and stays with each placement of what is chosen, holds after the turns
pub beat-keeps-by : (P : State → Type 0) (Q : State → Item → Type 0) (c : Config) (node : Node) → ((s : State) → P s → IfSome (choice c s node) (Q s)) →
    ((s : State) (item : Item) → P s → Q s item → is_spent c.labels s node.label ≡ false → P (place c node item s)) → (times : ℕ) (s : State) → P s → P (beat c node times s).state
unfolding beat
beat-keeps-by P Q c node chosen step zero s h = h
beat-keeps-by P Q c node chosen step (suc times) s h =
    go (next_item c s node) (next (is_spent c.labels s node.label) refl) (λ item k. beat-keeps-by P Q c node chosen step times (place c node item s) (step s item h k.0 k.1))
  where
    next : (b : Bool) → is_spent c.labels s node.label ≡ b → IfSome (cond b None (choice c s node)) (λ item. Q s item × (is_spent c.labels s node.label ≡ false))
    next true e = tt
    next false e = IfSome_then (choice c s node) (chosen s h) (λ item k. (k, e))

    go : (o : Option Item) → IfSome o (λ item. Q s item × (is_spent c.labels s node.label ≡ false)) →
        ((item : Item) → Q s item × (is_spent c.labels s node.label ≡ false) → P (beat c node times (place c node item s)).state) →
        P (option_map_or {U = Beat} (λ item. record {
          placed = container_of c s node item ∷ (beat c node times (place c node item s)).placed;
          state = (beat c node times (place c node item s)).state;
        }) o (record { placed = []; state = s })).state
    go None k rest = h
    go (Some item) k rest = rest item k

-- the same where no more is known of what is chosen than that it fits
pub beat-keeps : (P : State → Type 0) (c : Config) (node : Node) → ((s : State) (item : Item) → P s → Fits s node item → is_spent c.labels s node.label ≡ false → P (place c node item s)) → ((s : State) → P s → Kept s) →
    (times : ℕ) (s : State) → P s → P (beat c node times s).state
beat-keeps P c node step known times s h = beat-keeps-by P (λ u item. Fits u node item) c node (λ u k. choice-fits c u node (known u k)) step times s h

-- ---- events

there-kept : {X : Type 0} (P : X → Type 0) (found : Option X) (s : State) (f : X → Outcome) → Kept s → IfSome found P → ((x : X) → P x → Kept (f x).state) → Kept (where_there found s f).state
there-kept P None s f h k step = h
there-kept P (Some x) s f h k step = step x k

accepted-keeps : (c : Config) (s : State) (event : Event) → Kept s → first_that_holds (reasons c s event) ≡ None → Kept (accepted c s event).state
unfolding accepted reasons
accepted-keeps c s (Register name label size) h none = kept-joins c name label size s h
accepted-keeps c s (Lost name) h none = there-kept (λ node. ⊤) (node_of s name) s _ h (some-anything _) (λ node _. kept-leaves node s h)
accepted-keeps c s (Relabel name label) h none = there-kept (λ node. ⊤) (node_of s name) s _ h (some-anything _) (λ node _. kept-joins c name label node.size (node_leaves node s) (kept-leaves node s h))
accepted-keeps c s (Heartbeat name) h none =
    there-kept (λ node. ⊤) (node_of s name) s _ h (some-anything _) (λ node _. beat-keeps Kept c node (λ u item k fits _. kept-place c node item u k fits.known) (λ u k. k) c.containers_per_heartbeat s h)
accepted-keeps c s (Exited name id) h none = there-kept (λ container. ⊤) (container_at s name id) s _ h (some-anything _) (λ container _. kept-end c s container h)
accepted-keeps c s (Submit queue app user label master) h none =
    kept-submit s (new_app queue app user (home_of c queue label) master) (none-holds (reasons c s (Submit queue app user label master)) none).1.1.1.1.1.1.0 h
accepted-keeps c s (Ask tenant app label priority count size) h none =
    there-kept (λ found. ⊤) (find_app s.leaves tenant app) s _ h (some-anything _) (λ found _. kept-leaf s found.leaf _ (with_app-names app _) (with_app-apps app _ (λ a. refl) (λ a. refl)) h)
accepted-keeps c s (Release tenant id) h none = there-kept (λ container. ⊤) (container_for s tenant id) s _ h (some-anything _) (λ container _. kept-end c s container h)
accepted-keeps c s (Finish tenant app) h none = there-kept (λ found. ⊤) (find_app s.leaves tenant app) s _ h (some-anything _) (λ found _. kept-finish c found s h)
accepted-keeps c s (Stop queue) h none = record { apps = h.apps; uses = h.uses }
accepted-keeps c s (Start queue) h none = record { apps = h.apps; uses = h.uses }
accepted-keeps c s (Poll tenant app label) h none = h
accepted-keeps c s (Usage queue label) h none = h
accepted-keeps c s (Propose name) h none = there-kept (λ node. ⊤) (node_of s name) s _ h (some-anything _) (λ node _. h)
accepted-keeps c s (Commit proposal) h none =
    there-kept (λ node. node_of s proposal.node ≡ Some node) (node_of s proposal.node) s _ h (itself _)
    (λ node e. there-kept (λ app. find_app s.leaves proposal.tenant proposal.app ≡ Some app) (find_app s.leaves proposal.tenant proposal.app) s _ h (itself _)
    (λ app f. kept-place c node (proposed_item proposal app) s h (commit-fits c s proposal node app h none e f).known))
accepted-keeps c s (Maximum queue label share) h none = record { apps = h.apps; uses = h.uses }

pub step-keeps : (c : Config) (s : State) (event : Event) → Kept s → Kept (step c s event).state
step-keeps c s event h = step-cases Kept c s event h (accepted-keeps c s event h)

pub after-keeps : (c : Config) (events : List Event) (s : State) → Kept s → Kept (after c s events)
after-keeps c [] s h = h
after-keeps c (event ∷ events) s h = after-keeps c events (step c s event).state (step-keeps c s event h)

-- nothing is there yet
pub kept-opening : (c : Config) → Kept (opening c)
kept-opening c = record {
  apps = Each-map (λ row. ⊤) _ _ (λ row _. tt) (filter (λ row. is_leaf c row.path) c.queues) (Each-all (λ (row : QueueRow). ⊤) (λ row. tt) (filter (λ row. is_leaf c row.path) c.queues));
  uses = Each-map (λ label. ⊤) _ _ (λ label _. tt) (partition_labels c.labels) (Each-all (λ (label : Label). ⊤) (λ label. tt) (partition_labels c.labels));
}
