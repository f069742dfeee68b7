-- What is placed on nodes and ends there, as the tenant of a partition sees it.
use Rattle.std.proofs.Common.{◌≡◌, ◌⊎◌, inl, inr, ℕ, zero, suc, Bool, true, false, cond, not, ◌&&◌, ◌==◌, ◌-◌, List, [], ◌∷◌, ◌++◌, Option, Some, None, is_some, option_map, filter, find, refl, sym, ap, subst, ◌∙◌}
use Rattle.std.specs.Prelude.{⊤, IfSome}
use Rattle.std.specs.Option.{option_map_or, option_and_then}
use mathlib.Core.Bool.{true≢false}
use Rattle.ynl_resource.specs.Names.{same_name, same_label, is_default, same_id}
use Rattle.ynl_resource.specs.Tables.{update}
use Rattle.ynl_resource.specs.declared.names.Name.{Name}
use Rattle.ynl_resource.specs.declared.labels.Label.{Label}
use Rattle.ynl_resource.specs.declared.ids.Id.{Id}
use Rattle.ynl_resource.specs.declared.refusals.Refusal.TheVariants.{NoSuchNode, NoSuchContainer, ClockSpent}
use Rattle.ynl_resource.specs.Refusals.{first_that_holds}
use Rattle.ynl_model.specs.declared.nodes.Node.{Node}
use Rattle.ynl_model.specs.Queues.{Config}
use Rattle.ynl_model.specs.Applications.{Application, in_leaf, with_app, is_ask_of}
use Rattle.ynl_model.specs.declared.applications.AskRow.{AskRow}
use Rattle.ynl_model.specs.Cluster.{State, node_of, is_spent, next_clock, containers_on}
use Rattle.ynl_model.specs.declared.containers.Placed.{Placed as Container}
use Rattle.ynl_model.specs.declared.proposals.What.{What}
use Rattle.ynl_model.specs.declared.proposals.What.TheVariants.{Master, Ask as Asked}
use Rattle.ynl_model.specs.Service.{Item, choice, takes_guests}
use Rattle.ynl_model.specs.Changes.{changed_at, container_of, taken, place, next_item, Beat, beat}
use Rattle.ynl_model.specs.Check.{node_that, has_node, proposal_of, proposed}
use Rattle.ynl_model.specs.declared.replies.Reply.TheVariants.{Placed, Proposed}
use Rattle.ynl_model.specs.Events.{container_at, served, answered, accepted, reasons}
use Rattle.ynl_model.specs.declared.events.Event.TheVariants.{Heartbeat, Exited, Propose}
use Rattle.ynl_model.specs.View.{kept_if, seen_of, restrict}
use Rattle.ynl_laws.specs.Working.{IsKnown, Kept, places}
use Rattle.ynl_laws.proofs.Events.Chosen.{Fits, choice-fits}
use Rattle.ynl_laws.proofs.Events.Changed.{beat-keeps-by, kept-place}
use Rattle.ynl_laws.proofs.Events.Found.{FindsAll, place-finds}
use Rattle.ynl_laws.proofs.Events.Wanted.{IsFor, IsWanted, choice-wanted}
use Rattle.ynl_laws.proofs.Isolating.Own.{only, choice-own}
use Rattle.ynl_laws.proofs.Isolating.Mirrored.{Mirrors, on-same, spent-same, next-same, leaves-here, leaves-unseen, with-leaves, changed-here, changed-there}
use Rattle.ynl_laws.proofs.Isolating.Alone.{Alone}
use Rattle.ynl_laws.proofs.Isolating.Firm.{Firm, firm-place, holds}
use Rattle.ynl_laws.proofs.Isolating.Follows.{Follows, kept, unseen, there-both, there-same, there-unseen, by-place, node-in}
use Rattle.ynl_laws.proofs.Isolating.FollowsRequests.{asks_on, with_app-here, with_app-unseen, ends-here, ends-there}
use Rattle.ynl_laws.proofs.Lists.{Each-find, filter-swap, filter-filter, filter-update, filter-update_off}
use Rattle.ynl_laws.proofs.Logic.{some-same, both-some}
use Rattle.ynl_laws.proofs.Names.{same-label_path}
use Rattle.std.proofs.lemmas.Bool.{and_parts}
use Rattle.std.proofs.lemmas.Option.{IfSome_then}

-- ---- one less is asked for

-- whether an ask is the one that was placed, and none is left of it
abbrev is_out : Label → ℕ → AskRow → Bool
is_out label priority ask = is_ask_of label priority ask && (ask.count == 0)

taken-here : (p : Label) (what : What) (app : Application) → only p (taken what app) ≡ taken what (only p app)
taken-here p Master app = refl
taken-here p (Asked label priority) app = λ i. record app {
  asks = (filter-swap (λ ask. not (is_out label priority ask)) (asks_on p) (update (is_ask_of label priority) (λ ask. record ask { count = ask.count - 1 }) app.asks)
      ∙ ap (filter (λ ask. not (is_out label priority ask))) (filter-update (asks_on p) (is_ask_of label priority) (λ ask. record ask { count = ask.count - 1 }) (λ ask. refl) app.asks)) i;
}

-- what is asked for is not for the partition
abbrev pub NotFor : Label → What → Type 0
NotFor p Master = ⊤
NotFor p (Asked label priority) = same_label label p ≡ false

taken-there : (p : Label) (what : What) → NotFor p what → (app : Application) → only p (taken what app) ≡ only p app
taken-there p Master off app = refl
taken-there p (Asked label priority) off app = λ i. record app {
  asks = (filter-filter (λ ask. not (is_out label priority ask)) (asks_on p) (λ ask on. ap not (ap (λ b. b && (ask.count == 0)) (away ask on (is_ask_of label priority ask) refl))) (update (is_ask_of label priority) (λ ask. record ask { count = ask.count - 1 }) app.asks)
      ∙ filter-update_off (asks_on p) (is_ask_of label priority) (λ ask. record ask { count = ask.count - 1 }) (λ ask. refl) (λ ask on. away ask on (is_ask_of label priority ask) refl) app.asks) i;
}
  where
    away : (ask : AskRow) → asks_on p ask ≡ true → (b : Bool) → is_ask_of label priority ask ≡ b → is_ask_of label priority ask ≡ false
    away ask on true e = absurd (true≢false (sym on ∙ ap (λ l. same_label l p) (same-label_path ask.label label (and_parts _ _ e).0) ∙ off))
    away ask on false e = e

-- what is placed on another partition is not asked for on this one, unless this is DEFAULT
pub not-for : (c : Config) (p q : Label) (app : Application) (what : What) → is_default p ≡ false → same_label q p ≡ false → IsFor c q app what → NotFor p what
not-for c p q app Master home off for = tt
not-for c p q app (Asked label priority) home off for = go for.1
  where
    go : (label ≡ q) ⊎ ((is_default label ≡ true) × (takes_guests c q ≡ true)) → same_label label p ≡ false
    go (inl same) = ap (λ l. same_label l p) same ∙ off
    go (inr guest) = by (same_label label p) refl
      where
        by : (b : Bool) → same_label label p ≡ b → same_label label p ≡ false
        by true e = absurd (true≢false (sym guest.0 ∙ ap is_default (same-label_path label p e) ∙ home))
        by false e = e

-- ---- placements

module _ (c : Config) (t : Name) (p : Label) where
  abbrev d : Config
  d = restrict c t

  module _ (s u : State) (m : Mirrors t p s u) (node : Node) where
    pub spent-here : node.label ≡ p → is_spent c.labels s node.label ≡ is_spent c.labels u node.label
    spent-here here = ap (is_spent c.labels s) here ∙ spent-same c t p s u m ∙ ap (is_spent c.labels u) (sym here)

    pub container-same : node.label ≡ p → (item : Item) → container_of c s node item ≡ container_of d u node item
    unfolding container_of
    container-same here item = λ i. record (container_of c s node item) {
      id = record { label = node.label; clock = (ap (next_clock c.labels s) here ∙ next-same c t p s u m ∙ ap (next_clock c.labels u) (sym here)) i };
    }

    pub places-here : node.label ≡ p → (item : Item) → Mirrors t p (place c node item s) (place d node item u)
    unfolding place
    places-here here item = subst
        (λ k. Mirrors t p (place c node item s) (record (changed_at d node.name node.label (λ containers. containers ++ k ∷ []) u) { leaves = in_leaf item.leaf (with_app item.app (taken item.what)) u.leaves }))
        (container-same here item)
        (with-leaves c t p (changed_at c node.name node.label new s) (changed_at d node.name node.label new u)
        (subst (λ q. Mirrors t p (changed_at c node.name q new s) (changed_at d node.name q new u)) (sym here) (changed-here c t p s u m node.name new)) _ _
        (ap (in_leaf item.leaf (with_app item.app (taken item.what))) m.leaves
        ∙ sym (leaves-here t p item.leaf (with_app item.app (taken item.what)) (λ row. refl) s.leaves (with_app item.app (taken item.what)) (with_app-here p item.app (taken item.what) (taken item.what) (taken-here p item.what)))))
      where
        new : List Container → List Container
        new containers = containers ++ container_of c s node item ∷ []

    pub places-there : same_label node.label p ≡ false → (item : Item) → NotFor p item.what → Mirrors t p (place c node item s) u
    unfolding place
    places-there off item away = with-leaves c t p (changed_at c node.name node.label (λ containers. containers ++ container_of c s node item ∷ []) s) u
        (changed-there c t p s u m node.name node.label (λ containers. containers ++ container_of c s node item ∷ []) off) _ _
        (m.leaves ∙ sym (leaves-unseen t p item.leaf (with_app item.app (taken item.what)) (λ row. refl) s.leaves (with_app-unseen p item.app (taken item.what) (taken-there p item.what away))))

  module _ (a : Alone c t p) (node : Node) where
    -- the same is chosen next
    next-choice : node.label ≡ p → (s u : State) → Firm c s → Mirrors t p s u → choice c s node ≡ choice d u node
    next-choice here s u firm m = choice-own c t p a.home a.exclusive s u (holds c t p a s firm u m) node here

    -- what is known of the next request
    abbrev Ready : State → Item → Type 0
    Ready s item = IsKnown s.leaves item.leaf item.app × IsWanted c s node.label item

    ready : (s : State) → Firm c s → IfSome (next_item c s node) (Ready s)
    ready s firm = go (is_spent c.labels s node.label)
      where
        go : (b : Bool) → IfSome (cond b None (choice c s node)) (Ready s)
        go true = tt
        go false = IfSome_then (choice c s node) (both-some (Fits s node) (IsWanted c s node.label) (choice c s node) (choice-fits c s node firm.kept) (choice-wanted c s firm.finds node)) (λ item k. (k.0.known, k.1))

    abbrev SameBeat : Beat → Beat → Type 0
    SameBeat x y = Mirrors t p x.state y.state × (x.placed ≡ y.placed)

    -- a beat, by what is placed next and what comes after that
    abbrev beat_on : Config → State → (State → Beat) → Option Item → Beat
    beat_on e s rest next = option_map_or (λ item. record { placed = container_of e s node item ∷ (rest (place e node item s)).placed; state = (rest (place e node item s)).state }) next (record { placed = []; state = s })

    -- a beat on the partition
    beat-here : node.label ≡ p → (times : ℕ) (s u : State) → Firm c s → Mirrors t p s u → SameBeat (beat c node times s) (beat d node times u)
    unfolding beat
    beat-here here zero s u firm m = (m, refl)
    beat-here here (suc times) s u firm m =
        subst (λ next. SameBeat (beat_on c s (beat c node times) (next_item c s node)) (beat_on d u (beat d node times) next)) same
        (go (next_item c s node) (ready s firm) (λ item k. beat-here here times (place c node item s) (place d node item u) (firm-place c s node item firm k.0 k.1) (places-here s u m node here item)))
      where
        same : next_item c s node ≡ next_item d u node
        same = λ i. cond (spent-here s u m node here i) None (next-choice here s u firm m i)

        go : (next : Option Item) → IfSome next (Ready s) → ((item : Item) → Ready s item → SameBeat (beat c node times (place c node item s)) (beat d node times (place d node item u))) →
            SameBeat (beat_on c s (beat c node times) next) (beat_on d u (beat d node times) next)
        go None k rest = (m, refl)
        go (Some item) k rest = let after = rest item k in (after.0, (λ i. container-same s u m node here item i ∷ after.1 i))

    -- a beat on another partition
    beat-there : same_label node.label p ≡ false → (times : ℕ) (s u : State) → Firm c s → Mirrors t p s u → Mirrors t p (beat c node times s).state u
    beat-there off times s u firm m = (beat-keeps-by (λ v. Mirrors t p v u × Kept v × FindsAll v.leaves) (λ v item. Fits v node item × IsWanted c v node.label item) c node
        (λ v g. both-some (Fits v node) (IsWanted c v node.label) (choice c v node) (choice-fits c v node g.1) (choice-wanted c v g.2 node))
        (λ v item g k fresh. (places-there v u g.0 node off item (not-for c p node.label k.1.app item.what a.home off k.1.what), kept-place c node item v g.1 k.0.known, place-finds c node item v g.1 g.2)) times s (m, firm.kept, firm.finds)).0

-- ---- the events

module _ (c : Config) (t : Name) (p : Label) (a : Alone c t p) (s u : State) (firm : Firm c s) (m : Mirrors t p s u) where
  -- a test of a node that is found in both
  that-node : (name : Name) (node : Node) (test own : Node → Bool) → node_of s name ≡ Some node → node_of u name ≡ Some node → test node ≡ own node → node_that s name test ≡ node_that u name own
  that-node name node test own e k same = ap (λ o. option_map_or test o false) e ∙ same ∙ sym (ap (λ o. option_map_or own o false) k)

  has-node : (name : Name) (node : Node) → node_of s name ≡ Some node → node_of u name ≡ Some node → has_node s name ≡ has_node u name
  has-node name node e k = ap is_some (e ∙ sym k)

  pub sees-heartbeat : (name : Name) → Follows c t p s u (Heartbeat name) (seen_of t p c (places s) (Heartbeat name))
  unfolding seen_of reasons accepted
  sees-heartbeat name = by-place c t p s u m name (λ b. Follows c t p s u (Heartbeat name) (kept_if b (Heartbeat name)))
      (λ node e here.
      let k = node-in c t p s u m name node here e in
      let same = beat-here c t p a node here c.containers_per_heartbeat s u firm m in
      kept c t p s u m (Heartbeat name) (Heartbeat name)
      (λ i. first_that_holds ((NoSuchNode, not (has-node name node e k i))
      ∷ (ClockSpent, that-node name node (λ node. is_spent c.labels s node.label) (λ node. is_spent c.labels u node.label) e k (spent-here c t p s u m node here) i) ∷ []))
      (λ none. there-both c t p s u m (node_of s name) (node_of u name) node node (λ node. served (beat c node c.containers_per_heartbeat s)) (λ node. served (beat (restrict c t) node c.containers_per_heartbeat u)) e k (same.0, ap Placed same.1)))
      (λ node e off. unseen c t p s u m (Heartbeat name) (λ none. there-unseen c t p s u m (node_of s name) _ (λ other f.
      beat-there c t p a other (ap (λ n. same_label n.label p) (some-same other node (node_of s name) f e) ∙ off) c.containers_per_heartbeat s u firm m)))
      (λ e. unseen c t p s u m (Heartbeat name) (λ none. there-unseen c t p s u m (node_of s name) _ (λ other f. absurd (true≢false (sym (ap is_some f) ∙ ap is_some e)))))

  pub sees-propose : (name : Name) → Follows c t p s u (Propose name) (seen_of t p c (places s) (Propose name))
  unfolding seen_of reasons accepted proposed
  sees-propose name = by-place c t p s u m name (λ b. Follows c t p s u (Propose name) (kept_if b (Propose name)))
      (λ node e here.
      let k = node-in c t p s u m name node here e in
      kept c t p s u m (Propose name) (Propose name)
      (λ i. first_that_holds ((NoSuchNode, not (has-node name node e k i))
      ∷ (ClockSpent, that-node name node (λ node. is_spent c.labels s node.label) (λ node. is_spent c.labels u node.label) e k (spent-here c t p s u m node here) i) ∷ []))
      (λ none. there-both c t p s u m (node_of s name) (node_of u name) node node (λ node. answered s (Proposed (proposed c s node))) (λ node. answered u (Proposed (proposed (restrict c t) u node))) e k
      (m, ap (λ o. Proposed (option_map (proposal_of node) o)) (next-choice c t p a node here s u firm m))))
      (λ node e off. unseen c t p s u m (Propose name) (λ none. there-unseen c t p s u m (node_of s name) _ (λ other f. m)))
      (λ e. unseen c t p s u m (Propose name) (λ none. there-unseen c t p s u m (node_of s name) _ (λ other f. m)))

  -- a container that is found on a node has the label of the node's partition
  at-found : (name : Name) (id : Id) (node : Node) (container : Container) → node_of s name ≡ Some node → container_at s name id ≡ Some container → container.id.label ≡ node.label
  at-found name id node container e k =
      (Each-find _ (λ other. same_id other.id id && same_name other.node name) (containers_on s node.label) (firm.homely node.label) container
      (sym (ap (option_and_then (λ node. find (λ other. same_id other.id id && same_name other.node name) (containers_on s node.label))) e) ∙ k)).0.0

  at-same : (name : Name) (id : Id) (node : Node) → node.label ≡ p → node_of s name ≡ Some node → node_of u name ≡ Some node → container_at s name id ≡ container_at u name id
  at-same name id node here e k =
      ap (option_and_then (λ node. find (λ other. same_id other.id id && same_name other.node name) (containers_on s node.label))) e
      ∙ ap (find (λ other. same_id other.id id && same_name other.node name)) (ap (containers_on s) here ∙ on-same c t p s u m ∙ ap (containers_on u) (sym here))
      ∙ sym (ap (option_and_then (λ node. find (λ other. same_id other.id id && same_name other.node name) (containers_on u node.label))) k)

  pub sees-exited : (name : Name) (id : Id) → Follows c t p s u (Exited name id) (seen_of t p c (places s) (Exited name id))
  unfolding seen_of reasons accepted
  sees-exited name id = by-place c t p s u m name (λ b. Follows c t p s u (Exited name id) (kept_if b (Exited name id)))
      (λ node e here.
      let k = node-in c t p s u m name node here e in
      let same = at-same name id node here e k in
      kept c t p s u m (Exited name id) (Exited name id)
      (λ i. first_that_holds ((NoSuchNode, not (has-node name node e k i)) ∷ (NoSuchContainer, not (is_some (same i))) ∷ []))
      (λ none. there-same c t p s u m (container_at s name id) (container_at u name id) _ _ same (λ container f. (ends-here c t p s u m container (at-found name id node container e f ∙ here), refl))))
      (λ node e off. unseen c t p s u m (Exited name id) (λ none. there-unseen c t p s u m (container_at s name id) _ (λ container f.
      ends-there c t p s u m container (ap (λ l. same_label l p) (at-found name id node container e f) ∙ off))))
      (λ e. unseen c t p s u m (Exited name id) (λ none. there-unseen c t p s u m (container_at s name id) _ (λ container f.
      absurd (true≢false (sym (ap is_some f) ∙ ap (λ o. is_some (option_and_then (λ node. find (λ other. same_id other.id id && same_name other.node name) (containers_on s node.label)) o)) e)))))
