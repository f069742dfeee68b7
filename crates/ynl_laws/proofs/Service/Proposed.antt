-- What is proposed for a node is placed where it is committed at once.
use Rattle.std.proofs.Common.{◌≡◌, ◌⊎◌, inl, inr, Bool, true, false, cond, not, ◌&&◌, ◌||◌, ◌==◌, List, [], Option, Some, None, is_some, option_map, filter, refl, sym, ap, subst, ◌∙◌, arith}
use Rattle.std.specs.Prelude.{IfSome, nat_lt}
use Rattle.std.specs.List.{AllByRecursion}
use Rattle.std.specs.Option.{option_map_or, option_or}
use Rattle.std.proofs.lemmas.Bool.Decides.{nat_tests}
use Rattle.ynl_resource.specs.declared.amounts.Resource.{Resource}
use Rattle.ynl_resource.specs.Names.{same_name, same_label, is_default, top_level, tenant_of}
use Rattle.ynl_resource.specs.declared.names.Name.{Name}
use Rattle.ynl_resource.specs.declared.labels.Label.{Label}
use Rattle.ynl_resource.specs.declared.labels.Label.TheVariants.{Unlabelled, Named}
use Rattle.ynl_resource.specs.declared.paths.Path.{Path}
use Rattle.ynl_resource.specs.Refusals.{first_that_holds}
use Rattle.ynl_resource.specs.declared.refusals.Refusal.{Refusal}
use Rattle.ynl_resource.specs.declared.refusals.Refusal.TheVariants.{NoSuchNode, ClockSpent, Stale, NotAccessible, NoSuchApplication, NoSuchAsk, NoRoom, PartitionBusy, OverMaximum, OverUserLimit, OverMasterShare}
use Rattle.ynl_model.specs.declared.nodes.Node.{Node}
use Rattle.ynl_model.specs.Nodes.{is_exclusive}
use Rattle.ynl_model.specs.Queues.{Config, queue_row, may_use}
use Rattle.ynl_model.specs.Accepted.{is_accepted}
use Rattle.ynl_model.specs.Applications.{Application, all_apps, find_app}
use Rattle.ynl_model.specs.declared.applications.AskRow.{AskRow}
use Rattle.ynl_model.specs.Cluster.{State, opening, node_of, is_spent, runs, waits}
use Rattle.ynl_model.specs.declared.proposals.What.{What}
use Rattle.ynl_model.specs.Service.{Item, item_of, master_item, ask_item, asks_of, masters_for, asks_for, items_for, has_room, within_maximum, within_user_limit, within_master_share, is_eligible, eligible, takes_guests, some_eligible, guests_for, key, first_of, choice}
use Rattle.ynl_model.specs.Changes.{place, container_of}
use Rattle.ynl_model.specs.Check.{placing_reasons, comes_as_guest, is_for, has_access, same_size, wants, proposal_of, proposed, proposed_item, request_that, commit_reasons}
use Rattle.ynl_model.specs.Events.{Outcome, answered, where_there, commits, reasons, accepted, step, state_after}
use Rattle.ynl_model.specs.declared.proposals.Proposal.{Proposal}
use Rattle.ynl_model.specs.declared.events.Event.{Event}
use Rattle.ynl_model.specs.declared.events.Event.TheVariants.{Propose, Commit}
use Rattle.ynl_model.specs.declared.replies.Reply.TheVariants.{Refused, Proposed, Committed}
use Rattle.ynl_laws.specs.Found.{FindsItself}
use Rattle.ynl_laws.specs.Proposed.{IsCommitted, AreAccessibleChoicesCommitted, AreChoicesCommitted, IsCommitOf, AreProposalsCommitted}
use Rattle.ynl_laws.proofs.Events.Chosen.{none-holds}
use Rattle.ynl_laws.proofs.Events.Found.{IsFound}
use Rattle.ynl_laws.proofs.Lives.Entitled.{Fitting, may-own, all-apps}
use Rattle.ynl_laws.specs.Untied.{Distinct, AllDistinct}
use Rattle.ynl_laws.proofs.Lives.Asks.{each-found, distinct-after}
use Rattle.ynl_laws.proofs.Isolating.Alone.{tops}
use Rattle.ynl_laws.proofs.Isolating.Firm.{Firm, firm-after}
use Rattle.ynl_laws.proofs.Limits.Within.{after-last}
use Rattle.ynl_laws.proofs.Lists.{Each-filter, Each-append, Each-map, Each-flat, Each-kept, Each-weaker, filter-passes, Each-both, Each-with, Each-found, found-passes}
use Rattle.ynl_laws.proofs.Logic.{not-true, some-same, pass}
use Rattle.ynl_laws.proofs.Names.{same-name_sym, same-label_path, same-label_self}
use Rattle.std.proofs.lemmas.Bool.{and_from, and_parts, or_right}

-- ---- live applications

-- what is known of each live application: it is what is found, its leaf is configured and may use its home, and its asks differ
pub record IsLive (c : Config) (s : State) (app : Application) : Type 0 where
  pub found : FindsItself s app
  pub there : is_some (queue_row c app.leaf) ≡ true
  pub fitting : Fitting c app
  pub distinct : Distinct app

all-live : (c : Config) (s : State) → Firm c s → AllDistinct s.leaves → AllByRecursion (IsLive c s) (all_apps s.leaves)
all-live c s firm distinct = all-apps (IsLive c s) s.leaves
    (Each-with (λ row. (is_some (queue_row c row.leaf) ≡ true) × AllByRecursion (IsFound s.leaves row) row.apps) (λ row. AllByRecursion (λ app. Fitting c app × Distinct app) row.apps) _
    (λ row k fits. Each-with (IsFound s.leaves row) (λ app. Fitting c app × Distinct app) (IsLive c s)
    (λ app f g. record { found = f.itself; there = ap (λ q. is_some (queue_row c q)) f.at ∙ k.0; fitting = g.0; distinct = g.1 }) row.apps k.1 fits) s.leaves
    (Each-both (λ row. is_some (queue_row c row.leaf) ≡ true) (λ row. AllByRecursion (IsFound s.leaves row) row.apps) s.leaves firm.rows firm.finds)
    (Each-with (λ row. AllByRecursion (Fitting c) row.apps) (λ row. AllByRecursion Distinct row.apps) _ (λ row k j. Each-both (Fitting c) Distinct row.apps k j) s.leaves firm.entitled.apps distinct))

-- ---- requests

-- a request is just what a live application wants, and its leaf is configured
pub record IsRequest (c : Config) (s : State) (p : Label) (item : Item) : Type 0 where
  pub app : Application
  pub found : find_app s.leaves (tenant_of item.leaf) item.app ≡ Some app
  pub same : item_of app item.what item.size ≡ item
  pub wanted : wants s p item.what item.size app ≡ true
  pub there : is_some (queue_row c item.leaf) ≡ true

-- a request is no guest: its leaf may use the partition, and it is for that
pub record IsOwn (c : Config) (p : Label) (item : Item) : Type 0 where
  pub comes : comes_as_guest c p item.what ≡ false
  pub may : may_use c item.leaf p ≡ true
  pub for : is_for p item.what ≡ true

same-size_self : (size : Resource) → same_size size size ≡ true
same-size_self size = and_from _ _ (self size.memory) (self size.vcores)
  where
    self : (n : _) → (n == n) ≡ true
    self n = grind (arith, nat_tests)

module _ (c : Config) (s : State) (live : AllByRecursion (IsLive c s) (all_apps s.leaves)) where
  masters-requested : (p : Label) → AllByRecursion (λ item. IsRequest c s p item × IsOwn c p item) (masters_for s p)
  masters-requested p = Each-map (λ app. IsLive c s app × ((waits s app && same_label app.home p) ≡ true)) (λ item. IsRequest c s p item × IsOwn c p item) master_item
      (λ app k. (
        record { app = app; found = k.0.found; same = refl; wanted = and_from _ _ k.1 (same-size_self app.master); there = k.0.there },
        record { comes = refl; may = ap (may_use c app.leaf) (sym (same-label_path app.home p (and_parts (waits s app) _ k.1).1)) ∙ k.0.fitting.0; for = refl },
      )) (filter (λ app. waits s app && same_label app.home p) (all_apps s.leaves))
      (Each-both (IsLive c s) _ (filter (λ app. waits s app && same_label app.home p) (all_apps s.leaves)) (Each-filter (IsLive c s) _ (all_apps s.leaves) live) (filter-passes _ (all_apps s.leaves)))

  asks-requested : (label p : Label) (Q : Item → Type 0) → ((app : Application) (ask : AskRow) → ask.label ≡ label → may_use c app.leaf label ≡ true → Q (ask_item app ask)) →
      AllByRecursion (λ item. IsRequest c s p item × Q item) (asks_for s label)
  unfolding asks_for
  asks-requested label p Q is = Each-flat (λ app. IsLive c s app × (runs s app ≡ true)) (λ item. IsRequest c s p item × Q item) (asks_of label) (λ app k. of app k.0 k.1) (filter (runs s) (all_apps s.leaves))
      (Each-both (IsLive c s) (λ app. runs s app ≡ true) (filter (runs s) (all_apps s.leaves)) (Each-filter (IsLive c s) (runs s) (all_apps s.leaves) live) (filter-passes (runs s) (all_apps s.leaves)))
    where
      of : (app : Application) → IsLive c s app → runs s app ≡ true → AllByRecursion (λ item. IsRequest c s p item × Q item) (asks_of label app)
      of app k running = Each-map _ (λ item. IsRequest c s p item × Q item) (ask_item app)
          (λ ask e.
          let at : ask.label ≡ label = same-label_path ask.label label (and_parts _ _ e.1).0 in (
            record { app = app; found = k.found; same = refl; wanted = and_from _ _ running ((λ i. option_map_or (λ other. same_size other.size ask.size) (e.0.0 i) false) ∙ same-size_self ask.size); there = k.there },
            is app ask at (ap (may_use c app.leaf) (sym at) ∙ may-own c app ask.label k.fitting.0 e.0.1),
          ))
          (filter (λ ask. same_label ask.label label && nat_lt 0 ask.count) app.asks)
          (Each-both _ _ (filter (λ ask. same_label ask.label label && nat_lt 0 ask.count) app.asks)
          (Each-filter _ _ app.asks (Each-both _ (λ ask. _) app.asks (each-found app.asks k.distinct) k.fitting.1)) (filter-passes (λ ask. same_label ask.label label && nat_lt 0 ask.count) app.asks))

  items-requested : (p : Label) → AllByRecursion (λ item. IsRequest c s p item × IsOwn c p item) (items_for s p)
  unfolding items_for
  items-requested p = Each-append (λ item. IsRequest c s p item × IsOwn c p item) (masters_for s p) (asks_for s p) (masters-requested p)
      (asks-requested p p (IsOwn c p) (λ app ask at may. record { comes = no-guest ask.label at; may = may; for = ap (λ l. same_label l p) at ∙ same-label_self p }))
    where
      no-guest : (label : Label) → label ≡ p → (is_default label && takes_guests c p) ≡ false
      no-guest label at = ap (λ l. is_default l && takes_guests c p) at ∙ go (is_default p)
        where
          go : (b : Bool) → (b && (not b && not (is_exclusive c.labels p))) ≡ false
          go true = refl
          go false = refl

-- ---- the choice

-- what is known of the request that is chosen: it is a guest that fits where nothing is eligible, or it is no guest and is eligible
pub record IsChosen (c : Config) (s : State) (node : Node) (item : Item) : Type 0 where
  pub request : IsRequest c s node.label item
  pub room : has_room s node item.size ≡ true
  pub access : (comes_as_guest c node.label item.what ≡ true) ⊎ ((may_use c item.leaf node.label && is_for node.label item.what) ≡ true)
  pub busy : (comes_as_guest c node.label item.what && some_eligible c s node) ≡ false
  pub limits : (comes_as_guest c node.label item.what ≡ true) ⊎ (is_eligible c s node item ≡ true)

module _ (c : Config) (s : State) (live : AllByRecursion (IsLive c s) (all_apps s.leaves)) (node : Node) where
  eligible-chosen : AllByRecursion (IsChosen c s node) (eligible c s node)
  unfolding is_eligible
  eligible-chosen = Each-kept (IsChosen c s node) (is_eligible c s node) (items_for s node.label)
      (Each-weaker _ _ (λ item k e. record {
        request = k.0;
        room = (and_parts _ _ (and_parts _ _ (and_parts _ _ e).0).0).0;
        access = inr (and_from _ _ k.1.may k.1.for);
        busy = ap (λ b. b && some_eligible c s node) k.1.comes;
        limits = inr e;
      }) (items_for s node.label) (items-requested c s live node.label))

  guests-chosen : AllByRecursion (IsChosen c s node) (guests_for c s node)
  unfolding guests_for
  guests-chosen = go (takes_guests c node.label && not (some_eligible c s node)) refl
    where
      go : (b : Bool) → (takes_guests c node.label && not (some_eligible c s node)) ≡ b → AllByRecursion (IsChosen c s node) (cond b (filter (λ item. has_room s node item.size) (asks_for s Unlabelled)) [])
      go false e = tt
      go true e = Each-kept (IsChosen c s node) (λ item. has_room s node item.size) (asks_for s Unlabelled)
          (Each-weaker _ _ (λ item k room. record {
            request = k.0;
            room = room;
            access = inl k.1;
            busy = (λ i. k.1 i && some_eligible c s node) ∙ not-true (some_eligible c s node) (and_parts (takes_guests c node.label) _ e).1;
            limits = inl k.1;
          }) (asks_for s Unlabelled)
          (asks-requested c s live Unlabelled node.label (λ item. comes_as_guest c node.label item.what ≡ true)
          (λ app ask at may. and_from _ _ (ap is_default at) (and_parts (takes_guests c node.label) _ e).0)))

  pub choice-chosen : IfSome (choice c s node) (IsChosen c s node)
  unfolding choice
  choice-chosen = go (first_of (key c s node.label) (eligible c s node)) (first_of (key c s Unlabelled) (guests_for c s node))
      (Each-found (IsChosen c s node) _ (eligible c s node) eligible-chosen) (Each-found (IsChosen c s node) _ (guests_for c s node) guests-chosen)
    where
      go : (a b : Option Item) → IfSome a (IsChosen c s node) → IfSome b (IsChosen c s node) → IfSome (option_or a b) (IsChosen c s node)
      go None b h k = k
      go (Some item) b h k = h

-- ---- the reasons

-- a limit that only those are tested for that are no guests
kept-limit : (guest within : Bool) → (guest ≡ true) ⊎ (within ≡ true) → (not guest && not within) ≡ false
kept-limit true within h = refl
kept-limit false true h = refl
kept-limit false false (inl e) = sym e
kept-limit false false (inr e) = sym e

-- what a configured queue may use the top-level queue above it may use
top-may : (c : Config) → is_accepted c ≡ true → (queue : Path) (p : Label) → is_some (queue_row c queue) ≡ true → may_use c queue p ≡ true → may_use c (top_level (tenant_of queue)) p ≡ true
unfolding may_use
top-may c approved queue Unlabelled there may = refl
top-may c approved queue (Named name) there may = (tops c approved queue queue refl there).1 name may

-- the tenant of a configured leaf has access where a guest comes, or the leaf may use the partition
leaf-access : (c : Config) → is_accepted c ≡ true → (leaf : Path) (p : Label) (what : What) → is_some (queue_row c leaf) ≡ true → (comes_as_guest c p what ≡ true) ⊎ ((may_use c leaf p && is_for p what) ≡ true) →
    has_access c p (tenant_of leaf) what ≡ true
unfolding has_access
leaf-access c approved leaf p what there access = and_from _ _ (tops c approved leaf leaf refl there).0 (go access)
  where
    go : (comes_as_guest c p what ≡ true) ⊎ ((may_use c leaf p && is_for p what) ≡ true) → (comes_as_guest c p what || (may_use c (top_level (tenant_of leaf)) p && is_for p what)) ≡ true
    go (inl e) = ap (λ b. b || (may_use c (top_level (tenant_of leaf)) p && is_for p what)) e
    go (inr e) = or_right (comes_as_guest c p what) _ (and_from _ _ (top-may c approved leaf p there (and_parts _ _ e).0) (and_parts (may_use c leaf p) _ e).1)

module _ (c : Config) (s : State) (node : Node) (there : node_of s node.name ≡ Some node) (fresh : is_spent c.labels s node.label ≡ false) (item : Item) (h : IsChosen c s node item) (access : has_access c node.label (tenant_of item.leaf) item.what ≡ true) where
  abbrev proposal : Proposal
  proposal = proposal_of node item

  -- a test of the node
  of-node : (test : Node → Bool) → test node ≡ false → option_map_or test (node_of s node.name) false ≡ false
  of-node test k = (λ i. option_map_or test (there i) false) ∙ k

  -- a test of the node and the application
  of-app : (test : Node → Application → Bool) → test node h.request.app ≡ false → option_map_or (λ node. option_map_or (test node) (find_app s.leaves (tenant_of item.leaf) item.app) false) (node_of s node.name) false ≡ false
  of-app test k = (λ i. option_map_or (λ node. option_map_or (test node) (h.request.found i) false) (there i) false) ∙ k

  -- a test of the node and the request
  of-request : (test : Node → Item → Bool) → test node item ≡ false → request_that s proposal test ≡ false
  of-request test k = of-app (λ node app. test node (proposed_item proposal app)) (ap (test node) h.request.same ∙ k)

  -- a limit that an eligible request keeps
  limit : (within : Bool) → (is_eligible c s node item ≡ true → within ≡ true) → (not (comes_as_guest c node.label item.what) && not within) ≡ false
  limit within eligible = kept-limit (comes_as_guest c node.label item.what) within (go h.limits)
    where
      go : (comes_as_guest c node.label item.what ≡ true) ⊎ (is_eligible c s node item ≡ true) → (comes_as_guest c node.label item.what ≡ true) ⊎ (within ≡ true)
      go (inl e) = inl e
      go (inr e) = inr (eligible e)

  passes : first_that_holds (commit_reasons c s proposal) ≡ None
  unfolding commit_reasons is_eligible
  passes =
      pass NoSuchNode _ (λ i. not (is_some (there i)))
      ∙ pass ClockSpent _ (of-node (λ node. is_spent c.labels s node.label) fresh)
      ∙ pass Stale _ (of-node (λ other. not (other.stamp == node.stamp)) (ap not same-stamp))
      ∙ pass NotAccessible _ (of-node (λ node. not (has_access c node.label (tenant_of item.leaf) item.what)) (ap not access))
      ∙ pass NoSuchApplication _ (λ i. not (is_some (h.request.found i)))
      ∙ pass NoSuchAsk _ (of-app (λ node app. not (wants s node.label item.what item.size app)) (ap not h.request.wanted))
      ∙ pass NoRoom _ (of-request (λ node item. not (has_room s node item.size)) (ap not h.room))
      ∙ pass PartitionBusy _ (of-request (λ node item. comes_as_guest c node.label item.what && some_eligible c s node) h.busy)
      ∙ pass OverMaximum _ (of-request (λ node item. not (comes_as_guest c node.label item.what) && not (within_maximum s node.label item))
      (limit (within_maximum s node.label item) (λ e. (and_parts (has_room s node item.size) _ (and_parts _ _ (and_parts _ _ e).0).0).1)))
      ∙ pass OverUserLimit _ (of-request (λ node item. not (comes_as_guest c node.label item.what) && not (within_user_limit c s node.label item))
      (limit (within_user_limit c s node.label item) (λ e. (and_parts (has_room s node item.size && within_maximum s node.label item) _ (and_parts _ _ e).0).1)))
      ∙ pass OverMasterShare _ (of-request (λ node item. not (comes_as_guest c node.label item.what) && not (within_master_share c s node.label item.leaf item.what item.size))
      (limit (within_master_share c s node.label item.leaf item.what item.size) (λ e. (and_parts (has_room s node item.size && within_maximum s node.label item && within_user_limit c s node.label item) _ e).1)))
    where
      same-stamp : (node.stamp == node.stamp) ≡ true
      same-stamp = grind (arith, nat_tests)

  committed : step c s (Commit proposal) ≡ record { state = place c node item s; reply = Committed (container_of c s node item) }
  unfolding step reasons accepted
  committed =
      ap (λ o. option_map_or (λ refusal. answered s (Refused refusal)) o (accepted c s (Commit proposal))) passes
      ∙ (λ i. where_there (there i) s (λ node. where_there (h.request.found i) s (commits c s proposal node)))
      ∙ (λ i. record { state = place c node (h.request.same i) s; reply = Committed (container_of c s node (h.request.same i)) })

-- ---- the laws

-- what is proposed in a state is chosen there
proposed-chosen : (c : Config) (s : State) (node : Node) (proposal : Proposal) → AllByRecursion (IsLive c s) (all_apps s.leaves) → proposed c s node ≡ Some proposal → (P : Type 0) →
    ((item : Item) → choice c s node ≡ Some item → IsChosen c s node item → proposal_of node item ≡ proposal → P) → P
unfolding proposed
proposed-chosen c s node proposal live is P step = go (choice c s node) refl (choice-chosen c s live node) is
  where
    go : (o : Option Item) → choice c s node ≡ o → IfSome o (IsChosen c s node) → option_map (proposal_of node) o ≡ Some proposal → P
    go None f h k = cc
    go (Some item) f h k = step item f h (some-same (proposal_of node item) proposal (Some (proposal_of node item)) refl k)

live-after : (c : Config) (events : List Event) → AllByRecursion (IsLive c (state_after c events)) (all_apps (state_after c events).leaves)
live-after c events = all-live c (state_after c events) (firm-after c events) (distinct-after c events)

pub are_accessible_choices_committed : AreAccessibleChoicesCommitted
are_accessible_choices_committed c events name node proposal e fresh is access = proposed-chosen c s node proposal (live-after c events) is (IsCommitted c s node proposal) (λ item f h same.
    let may : has_access c node.label (tenant_of item.leaf) item.what ≡ true = ap (λ (asked : Proposal). has_access c node.label asked.tenant asked.what) same ∙ access in
    subst (IsCommitted c s node) same (record {
      item = item;
      chosen = f;
      passes = passes c s node there fresh item h may;
      reply = ap (λ (outcome : Outcome). outcome.reply) (committed c s node there fresh item h may);
      state = ap (λ (outcome : Outcome). outcome.state) (committed c s node there fresh item h may);
    }))
  where
    s : State
    s = state_after c events

    there : node_of s node.name ≡ Some node
    there = ap (node_of s) (same-name_sym node.name name (subst (λ o. IfSome o (λ node. same_name node.name name ≡ true)) e (found-passes (λ node. same_name node.name name) s.nodes))) ∙ e

pub are_choices_committed : AreChoicesCommitted
are_choices_committed c events name node proposal approved e fresh is = are_accessible_choices_committed c events name node proposal e fresh is
    (proposed-chosen c (state_after c events) node proposal (live-after c events) is _ (λ item f h same.
    ap (λ (asked : Proposal). has_access c node.label asked.tenant asked.what) (sym same) ∙ leaf-access c approved item.leaf node.label item.what h.request.there h.access))

-- what a proposal that is answered says of the state
record IsAnswered (c : Config) (s : State) (name : Name) (proposal : Proposal) : Type 0 where
  node : Node
  there : node_of s name ≡ Some node
  fresh : is_spent c.labels s node.label ≡ false
  asked : proposed c s node ≡ Some proposal

answered-is : (c : Config) (s : State) (name : Name) (proposal : Proposal) → (step c s (Propose name)).reply ≡ Proposed (Some proposal) → IsAnswered c s name proposal
unfolding step reasons accepted
answered-is c s name proposal e = go (first_that_holds (placing_reasons c s name)) refl (node_of s name) refl e
  where
    go : (why : Option Refusal) → first_that_holds (placing_reasons c s name) ≡ why → (o : Option Node) → node_of s name ≡ o →
        (option_map_or (λ refusal. answered s (Refused refusal)) why (where_there o s (λ node. answered s (Proposed (proposed c s node))))).reply ≡ Proposed (Some proposal) → IsAnswered c s name proposal
    go (Some refusal) f o g e = cc
    go None f None g e = cc
    go None f (Some node) g e = record {
      node = node;
      there = g;
      fresh = sym (λ i. option_map_or (λ node. is_spent c.labels s node.label) (g i) false) ∙ (none-holds (placing_reasons c s name) f).1.0;
      asked = cc;
    }

-- a proposal changes nothing
pub propose-stays : (c : Config) (s : State) (name : Name) → (step c s (Propose name)).state ≡ s
unfolding step accepted
propose-stays c s name = go (first_that_holds (reasons c s (Propose name))) (node_of s name)
  where
    go : (why : Option Refusal) (o : Option Node) → (option_map_or (λ refusal. answered s (Refused refusal)) why (where_there o s (λ node. answered s (Proposed (proposed c s node))))).state ≡ s
    go (Some refusal) o = refl
    go None None = refl
    go None (Some node) = refl

committed-is : (c : Config) (s : State) (node : Node) (proposal : Proposal) → proposed c s node ≡ Some proposal → IsCommitted c s node proposal → IsCommitOf proposal (step c s (Commit proposal)).reply
unfolding proposed container_of
committed-is c s node proposal is h = subst (IsCommitOf proposal) (sym h.reply) (subst (λ asked. IsCommitOf asked (Committed (container_of c s node h.item)))
    (some-same (proposal_of node h.item) proposal (proposed c s node) (ap (option_map (proposal_of node)) h.chosen) is) refl)

pub are_proposals_committed : AreProposalsCommitted
are_proposals_committed c events name proposal approved e =
    let s : State = state_after c events in
    let h : IsAnswered c s name proposal = answered-is c s name proposal e in
    subst (λ u. IsCommitOf proposal (step c u (Commit proposal)).reply) (sym (after-last c events (Propose name) (opening c) ∙ propose-stays c s name))
    (committed-is c s h.node proposal h.asked (are_choices_committed c events name h.node proposal approved h.there h.fresh h.asked))
