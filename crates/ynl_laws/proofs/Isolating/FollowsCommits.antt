-- Proposals that are committed, as the tenant of a partition sees them.
use Rattle.std.proofs.Common.{◌≡◌, ℕ, Bool, true, false, cond, not, ◌&&◌, ◌||◌, ◌==◌, List, [], ◌∷◌, Option, Some, None, is_some, option_map, filter, find, refl, sym, ap, subst, ◌∙◌}
use Rattle.std.specs.List.{list_all}
use Rattle.std.specs.Option.{option_map_or}
use mathlib.Core.Bool.{true≢false}
use Rattle.ynl_resource.specs.declared.amounts.Resource.{Resource}
use Rattle.ynl_resource.specs.Amounts.{fits_in}
use Rattle.ynl_resource.specs.Names.{same_name, same_label, is_default, top_level, same_path, is_within}
use Rattle.ynl_resource.specs.declared.names.Name.{Name}
use Rattle.ynl_resource.specs.declared.labels.Label.{Label}
use Rattle.ynl_resource.specs.declared.refusals.Refusal.TheVariants.{NoSuchNode, ClockSpent, Stale, NotAccessible, NoSuchApplication, NoSuchAsk, NoRoom, PartitionBusy, OverMaximum, OverUserLimit, OverMasterShare}
use Rattle.ynl_resource.specs.Refusals.{Reasons, first_that_holds}
use Rattle.ynl_model.specs.declared.nodes.Node.{Node}
use Rattle.ynl_model.specs.Queues.{Config, QueueRow, queue_row, is_queue, may_use}
use Rattle.ynl_model.specs.Applications.{Application, is_ask_of, find_ask, find_app}
use Rattle.ynl_model.specs.declared.applications.AskRow.{AskRow}
use Rattle.ynl_model.specs.Cluster.{State, node_of, is_spent, waits, runs}
use Rattle.ynl_model.specs.declared.proposals.What.{What}
use Rattle.ynl_model.specs.declared.proposals.What.TheVariants.{Master, Ask as Asked}
use Rattle.ynl_model.specs.declared.proposals.Proposal.{Proposal}
use Rattle.ynl_model.specs.declared.replies.Reply.TheVariants.{Committed}
use Rattle.ynl_model.specs.Service.{has_room, within_maximum, within_user_limit, within_master_share, some_eligible, takes_guests}
use Rattle.ynl_model.specs.Check.{comes_as_guest, is_for, has_access, wants, same_size, proposed_item, commit_reasons}
use Rattle.ynl_model.specs.Events.{where_there, commits, accepted, reasons}
use Rattle.ynl_model.specs.declared.events.Event.TheVariants.{Commit}
use Rattle.ynl_model.specs.View.{kept_if, seen_of, restrict}
use Rattle.ynl_laws.specs.Working.{places}
use Rattle.ynl_laws.proofs.Isolating.Restricted.{is_queue-restrict, may_use-restrict}
use Rattle.ynl_laws.proofs.Events.Chosen.{none-holds}
use Rattle.ynl_laws.proofs.Events.Wanted.{commit-wanted}
use Rattle.ynl_laws.proofs.Isolating.Own.{Holds, only, keeps_home, runs-own, free-here, within_maximum-own, within_user_limit-own, within_master_share-own}
use Rattle.ynl_laws.proofs.Isolating.Mirrored.{Mirrors}
use Rattle.ynl_laws.proofs.Isolating.Alone.{Alone}
use Rattle.ynl_laws.proofs.Isolating.Firm.{Firm, holds, takes-none, found-within, app-part, app-asked}
use Rattle.ynl_laws.proofs.Isolating.Follows.{Follows, kept, unseen, there-both, there-part, there-unseen, by-place, node-in}
use Rattle.ynl_laws.proofs.Isolating.FollowsPlaces.{not-for, container-same, places-here, places-there, spent-here}
use Rattle.ynl_laws.proofs.Lists.{Each-all, Each-kept, find-filter, find-nothing, filter-none}
use Rattle.ynl_laws.proofs.Logic.{not-false, and-false, guard-same, some-same}
use Rattle.ynl_laws.proofs.Names.{same-path, same-name_sym, same-name_self, same-label_path}
use Rattle.std.proofs.lemmas.Bool.{and_from, and_parts}

-- ---- reasons

-- the same reasons, of which the later ones are compared where the earlier fail
first-same : {X : Type 0} (x : X) (a b : Bool) (more other : List (X × Bool)) → a ≡ b → (a ≡ false → first_that_holds more ≡ first_that_holds other) → first_that_holds ((x, a) ∷ more) ≡ first_that_holds ((x, b) ∷ other)
first-same x a b more other same rest = go a refl ∙ (λ i. cond (same i) (Some x) (first_that_holds other))
  where
    go : (d : Bool) → a ≡ d → cond a (Some x) (first_that_holds more) ≡ cond a (Some x) (first_that_holds other)
    go true e = (λ i. cond (e i) (Some x) (first_that_holds more)) ∙ sym (λ i. cond (e i) (Some x) (first_that_holds other))
    go false e = ap (λ o. cond a (Some x) o) (rest e)

-- the reasons before those of the application are the same
before-same : (spent own-spent stale closed own-closed : Bool) (more other : Reasons) → spent ≡ own-spent → closed ≡ own-closed → (closed ≡ false → first_that_holds more ≡ first_that_holds other) →
    first_that_holds ((NoSuchNode, false) ∷ (ClockSpent, spent) ∷ (Stale, stale) ∷ (NotAccessible, closed) ∷ more) ≡ first_that_holds ((NoSuchNode, false) ∷ (ClockSpent, own-spent) ∷ (Stale, stale) ∷ (NotAccessible, own-closed) ∷ other)
before-same spent own-spent stale closed own-closed more other same access rest = λ i. cond (same i) (Some ClockSpent) (cond stale (Some Stale) (first-same NotAccessible closed own-closed more other access rest i))

-- the reasons told of an application
app_reasons : Config → State → Node → Proposal → Option Application → Reasons
app_reasons c s node proposal found =
    (NoSuchApplication, not (is_some found))
    ∷ (NoSuchAsk, option_map_or (λ app. not (wants s node.label proposal.what proposal.size app)) found false)
    ∷ (NoRoom, option_map_or (λ app. not (has_room s node proposal.size)) found false)
    ∷ (PartitionBusy, option_map_or (λ app. comes_as_guest c node.label proposal.what && some_eligible c s node) found false)
    ∷ (OverMaximum, option_map_or (λ app. not (comes_as_guest c node.label proposal.what) && not (within_maximum s node.label (proposed_item proposal app))) found false)
    ∷ (OverUserLimit, option_map_or (λ app. not (comes_as_guest c node.label proposal.what) && not (within_user_limit c s node.label (proposed_item proposal app))) found false)
    ∷ (OverMasterShare, option_map_or (λ app. not (comes_as_guest c node.label proposal.what) && not (within_master_share c s node.label app.leaf proposal.what proposal.size)) found false)
    ∷ []

-- all reasons, on a node that is found
node_reasons : Config → State → Node → Proposal → Reasons
node_reasons c s node proposal =
    (NoSuchNode, false) ∷ (ClockSpent, is_spent c.labels s node.label) ∷ (Stale, not (node.stamp == proposal.stamp)) ∷ (NotAccessible, not (has_access c node.label proposal.tenant proposal.what))
    ∷ app_reasons c s node proposal (find_app s.leaves proposal.tenant proposal.app)

on-node : (c : Config) (s : State) (node : Node) (proposal : Proposal) → node_of s proposal.node ≡ Some node → commit_reasons c s proposal ≡ node_reasons c s node proposal
unfolding commit_reasons node_reasons app_reasons
on-node c s node proposal e = λ i.
    (NoSuchNode, not (is_some (e i))) ∷ (ClockSpent, option_map_or (λ node. is_spent c.labels s node.label) (e i) false)
    ∷ (Stale, option_map_or (λ node. not (node.stamp == proposal.stamp)) (e i) false)
    ∷ (NotAccessible, option_map_or (λ node. not (has_access c node.label proposal.tenant proposal.what)) (e i) false)
    ∷ (NoSuchApplication, not (is_some (find_app s.leaves proposal.tenant proposal.app)))
    ∷ (NoSuchAsk, option_map_or (λ node. of (λ app. not (wants s node.label proposal.what proposal.size app))) (e i) false)
    ∷ (NoRoom, option_map_or (λ node. of (λ app. not (has_room s node proposal.size))) (e i) false)
    ∷ (PartitionBusy, option_map_or (λ node. of (λ app. comes_as_guest c node.label proposal.what && some_eligible c s node)) (e i) false)
    ∷ (OverMaximum, option_map_or (λ node. of (λ app. not (comes_as_guest c node.label proposal.what) && not (within_maximum s node.label (proposed_item proposal app)))) (e i) false)
    ∷ (OverUserLimit, option_map_or (λ node. of (λ app. not (comes_as_guest c node.label proposal.what) && not (within_user_limit c s node.label (proposed_item proposal app)))) (e i) false)
    ∷ (OverMasterShare, option_map_or (λ node. of (λ app. not (comes_as_guest c node.label proposal.what) && not (within_master_share c s node.label app.leaf proposal.what proposal.size))) (e i) false)
    ∷ []
  where
    of : (Application → Bool) → Bool
    of test = option_map_or test (find_app s.leaves proposal.tenant proposal.app) false

module _ (c : Config) (t : Name) (p : Label) (a : Alone c t p) (s u : State) (firm : Firm c s) (m : Mirrors t p s u) where
  abbrev d : Config
  d = restrict c t

  h : Holds t p s u
  h = holds c t p a s firm u m

  -- ---- access

  -- nothing comes to the partition as a guest
  no-guest : (e : Config) → takes_guests e p ≡ false → (what : What) → comes_as_guest e p what ≡ false
  no-guest e none Master = refl
  no-guest e none (Asked label priority) = ap (λ b. is_default label && b) none ∙ and-false (is_default label)

  -- the tenant has the same access
  own-access : (what : What) → has_access c p t what ≡ has_access d p t what
  unfolding has_access
  own-access what = λ i. sym (is_queue-restrict c t (top_level t) self) i && ((no-guest c (takes-none c t p a) what ∙ sym (no-guest d (takes-none c t p a) what)) i || (sym (may_use-restrict c t (top_level t) p self) i && is_for p what))
    where
      self : is_within (top_level t) (top_level t) ≡ true
      self = and_from _ _ (same-name_self t) refl

  -- another tenant has none, here or there
  no-access : (tenant : Name) (what : What) → same_name tenant t ≡ false → has_access c p tenant what ≡ false
  unfolding has_access
  no-access tenant what off = go (is_queue c (top_level tenant)) (may_use c (top_level tenant) p) refl refl
    where
      go : (b e : Bool) → is_queue c (top_level tenant) ≡ b → may_use c (top_level tenant) p ≡ e → (is_queue c (top_level tenant) && (comes_as_guest c p what || (may_use c (top_level tenant) p && is_for p what))) ≡ false
      go false e f g = ap (λ b. b && (comes_as_guest c p what || (may_use c (top_level tenant) p && is_for p what))) f
      go true false f g = (λ i. f i && (no-guest c (takes-none c t p a) what i || (g i && is_for p what)))
      go true true f g = absurd (true≢false (sym (ap (same_name tenant) (sym (a.others tenant f g)) ∙ same-name_self tenant) ∙ off))

  no-access_own : (tenant : Name) (what : What) → same_name tenant t ≡ false → has_access d p tenant what ≡ false
  unfolding has_access
  no-access_own tenant what off = λ i. is_some (gone i) && (comes_as_guest d p what || (may_use d (top_level tenant) p && is_for p what))
    where
      away : (row : QueueRow) → is_within (top_level t) row.path ≡ true → (b : Bool) → same_path row.path (top_level tenant) ≡ b → same_path row.path (top_level tenant) ≡ false
      away row w true e =
          let at : (same_name t tenant && true) ≡ true = ap (is_within (top_level t)) (sym (same-path row.path (top_level tenant) e)) ∙ w in
          absurd (true≢false (sym (ap (same_name tenant) (same-name_sym t tenant (and_parts _ _ at).0) ∙ same-name_self tenant) ∙ off))
      away row w false e = e

      gone : queue_row d (top_level tenant) ≡ None
      gone = find-nothing (λ row. same_path row.path (top_level tenant)) (filter (λ row. is_within (top_level t) row.path) c.queues)
          (Each-kept _ (λ row. is_within (top_level t) row.path) c.queues (Each-all _ (λ row w. away row w (same_path row.path (top_level tenant)) refl) c.queues))

  -- ---- what is wanted

  -- no ask of an application for the partition is found where that is not its home
  no-ask : (app : Application) (priority : ℕ) → same_label app.home p ≡ false → keeps_home p app ≡ true → find_ask app p priority ≡ None
  no-ask app priority off keeps = sym (find-filter (is_ask_of p priority) (λ ask. same_label ask.label p) (λ ask e. (and_parts _ _ e).0) app.asks)
      ∙ ap (find (is_ask_of p priority)) (filter-none (λ ask. same_label ask.label p) app.asks (ap (λ b. b || list_all (λ ask. not (same_label ask.label p)) app.asks) (sym off) ∙ keeps))

  wants-same : (app : Application) → keeps_home p app ≡ true → (what : What) (size : Resource) → is_for p what ≡ true → wants s p what size app ≡ wants u p what size (only p app)
  wants-same app keeps Master size for = λ i. guard-same (waits s app) (waits u (only p app)) (same_label app.home p) (λ e. ap not (runs-own c t p a.home a.exclusive s u h app e)) i && same_size app.master size
  wants-same app keeps (Asked label priority) size for = go (same_label app.home p) refl
    where
      here : label ≡ p
      here = same-label_path label p for

      only-ask : find_ask (only p app) p priority ≡ find_ask app p priority
      only-ask = find-filter (is_ask_of p priority) (λ ask. same_label ask.label p) (λ ask e. (and_parts _ _ e).0) app.asks

      test : Option AskRow → Bool
      test o = option_map_or (λ ask. same_size ask.size size) o false

      go : (b : Bool) → same_label app.home p ≡ b → (runs s app && option_map_or (λ ask. same_size ask.size size) (find_ask app label priority) false) ≡ (runs u (only p app) && option_map_or (λ ask. same_size ask.size size) (find_ask (only p app) label priority) false)
      go true e = λ i. runs-own c t p a.home a.exclusive s u h app e i
          && option_map_or (λ ask. same_size ask.size size) ((ap (λ l. find_ask app l priority) here ∙ sym only-ask ∙ ap (λ l. find_ask (only p app) l priority) (sym here)) i) false
      go false e =
          let none : find_ask app p priority ≡ None = no-ask app priority e keeps in
          (λ i. runs s app && option_map_or (λ ask. same_size ask.size size) ((ap (λ l. find_ask app l priority) here ∙ none) i) false) ∙ and-false (runs s app)
          ∙ sym ((λ i. runs u (only p app) && option_map_or (λ ask. same_size ask.size size) ((ap (λ l. find_ask (only p app) l priority) here ∙ only-ask ∙ none) i) false) ∙ and-false (runs u (only p app)))

  -- ---- the reasons are the same

  module _ (node : Node) (here : node.label ≡ p) where
    at : (f g : Label → Bool) → f p ≡ g p → f node.label ≡ g node.label
    at f g e = subst (λ l. f l ≡ g l) (sym here) e

    app-same : (name : Name) (stamp : ℕ) (app : Name) (what : What) (size : Resource) → is_for p what ≡ true →
        first_that_holds (app_reasons c s node (record { node = name; stamp = stamp; tenant = t; app = app; what = what; size = size }) (find_app s.leaves t app))
        ≡ first_that_holds (app_reasons d u node (record { node = name; stamp = stamp; tenant = t; app = app; what = what; size = size }) (find_app u.leaves t app))
    unfolding app_reasons
    app-same name stamp app what size for = go (find_app s.leaves t app) refl ∙ sym (ap (λ o. first_that_holds (app_reasons d u node proposal o)) (app-part c t p a s firm u m app))
      where
        proposal : Proposal
        proposal = record { node = name; stamp = stamp; tenant = t; app = app; what = what; size = size }

        guest : comes_as_guest c node.label what ≡ comes_as_guest d node.label what
        guest = at (λ l. comes_as_guest c l what) (λ l. comes_as_guest d l what) (no-guest c (takes-none c t p a) what ∙ sym (no-guest d (takes-none c t p a) what))

        none-comes : comes_as_guest c node.label what ≡ false
        none-comes = ap (λ l. comes_as_guest c l what) here ∙ no-guest c (takes-none c t p a) what

        none-comes_own : comes_as_guest d node.label what ≡ false
        none-comes_own = ap (λ l. comes_as_guest d l what) here ∙ no-guest d (takes-none c t p a) what

        go : (o : Option Application) → find_app s.leaves t app ≡ o → first_that_holds (app_reasons c s node proposal o) ≡ first_that_holds (app_reasons d u node proposal (option_map (only p) o))
        go None e = refl
        go (Some found) e =
            let w : is_within (top_level t) found.leaf ≡ true = found-within c t p a s firm app found e in
            λ i. first_that_holds (
            (NoSuchApplication, false)
            ∷ (NoSuchAsk, not (at (λ l. wants s l what size found) (λ l. wants u l what size (only p found)) (wants-same found (app-asked c t p a s firm t app found e) what size for) i))
            ∷ (NoRoom, not (fits_in size (free-here c t p a.home a.exclusive s u h node here i)))
            ∷ (PartitionBusy, (ap (λ b. b && some_eligible c s node) none-comes ∙ sym (ap (λ b. b && some_eligible d u node) none-comes_own)) i)
            ∷ (OverMaximum, not (guest i) && not (at (λ l. within_maximum s l (proposed_item proposal found)) (λ l. within_maximum u l (proposed_item proposal found)) (within_maximum-own c t p a.home a.exclusive s u h (proposed_item proposal found) w) i))
            ∷ (OverUserLimit, not (guest i) && not (at (λ l. within_user_limit c s l (proposed_item proposal found)) (λ l. within_user_limit d u l (proposed_item proposal found)) (within_user_limit-own c t p a.home a.exclusive s u h (proposed_item proposal found) w) i))
            ∷ (OverMasterShare, not (guest i) && not (at (λ l. within_master_share c s l found.leaf what size) (λ l. within_master_share d u l found.leaf what size) (within_master_share-own c t p a.home a.exclusive s u h found.leaf what size w) i))
            ∷ [])

    -- access for another label there is none, so the rest is compared for what is for the partition
    for-here : (what : What) → has_access c p t what ≡ true → is_for p what ≡ true
    unfolding has_access
    for-here what access = (and_parts (may_use c (top_level t) p) _ (ap (λ b. b || (may_use c (top_level t) p && is_for p what)) (sym (no-guest c (takes-none c t p a) what)) ∙ (and_parts (is_queue c (top_level t)) _ access).1)).1

    own-reasons : (name : Name) (stamp : ℕ) (app : Name) (what : What) (size : Resource) →
        first_that_holds (node_reasons c s node (record { node = name; stamp = stamp; tenant = t; app = app; what = what; size = size }))
        ≡ first_that_holds (node_reasons d u node (record { node = name; stamp = stamp; tenant = t; app = app; what = what; size = size }))
    unfolding node_reasons
    own-reasons name stamp app what size =
        before-same (is_spent c.labels s node.label) (is_spent c.labels u node.label) (not (node.stamp == stamp)) (not (has_access c node.label t what)) (not (has_access d node.label t what))
        (app_reasons c s node proposal (find_app s.leaves t app)) (app_reasons d u node proposal (find_app u.leaves t app)) (spent-here c t p s u m node here)
        (ap not (at (λ l. has_access c l t what) (λ l. has_access d l t what) (own-access what)))
        (λ granted. app-same name stamp app what size (for-here what (ap (λ l. has_access c l t what) (sym here) ∙ not-false _ granted)))
      where
        proposal : Proposal
        proposal = record { node = name; stamp = stamp; tenant = t; app = app; what = what; size = size }

    other-reasons : (proposal : Proposal) → same_name proposal.tenant t ≡ false → first_that_holds (node_reasons c s node proposal) ≡ first_that_holds (node_reasons d u node proposal)
    unfolding node_reasons
    other-reasons proposal off =
        before-same (is_spent c.labels s node.label) (is_spent c.labels u node.label) (not (node.stamp == proposal.stamp)) (not (has_access c node.label proposal.tenant proposal.what)) (not (has_access d node.label proposal.tenant proposal.what))
        (app_reasons c s node proposal (find_app s.leaves proposal.tenant proposal.app)) (app_reasons d u node proposal (find_app u.leaves proposal.tenant proposal.app)) (spent-here c t p s u m node here)
        (ap not (closed ∙ sym (ap (λ l. has_access d l proposal.tenant proposal.what) here ∙ no-access_own proposal.tenant proposal.what off))) (λ granted. absurd (true≢false (ap not (sym closed) ∙ granted)))
      where
        closed : has_access c node.label proposal.tenant proposal.what ≡ false
        closed = ap (λ l. has_access c l proposal.tenant proposal.what) here ∙ no-access proposal.tenant proposal.what off

  -- ---- the event

  commit-here : (node : Node) → node.label ≡ p → (name : Name) (stamp : ℕ) (app : Name) (what : What) (size : Resource) → node_of s name ≡ Some node → node_of u name ≡ Some node →
      Follows c t p s u (Commit (record { node = name; stamp = stamp; tenant = t; app = app; what = what; size = size })) (Some (Commit (record { node = name; stamp = stamp; tenant = t; app = app; what = what; size = size })))
  unfolding reasons accepted
  commit-here node here name stamp app what size e k = kept c t p s u m (Commit proposal) (Commit proposal)
      (ap first_that_holds (on-node c s node proposal e) ∙ own-reasons node here name stamp app what size ∙ sym (ap first_that_holds (on-node d u node proposal k)))
      (λ none. there-both c t p s u m (node_of s name) (node_of u name) node node
      (λ node. where_there (find_app s.leaves t app) s (commits c s proposal node)) (λ node. where_there (find_app u.leaves t app) u (commits d u proposal node)) e k
      (there-part c t p s u m (only p) (find_app s.leaves t app) (find_app u.leaves t app) (commits c s proposal node) (commits d u proposal node) (app-part c t p a s firm u m app)
      (λ found f. (places-here c t p s u m node here (proposed_item proposal found), ap Committed (container-same c t p s u m node here (proposed_item proposal found))))))
    where
      proposal : Proposal
      proposal = record { node = name; stamp = stamp; tenant = t; app = app; what = what; size = size }

  commit-other : (node : Node) → node.label ≡ p → (proposal : Proposal) → same_name proposal.tenant t ≡ false → node_of s proposal.node ≡ Some node → node_of u proposal.node ≡ Some node →
      Follows c t p s u (Commit proposal) (Some (Commit proposal))
  unfolding reasons accepted commit_reasons
  commit-other node here proposal off e k = kept c t p s u m (Commit proposal) (Commit proposal)
      (ap first_that_holds (on-node c s node proposal e) ∙ other-reasons node here proposal off ∙ sym (ap first_that_holds (on-node d u node proposal k)))
      (λ none.
      let closed : has_access c node.label proposal.tenant proposal.what ≡ false = ap (λ l. has_access c l proposal.tenant proposal.what) here ∙ no-access proposal.tenant proposal.what off in
      absurd (true≢false (ap not (sym closed) ∙ sym (ap (λ o. option_map_or (λ node. not (has_access c node.label proposal.tenant proposal.what)) o false) e) ∙ (none-holds (commit_reasons c s proposal) none).1.1.1.0)))

  pub sees-commit : (proposal : Proposal) → Follows c t p s u (Commit proposal) (seen_of t p c (places s) (Commit proposal))
  unfolding seen_of reasons accepted
  sees-commit proposal = by-place c t p s u m proposal.node (λ b. Follows c t p s u (Commit proposal) (kept_if b (Commit proposal)))
      (λ node e here. go node here e (node-in c t p s u m proposal.node node here e) (same_name proposal.tenant t) refl)
      (λ node e off. unseen c t p s u m (Commit proposal) (λ none. there-unseen c t p s u m (node_of s proposal.node) _ (λ other f. there-unseen c t p s u m (find_app s.leaves proposal.tenant proposal.app) _ (λ app g.
      let wanted = commit-wanted c s proposal other app firm.finds none f g in
      let away : same_label other.label p ≡ false = ap (λ n. same_label n.label p) (some-same other node (node_of s proposal.node) f e) ∙ off in
      places-there c t p s u m other away (proposed_item proposal app) (not-for c p other.label wanted.app proposal.what a.home away wanted.what)))))
      (λ e. unseen c t p s u m (Commit proposal) (λ none. there-unseen c t p s u m (node_of s proposal.node) _ (λ other f. absurd (true≢false (sym (ap is_some f) ∙ ap is_some e)))))
    where
      go : (node : Node) → node.label ≡ p → node_of s proposal.node ≡ Some node → node_of u proposal.node ≡ Some node → (b : Bool) → same_name proposal.tenant t ≡ b → Follows c t p s u (Commit proposal) (Some (Commit proposal))
      go node here e k true own = subst (λ n. Follows c t p s u (Commit (record proposal { tenant = n })) (Some (Commit (record proposal { tenant = n })))) (sym (same-name_sym proposal.tenant t own))
          (commit-here node here proposal.node proposal.stamp proposal.app proposal.what proposal.size e k)
      go node here e k false off = commit-other node here proposal off e k
