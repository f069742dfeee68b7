-- What is chosen for a node, or committed to it, and is of a request of an application, may be placed there as that request.
use Rattle.std.proofs.Common.{◌≡◌, ◌⊎◌, inl, inr, ℕ, Bool, true, false, cond, not, ◌&&◌, ◌||◌, ◌==◌, [], filter, Option, Some, None, refl, sym, ap, subst, ◌∙◌, arith}
use Rattle.std.specs.Prelude.{IfSome, nat_lt}
use Rattle.std.specs.List.{AllByRecursion}
use Rattle.std.specs.Option.{option_map_or, option_or}
use Rattle.std.proofs.lemmas.Bool.{and_from, and_parts}
use Rattle.std.proofs.lemmas.Bool.Decides.{nat_tests}
use mathlib.Core.Bool.{true≢false}
use Rattle.ynl_resource.specs.declared.amounts.Resource.{Resource}
use Rattle.ynl_resource.specs.Names.{same_name, same_label, is_default, top_level, tenant_of}
use Rattle.ynl_resource.specs.declared.labels.Label.{Label}
use Rattle.ynl_resource.specs.declared.labels.Label.TheVariants.{Unlabelled}
use Rattle.ynl_resource.specs.Refusals.{first_that_holds}
use Rattle.ynl_model.specs.declared.nodes.Node.{Node}
use Rattle.ynl_model.specs.declared.applications.AskRow.{AskRow}
use Rattle.ynl_model.specs.declared.proposals.Proposal.{Proposal}
use Rattle.ynl_model.specs.declared.proposals.What.{What}
use Rattle.ynl_model.specs.declared.proposals.What.TheVariants.{Master, Ask as Asked}
use Rattle.ynl_model.specs.Queues.{Config, may_use}
use Rattle.ynl_model.specs.Applications.{Application, all_apps, find_app, find_ask}
use Rattle.ynl_model.specs.Cluster.{State, node_of, is_spent, runs, waits}
use Rattle.ynl_model.specs.Service.{Item, item_of, master_item, ask_item, asks_of, masters_for, asks_for, items_for, has_room, within_maximum, within_user_limit, within_master_share, is_eligible, eligible, some_eligible, takes_guests, guests_for, key, first_of, choice}
use Rattle.ynl_model.specs.Check.{comes_as_guest, is_for, has_access, same_size, wants, proposed_item, commit_reasons}
use Rattle.ynl_laws.specs.Found.{FindsItself}
use Rattle.ynl_laws.specs.Untied.{Distinct}
use Rattle.ynl_laws.proofs.Events.Chosen.{none-holds}
use Rattle.ynl_laws.proofs.Lists.{Each-append, Each-both, Each-filter, Each-flat, Each-found, Each-kept, Each-map, Each-weaker, filter-passes}
use Rattle.ynl_laws.proofs.Lives.Asks.{each-found}
use Rattle.ynl_laws.proofs.Logic.{not-false}
use Rattle.ynl_laws.proofs.Names.{same-label_path, same-label_self}
use Rattle.ynl_waits.specs.Waits.{Request, applicant, item, is_ready, passes, same_what}
use Rattle.ynl_waits.proofs.Among.{IsAmong, among-each, among-found}
use Rattle.ynl_waits.proofs.Placing.{Comes, MayStand}
use Rattle.ynl_waits.proofs.Requests.{Source, of_master, of_ask}

-- a request keeps the limits of a node's partition, which is its own
pub record KeepsLimits (c : Config) (s : State) (node : Node) (app : Application) (what : What) (size : Resource) : Type 0 where
  pub own : is_for node.label what ≡ true
  pub maximum : within_maximum s node.label (item_of app what size) ≡ true
  pub user : within_user_limit c s node.label (item_of app what size) ≡ true
  pub share : within_master_share c s node.label app.leaf what size ≡ true

-- what is known of a request that is placed on a node: its application wants just this, it has room, and it keeps the limits or is a guest
pub record IsTaken (c : Config) (s : State) (node : Node) (app : Application) (what : What) (size : Resource) : Type 0 where
  pub there : IsAmong node s.nodes
  pub fresh : is_spent c.labels s node.label ≡ false
  pub room : has_room s node size ≡ true
  pub wanted : wants s node.label what size app ≡ true
  pub how : KeepsLimits c s node app what size ⊎ (comes_as_guest c node.label what ≡ true)

-- ---- it is the request

same-number : (m n : ℕ) → (m == n) ≡ true → m ≡ n
same-number m n h = grind (arith, nat_tests)

same-size : (a b : Resource) → same_size a b ≡ true → a ≡ b
same-size a b h =
    let memory : a.memory ≡ b.memory = same-number a.memory b.memory (and_parts (a.memory == b.memory) (a.vcores == b.vcores) h).0 in
    let vcores : a.vcores ≡ b.vcores = same-number a.vcores b.vcores (and_parts (a.memory == b.memory) (a.vcores == b.vcores) h).1 in
    λ i. record { memory = memory i; vcores = vcores i }

same-size_self : (a : Resource) → same_size a a ≡ true
same-size_self a = and_from _ _ (self a.memory) (self a.vcores)
  where
    self : (n : ℕ) → (n == n) ≡ true
    self n = grind (arith, nat_tests)

same-what : (a b : What) → same_what a b ≡ true → a ≡ b
same-what Master Master h = refl
same-what Master (Asked label priority) h = absurd (true≢false (sym h))
same-what (Asked label priority) Master h = absurd (true≢false (sym h))
same-what (Asked label priority) (Asked other number) h =
    let parts = and_parts (same_label label other) (priority == number) h in
    λ i. Asked (same-label_path label other parts.0 i) (same-number priority number parts.1 i)

module _ (c : Config) (s : State) (app : Application) (request : Request) (node : Node) (what : What) (size : Resource) (taken : IsTaken c s node app what size) where
  -- it may be placed as that request, whose kind and size it has
  may-stand : what ≡ request.what → size ≡ request.size → is_ready (applicant s app) request.what ≡ true → (KeepsLimits c s node app what size → node.label ≡ request.label) →
      (comes_as_guest c node.label what ≡ true → runs s app ≡ true) → MayStand c s (applicant s app) request node
  unfolding passes
  may-stand kind amount ready at running = record {
    there = taken.there;
    fresh = taken.fresh;
    room = sym (ap (has_room s node) amount) ∙ taken.room;
    how = go taken.how;
  }
    where
      go : KeepsLimits c s node app what size ⊎ (comes_as_guest c node.label what ≡ true) → Comes c s (applicant s app) request node
      go (inl k) = inl (
        at k,
        and_from _ _ (and_from _ _ (and_from _ _ ready
            (sym (λ i. within_maximum s (at k i) (item_of app (kind i) (amount i))) ∙ k.maximum))
            (sym (λ i. within_user_limit c s (at k i) (item_of app (kind i) (amount i))) ∙ k.user))
            (sym (λ i. within_master_share c s (at k i) app.leaf (kind i) (amount i)) ∙ k.share),
      )
      go (inr guest) = inr (running guest, sym (ap (comes_as_guest c node.label) kind) ∙ guest)

  pub taken-stands : Distinct app → Source s app request → same_what what request.what ≡ true → MayStand c s (applicant s app) request node
  taken-stands distinct source h = go source
    where
      kind : what ≡ request.what
      kind = same-what what request.what h

      go : Source s app request → MayStand c s (applicant s app) request node
      go (of_master waiting e) =
          let master : what ≡ Master = kind ∙ ap (λ (r : Request). r.what) e in
          let wanted : (waits s app && same_label app.home node.label && same_size app.master size) ≡ true = sym (ap (λ w. wants s node.label w size app) master) ∙ taken.wanted in
          let parts = and_parts (waits s app && same_label app.home node.label) (same_size app.master size) wanted in
          may-stand kind (sym (same-size app.master size parts.1) ∙ sym (ap (λ (r : Request). r.size) e)) (ap (λ (r : Request). is_ready (applicant s app) r.what) e ∙ ap not waiting)
          (λ k. sym (same-label_path app.home node.label (and_parts (waits s app) (same_label app.home node.label) parts.0).1) ∙ sym (ap (λ (r : Request). r.label) e))
          (λ guest. absurd (true≢false (sym guest ∙ ap (comes_as_guest c node.label) master)))
      go (of_ask ask here e) =
          let asked : what ≡ Asked ask.label ask.priority = kind ∙ ap (λ (r : Request). r.what) e in
          let wanted : (runs s app && option_map_or (λ (other : AskRow). same_size other.size size) (find_ask app ask.label ask.priority) false) ≡ true = sym (ap (λ w. wants s node.label w size app) asked) ∙ taken.wanted in
          let parts = and_parts (runs s app) _ wanted in
          let found : find_ask app ask.label ask.priority ≡ Some ask = among-each _ ask app.asks (each-found app.asks distinct) here in
          let amount : ask.size ≡ size = same-size ask.size size (sym (ap (λ o. option_map_or (λ (other : AskRow). same_size other.size size) o false) found) ∙ parts.1) in
          may-stand kind (sym amount ∙ sym (ap (λ (r : Request). r.size) e)) (ap (λ (r : Request). is_ready (applicant s app) r.what) e ∙ parts.0)
          (λ k. sym (same-label_path ask.label node.label (sym (ap (is_for node.label) asked) ∙ k.own)) ∙ sym (ap (λ (r : Request). r.label) e))
          (λ guest. parts.0)

-- ---- what is chosen

-- a request of a list is just what a live application wants
record IsAsked (s : State) (p : Label) (item : Item) : Type 0 where
  app : Application
  found : find_app s.leaves (tenant_of item.leaf) item.app ≡ Some app
  same : item_of app item.what item.size ≡ item
  wanted : wants s p item.what item.size app ≡ true

-- and it may be placed on the node
record IsChoosable (c : Config) (s : State) (node : Node) (item : Item) : Type 0 where
  asked : IsAsked s node.label item
  room : has_room s node item.size ≡ true
  how : KeepsLimits c s node asked.app item.what item.size ⊎ (comes_as_guest c node.label item.what ≡ true)

-- a live application is what is found, and its asks differ
abbrev pub IsLive : State → Application → Type 0
IsLive s app = FindsItself s app × Distinct app

module _ (c : Config) (s : State) (live : AllByRecursion (IsLive s) (all_apps s.leaves)) where
  masters-asked : (p : Label) → AllByRecursion (λ item. IsAsked s p item × (is_for p item.what ≡ true)) (masters_for s p)
  masters-asked p = Each-map (λ app. IsLive s app × ((waits s app && same_label app.home p) ≡ true)) (λ item. IsAsked s p item × (is_for p item.what ≡ true)) master_item
      (λ app k. (record { app = app; found = k.0.0; same = refl; wanted = and_from _ _ k.1 (same-size_self app.master) }, refl)) (filter (λ app. waits s app && same_label app.home p) (all_apps s.leaves))
      (Each-both (IsLive s) _ (filter (λ app. waits s app && same_label app.home p) (all_apps s.leaves)) (Each-filter (IsLive s) _ (all_apps s.leaves) live) (filter-passes _ (all_apps s.leaves)))

  asks-asked : (label p : Label) (Q : Item → Type 0) → ((app : Application) (ask : AskRow) → ask.label ≡ label → Q (ask_item app ask)) → AllByRecursion (λ item. IsAsked s p item × Q item) (asks_for s label)
  unfolding asks_for
  asks-asked label p Q is = Each-flat (λ app. IsLive s app × (runs s app ≡ true)) (λ item. IsAsked s p item × Q item) (asks_of label) (λ app k. of app k.0 k.1) (filter (runs s) (all_apps s.leaves))
      (Each-both (IsLive s) (λ app. runs s app ≡ true) (filter (runs s) (all_apps s.leaves)) (Each-filter (IsLive s) (runs s) (all_apps s.leaves) live) (filter-passes (runs s) (all_apps s.leaves)))
    where
      of : (app : Application) → IsLive s app → runs s app ≡ true → AllByRecursion (λ item. IsAsked s p item × Q item) (asks_of label app)
      of app k running = Each-map _ (λ item. IsAsked s p item × Q item) (ask_item app)
          (λ ask e. (
            record { app = app; found = k.0; same = refl; wanted = and_from _ _ running ((λ i. option_map_or (λ (other : AskRow). same_size other.size ask.size) (e.0 i) false) ∙ same-size_self ask.size) },
            is app ask (same-label_path ask.label label (and_parts _ _ e.1).0),
          ))
          (filter (λ ask. same_label ask.label label && nat_lt 0 ask.count) app.asks)
          (Each-both (λ ask. find_ask app ask.label ask.priority ≡ Some ask) _ (filter (λ ask. same_label ask.label label && nat_lt 0 ask.count) app.asks)
          (Each-filter (λ ask. find_ask app ask.label ask.priority ≡ Some ask) _ app.asks (each-found app.asks k.1)) (filter-passes (λ ask. same_label ask.label label && nat_lt 0 ask.count) app.asks))

  items-asked : (p : Label) → AllByRecursion (λ item. IsAsked s p item × (is_for p item.what ≡ true)) (items_for s p)
  unfolding items_for
  items-asked p = Each-append (λ item. IsAsked s p item × (is_for p item.what ≡ true)) (masters_for s p) (asks_for s p) (masters-asked p)
      (asks-asked p p (λ item. is_for p item.what ≡ true) (λ app ask at. ap (λ l. same_label l p) at ∙ same-label_self p))

  module _ (node : Node) where
    eligible-choosable : AllByRecursion (IsChoosable c s node) (eligible c s node)
    unfolding is_eligible
    eligible-choosable = Each-kept (IsChoosable c s node) (is_eligible c s node) (items_for s node.label)
        (Each-weaker (λ item. IsAsked s node.label item × (is_for node.label item.what ≡ true)) _ (λ item k e. from item k.0 k.1 e) (items_for s node.label) (items-asked node.label))
      where
        from : (item : Item) → IsAsked s node.label item → is_for node.label item.what ≡ true →
            (has_room s node item.size && within_maximum s node.label item && within_user_limit c s node.label item && within_master_share c s node.label item.leaf item.what item.size) ≡ true → IsChoosable c s node item
        from item k own e =
            let three = and_parts _ (within_master_share c s node.label item.leaf item.what item.size) e in
            let two = and_parts _ (within_user_limit c s node.label item) three.0 in
            let one = and_parts (has_room s node item.size) (within_maximum s node.label item) two.0 in
            record {
              asked = k;
              room = one.0;
              how = inl (record {
                own = own;
                maximum = ap (within_maximum s node.label) k.same ∙ one.1;
                user = ap (within_user_limit c s node.label) k.same ∙ two.1;
                share = ap (λ (other : Item). within_master_share c s node.label other.leaf item.what item.size) k.same ∙ three.1;
              });
            }

    guests-choosable : AllByRecursion (IsChoosable c s node) (guests_for c s node)
    unfolding guests_for
    guests-choosable = go (takes_guests c node.label && not (some_eligible c s node)) refl
      where
        go : (b : Bool) → (takes_guests c node.label && not (some_eligible c s node)) ≡ b → AllByRecursion (IsChoosable c s node) (cond b (filter (λ item. has_room s node item.size) (asks_for s Unlabelled)) [])
        go false e = tt
        go true e = Each-kept (IsChoosable c s node) (λ item. has_room s node item.size) (asks_for s Unlabelled)
            (Each-weaker (λ item. IsAsked s node.label item × (comes_as_guest c node.label item.what ≡ true)) _ (λ item k room. record { asked = k.0; room = room; how = inr k.1 }) (asks_for s Unlabelled)
            (asks-asked Unlabelled node.label (λ item. comes_as_guest c node.label item.what ≡ true)
            (λ app ask at. and_from _ _ (ap is_default at) (and_parts (takes_guests c node.label) _ e).0)))

    choice-choosable : IfSome (choice c s node) (IsChoosable c s node)
    unfolding choice
    choice-choosable = go (first_of (key c s node.label) (eligible c s node)) (first_of (key c s Unlabelled) (guests_for c s node))
        (Each-found (IsChoosable c s node) _ (eligible c s node) eligible-choosable) (Each-found (IsChoosable c s node) _ (guests_for c s node) guests-choosable)
      where
        go : (a b : Option Item) → IfSome a (IsChoosable c s node) → IfSome b (IsChoosable c s node) → IfSome (option_or a b) (IsChoosable c s node)
        go None b h k = k
        go (Some item) b h k = h

    -- the choice for a node is of a live application, and taken there
    pub chosen-taken : (item : Item) → choice c s node ≡ Some item → IsAmong node s.nodes → is_spent c.labels s node.label ≡ false →
        (app : Application) × (find_app s.leaves (tenant_of item.leaf) item.app ≡ Some app) × IsTaken c s node app item.what item.size
    chosen-taken item e there fresh =
        let k : IsChoosable c s node item = subst (λ o. IfSome o (IsChoosable c s node)) e choice-choosable in
        (k.asked.app, k.asked.found, record { there = there; fresh = fresh; room = k.room; wanted = k.asked.wanted; how = k.how })

-- ---- what is committed

-- a limit that only those are tested for that are no guests
limit-kept : (guest within : Bool) → guest ≡ false → (not guest && not within) ≡ false → within ≡ true
limit-kept true within g h = absurd (true≢false g)
limit-kept false within g h = not-false within h

own-access : (guest own : Bool) → guest ≡ false → (guest || own) ≡ true → own ≡ true
own-access true own g h = absurd (true≢false g)
own-access false own g h = h

pub committed-taken : (c : Config) (s : State) (proposal : Proposal) (node : Node) (app : Application) → first_that_holds (commit_reasons c s proposal) ≡ None → node_of s proposal.node ≡ Some node →
    find_app s.leaves proposal.tenant proposal.app ≡ Some app → IsTaken c s node app proposal.what proposal.size
unfolding commit_reasons has_access
committed-taken c s proposal node app none e f =
    let all = none-holds (commit_reasons c s proposal) none in
    let access : has_access c node.label proposal.tenant proposal.what ≡ true = not-false _ (of-node (λ node. not (has_access c node.label proposal.tenant proposal.what)) all.1.1.1.0) in
    record {
      there = among-found (λ node. same_name node.name proposal.node) node s.nodes e;
      fresh = of-node (λ node. is_spent c.labels s node.label) all.1.0;
      room = not-false _ (tested (λ node item. not (has_room s node item.size)) all.1.1.1.1.1.1.0);
      wanted = not-false _ (of-app (λ node app. not (wants s node.label proposal.what proposal.size app)) all.1.1.1.1.1.0);
      how = go (comes_as_guest c node.label proposal.what) refl (and_parts _ _ access).1
          (tested (λ node item. not (comes_as_guest c node.label item.what) && not (within_maximum s node.label item)) all.1.1.1.1.1.1.1.1.0)
          (tested (λ node item. not (comes_as_guest c node.label item.what) && not (within_user_limit c s node.label item)) all.1.1.1.1.1.1.1.1.1.0)
          (tested (λ node item. not (comes_as_guest c node.label item.what) && not (within_master_share c s node.label item.leaf item.what item.size)) all.1.1.1.1.1.1.1.1.1.1.0);
    }
  where
    of-node : (test : Node → Bool) → option_map_or test (node_of s proposal.node) false ≡ false → test node ≡ false
    of-node test k = sym (λ i. option_map_or test (e i) false) ∙ k

    of-app : (test : Node → Application → Bool) → option_map_or (λ node. option_map_or (test node) (find_app s.leaves proposal.tenant proposal.app) false) (node_of s proposal.node) false ≡ false → test node app ≡ false
    of-app test k = sym (λ i. option_map_or (λ node. option_map_or (test node) (f i) false) (e i) false) ∙ k

    tested : (test : Node → Item → Bool) → option_map_or (λ node. option_map_or (λ app. test node (proposed_item proposal app)) (find_app s.leaves proposal.tenant proposal.app) false) (node_of s proposal.node) false ≡ false →
        test node (proposed_item proposal app) ≡ false
    tested test k = of-app (λ node app. test node (proposed_item proposal app)) k

    go : (b : Bool) → comes_as_guest c node.label proposal.what ≡ b → (comes_as_guest c node.label proposal.what || (may_use c (top_level proposal.tenant) node.label && is_for node.label proposal.what)) ≡ true →
        (not (comes_as_guest c node.label proposal.what) && not (within_maximum s node.label (proposed_item proposal app))) ≡ false →
        (not (comes_as_guest c node.label proposal.what) && not (within_user_limit c s node.label (proposed_item proposal app))) ≡ false →
        (not (comes_as_guest c node.label proposal.what) && not (within_master_share c s node.label app.leaf proposal.what proposal.size)) ≡ false →
        KeepsLimits c s node app proposal.what proposal.size ⊎ (comes_as_guest c node.label proposal.what ≡ true)
    go true g access maximum user share = inr g
    go false g access maximum user share = inl (record {
      own = (and_parts (may_use c (top_level proposal.tenant) node.label) _ (own-access (comes_as_guest c node.label proposal.what) _ g access)).1;
      maximum = limit-kept (comes_as_guest c node.label proposal.what) _ g maximum;
      user = limit-kept (comes_as_guest c node.label proposal.what) _ g user;
      share = limit-kept (comes_as_guest c node.label proposal.what) _ g share;
    })
