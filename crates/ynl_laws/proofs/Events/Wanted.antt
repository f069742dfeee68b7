-- What a chosen or a committed request is wanted for: it is that of a live application, for the partition or as a guest.
use Rattle.std.proofs.Common.{◌≡◌, ◌⊎◌, inl, inr, Bool, true, false, cond, not, ◌&&◌, ◌||◌, List, [], ◌∷◌, Option, Some, None, filter, find, refl, sym, ap, ◌∙◌}
use Rattle.std.specs.Prelude.{IfSome, nat_lt}
use Rattle.std.specs.List.{AllByRecursion, list_any}
use Rattle.std.specs.Option.{option_map_or, option_or}
use Rattle.ynl_resource.specs.declared.amounts.Resource.{Resource}
use Rattle.ynl_resource.specs.Names.{same_label, is_default, top_level, tenant_of}
use Rattle.ynl_resource.specs.declared.names.Name.{Name}
use Rattle.ynl_resource.specs.declared.labels.Label.{Label}
use Rattle.ynl_resource.specs.declared.labels.Label.TheVariants.{Unlabelled}
use Rattle.ynl_resource.specs.Refusals.{first_that_holds}
use Rattle.ynl_model.specs.declared.nodes.Node.{Node}
use Rattle.ynl_model.specs.Queues.{Config, may_use}
use Rattle.ynl_model.specs.Applications.{Application, all_apps, find_app, is_ask_of}
use Rattle.ynl_model.specs.declared.applications.AskRow.{AskRow}
use Rattle.ynl_model.specs.Cluster.{State, node_of, runs, waits}
use Rattle.ynl_model.specs.declared.proposals.What.{What}
use Rattle.ynl_model.specs.declared.proposals.What.TheVariants.{Master, Ask as Asked}
use Rattle.ynl_model.specs.declared.proposals.Proposal.{Proposal}
use Rattle.ynl_model.specs.Service.{Item, master_item, ask_item, asks_of, masters_for, asks_for, items_for, has_room, is_eligible, eligible, takes_guests, some_eligible, guests_for, key, first_of, choice}
use Rattle.ynl_model.specs.Check.{comes_as_guest, is_for, has_access, wants, same_size, proposed_item, commit_reasons}
use Rattle.ynl_laws.specs.Found.{FindsItself}
use Rattle.ynl_laws.proofs.Events.Chosen.{none-holds}
use Rattle.ynl_laws.proofs.Events.Found.{FindsAll, finds-apps, finds-found}
use Rattle.ynl_laws.proofs.Lists.{Each-filter, Each-append, Each-map, Each-flat, Each-weaker, filter-passes, Each-both, Each-found, any-later}
use Rattle.ynl_laws.proofs.Logic.{not-false, either-true}
use Rattle.ynl_laws.proofs.Names.{same-label_path, same-label_self}
use Rattle.std.proofs.lemmas.Bool.{and_parts}

-- a master is for its application's home, and an ask is one of the application's, for the partition or for DEFAULT where guests come
abbrev pub IsFor : Config → Label → Application → What → Type 0
IsFor c p app Master = app.home ≡ p
IsFor c p app (Asked label priority) = (list_any (λ ask. same_label ask.label label) app.asks ≡ true) × ((label ≡ p) ⊎ ((is_default label ≡ true) × (takes_guests c p ≡ true)))

-- a request is that of a live application, and for the partition
pub record IsWanted (c : Config) (s : State) (p : Label) (item : Item) : Type 0 where
  pub app : Application
  pub found : find_app s.leaves (tenant_of item.leaf) item.app ≡ Some app
  pub leaf : app.leaf ≡ item.leaf
  pub what : IsFor c p app item.what

-- ---- what is chosen

-- each ask is among the asks
each-asked : (asks : List AskRow) → AllByRecursion (λ ask. list_any (λ other. same_label other.label ask.label) asks ≡ true) asks
each-asked [] = tt
each-asked (ask ∷ asks) = (
  ap (λ b. b || list_any (λ other. same_label other.label ask.label) asks) (same-label_self ask.label),
  Each-weaker _ _ (λ other k. any-later (λ another. same_label another.label other.label) ask asks k) asks (each-asked asks),
)

module _ (c : Config) (s : State) (finds : FindsAll s.leaves) where
  masters-wanted : (p : Label) → AllByRecursion (IsWanted c s p) (masters_for s p)
  masters-wanted p = Each-map (λ app. FindsItself s app × ((waits s app && same_label app.home p) ≡ true)) (IsWanted c s p) master_item
      (λ app k. record { app = app; found = k.0; leaf = refl; what = same-label_path app.home p (and_parts (waits s app) _ k.1).1 }) (filter (λ app. waits s app && same_label app.home p) (all_apps s.leaves))
      (Each-both (FindsItself s) _ (filter (λ app. waits s app && same_label app.home p) (all_apps s.leaves)) (Each-filter (FindsItself s) _ (all_apps s.leaves) (finds-apps s finds)) (filter-passes _ (all_apps s.leaves)))

  asks-wanted : (label p : Label) → (label ≡ p) ⊎ ((is_default label ≡ true) × (takes_guests c p ≡ true)) → AllByRecursion (IsWanted c s p) (asks_for s label)
  unfolding asks_for
  asks-wanted label p for = Each-flat (FindsItself s) (IsWanted c s p) (asks_of label)
      (λ app k. Each-map (λ ask. (list_any (λ other. same_label other.label ask.label) app.asks ≡ true) × ((same_label ask.label label && nat_lt 0 ask.count) ≡ true)) (IsWanted c s p) (ask_item app)
      (λ ask e. record { app = app; found = k; leaf = refl; what = (e.0, at ask (same-label_path ask.label label (and_parts _ _ e.1).0) for) }) (filter (λ ask. same_label ask.label label && nat_lt 0 ask.count) app.asks)
      (Each-both _ _ (filter (λ ask. same_label ask.label label && nat_lt 0 ask.count) app.asks) (Each-filter _ _ app.asks (each-asked app.asks)) (filter-passes (λ ask. same_label ask.label label && nat_lt 0 ask.count) app.asks)))
      (filter (runs s) (all_apps s.leaves)) (Each-filter (FindsItself s) (runs s) (all_apps s.leaves) (finds-apps s finds))
    where
      at : (ask : AskRow) → ask.label ≡ label → (label ≡ p) ⊎ ((is_default label ≡ true) × (takes_guests c p ≡ true)) → (ask.label ≡ p) ⊎ ((is_default ask.label ≡ true) × (takes_guests c p ≡ true))
      at ask e (inl k) = inl (e ∙ k)
      at ask e (inr k) = inr (ap is_default e ∙ k.0, k.1)

  eligible-wanted : (node : Node) → AllByRecursion (IsWanted c s node.label) (eligible c s node)
  unfolding items_for
  eligible-wanted node = Each-filter (IsWanted c s node.label) (is_eligible c s node) (items_for s node.label)
      (Each-append (IsWanted c s node.label) (masters_for s node.label) (asks_for s node.label) (masters-wanted node.label) (asks-wanted node.label node.label (inl refl)))

  guests-wanted : (node : Node) → AllByRecursion (IsWanted c s node.label) (guests_for c s node)
  unfolding guests_for
  guests-wanted node = go (takes_guests c node.label && not (some_eligible c s node)) refl
    where
      go : (b : Bool) → (takes_guests c node.label && not (some_eligible c s node)) ≡ b → AllByRecursion (IsWanted c s node.label) (cond b (filter (λ item. has_room s node item.size) (asks_for s Unlabelled)) [])
      go true e = Each-filter (IsWanted c s node.label) (λ item. has_room s node item.size) (asks_for s Unlabelled) (asks-wanted Unlabelled node.label (inr (refl, (and_parts (takes_guests c node.label) _ e).0)))
      go false e = tt

  pub choice-wanted : (node : Node) → IfSome (choice c s node) (IsWanted c s node.label)
  unfolding choice
  choice-wanted node = go (first_of (key c s node.label) (eligible c s node)) (first_of (key c s Unlabelled) (guests_for c s node))
      (Each-found (IsWanted c s node.label) _ (eligible c s node) (eligible-wanted node)) (Each-found (IsWanted c s node.label) _ (guests_for c s node) (guests-wanted node))
    where
      go : (a b : Option Item) → IfSome a (IsWanted c s node.label) → IfSome b (IsWanted c s node.label) → IfSome (option_or a b) (IsWanted c s node.label)
      go None b h k = k
      go (Some item) b h k = h

-- ---- what is committed

found-any : (label : Label) (test : AskRow → Bool) (q : AskRow → Bool) → ((ask : AskRow) → q ask ≡ true → same_label ask.label label ≡ true) → (asks : List AskRow) → option_map_or test (find q asks) false ≡ true → list_any (λ ask. same_label ask.label label) asks ≡ true
found-any label test q implies [] h = h
found-any label test q implies (ask ∷ asks) h = go (q ask) refl h (found-any label test q implies asks)
  where
    go : (b : Bool) → q ask ≡ b → option_map_or test (cond b (Some ask) (find q asks)) false ≡ true → (option_map_or test (find q asks) false ≡ true → list_any (λ ask. same_label ask.label label) asks ≡ true) →
        list_any (λ ask. same_label ask.label label) (ask ∷ asks) ≡ true
    go true e h rest = ap (λ b. b || list_any (λ ask. same_label ask.label label) asks) (implies ask e)
    go false e h rest = any-later (λ ask. same_label ask.label label) ask asks (rest h)

wanted-for : (c : Config) (s : State) (p : Label) (tenant : Name) (what : What) (size : Resource) (app : Application) → has_access c p tenant what ≡ true → wants s p what size app ≡ true → IsFor c p app what
unfolding has_access
wanted-for c s p tenant Master size app access wanted = same-label_path app.home p (and_parts (waits s app) _ (and_parts (waits s app && same_label app.home p) _ wanted).0).1
wanted-for c s p tenant (Asked label priority) size app access wanted = (
  found-any label (λ ask. same_size ask.size size) (is_ask_of label priority) (λ ask e. (and_parts _ _ e).0) app.asks (and_parts (runs s app) _ wanted).1,
  go (either-true _ _ (and_parts _ _ access).1),
)
  where
    go : (comes_as_guest c p (Asked label priority) ≡ true) ⊎ ((may_use c (top_level tenant) p && is_for p (Asked label priority)) ≡ true) → (label ≡ p) ⊎ ((is_default label ≡ true) × (takes_guests c p ≡ true))
    go (inl guest) = inr ((and_parts (is_default label) _ guest).0, (and_parts (is_default label) _ guest).1)
    go (inr own) = inl (same-label_path label p (and_parts _ _ own).1)

pub commit-wanted : (c : Config) (s : State) (proposal : Proposal) (node : Node) (app : Application) → FindsAll s.leaves → first_that_holds (commit_reasons c s proposal) ≡ None → node_of s proposal.node ≡ Some node
    → find_app s.leaves proposal.tenant proposal.app ≡ Some app → IsWanted c s node.label (proposed_item proposal app)
unfolding commit_reasons
commit-wanted c s proposal node app finds none e f =
    let all = none-holds (commit_reasons c s proposal) none in
    record {
      app = app;
      found = finds-found s finds proposal.tenant proposal.app app f;
      leaf = refl;
      what = wanted-for c s node.label proposal.tenant proposal.what proposal.size app
          (not-false _ (sym (λ i. option_map_or (λ node. not (has_access c node.label proposal.tenant proposal.what)) (e i) false) ∙ all.1.1.1.0))
          (not-false _ (sym (λ i. option_map_or (λ node. option_map_or (λ app. not (wants s node.label proposal.what proposal.size app)) (f i) false) (e i) false) ∙ all.1.1.1.1.1.0));
    }
