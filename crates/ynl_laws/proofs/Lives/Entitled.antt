-- Applications have homes that their leaves may use and ask for nothing else, and containers are where they may be.
use Rattle.std.proofs.Common.{◌≡◌, ◌⊎◌, inl, inr, Bool, true, false, cond, not, ◌&&◌, ◌||◌, ◌==◌, List, [], ◌∷◌, Option, Some, None, is_some, find, refl, sym, ap, subst, ◌∙◌}
use Rattle.std.specs.Prelude.{⊤, IfSome}
use Rattle.std.specs.List.{AllByRecursion, list_any}
use Rattle.std.specs.Option.{option_map_or, option_and_then}
use mathlib.Core.Bool.{true≢false}
use Rattle.ynl_resource.specs.Names.{same_name, same_label, same_path, is_default, tenant_of}
use Rattle.ynl_resource.specs.declared.names.Name.{Name}
use Rattle.ynl_resource.specs.declared.labels.Label.{Label}
use Rattle.ynl_resource.specs.declared.labels.Label.TheVariants.{Unlabelled, Named}
use Rattle.ynl_resource.specs.declared.paths.Path.{Path}
use Rattle.ynl_resource.specs.Tables.{without, put}
use Rattle.ynl_model.specs.Nodes.{is_exclusive}
use Rattle.ynl_model.specs.Queues.{Config, QueueRow, may_use}
use Rattle.ynl_model.specs.Applications.{Application, LeafApps, row_of, leaf_of, find_app, in_leaf, submitted, with_app, finished, is_ask_of, set_ask, all_apps}
use Rattle.ynl_model.specs.declared.applications.AskRow.{AskRow}
use Rattle.ynl_model.specs.Cluster.{State, is_guest, is_guest_on}
use Rattle.ynl_model.specs.declared.containers.Placed.{Placed as Container}
use Rattle.ynl_model.specs.declared.proposals.What.{What}
use Rattle.ynl_model.specs.declared.proposals.What.TheVariants.{Master, Ask as Asked}
use Rattle.ynl_model.specs.Service.{Item, takes_guests}
use Rattle.ynl_model.specs.Changes.{node_joins, node_leaves, changed_at, container_of, taken, place, end, all_own, app_finishes}
use Rattle.ynl_model.specs.Events.{is_foreign, state_after}
use Rattle.ynl_model.specs.declared.events.Event.{Event}
use Rattle.ynl_laws.specs.Working.{on_in, IsKnown}
use Rattle.ynl_laws.specs.Entitled.{AreAppsInTheirLeaves, MayLeavesUseHomes, AreAsksForHome, is_entitled, AreAllEntitled}
use Rattle.ynl_laws.proofs.Events.Kept.{Extends, leaf-extends, submit-extends, with_app-names, finished-names}
use Rattle.ynl_laws.proofs.Events.Found.{IsFound, FindsAll, finds-found, is_found}
use Rattle.ynl_laws.proofs.Events.Wanted.{IsFor, IsWanted}
use Rattle.ynl_laws.proofs.Events.Lasting.{Lasts, lasting}
use Rattle.ynl_laws.proofs.Lives.Homes.{opening-each, all-ended, each-in}
use Rattle.ynl_laws.proofs.Lists.{Each-filter, Each-append, Each-map, all-of, Each-all, Each-flat, Each-weaker, Each-with, Each-find, Each-found, found-passes, Each-update, Each-put}
use Rattle.ynl_laws.proofs.Logic.{some-same}
use Rattle.ynl_laws.proofs.Names.{same-path, same-name_sym, same-label_path}
use Rattle.std.proofs.lemmas.Bool.{and_parts}

-- ---- applications

-- an application's leaf may use its home, and none of its asks is foreign
abbrev pub Fitting : Config → Application → Type 0
Fitting c app = (may_use c app.leaf app.home ≡ true) × AllByRecursion (λ ask. is_foreign ask.label app ≡ false) app.asks

abbrev pub AllFitting : Config → List LeafApps → Type 0
AllFitting c leaves = AllByRecursion (λ row. AllByRecursion (Fitting c) row.apps) leaves

-- what is found is fitting
pub fitting-found : (c : Config) (leaves : List LeafApps) → AllFitting c leaves → (tenant name : Name) (app : Application) → find_app leaves tenant name ≡ Some app → Fitting c app
unfolding find_app
fitting-found c leaves h tenant name app e = go (row_of leaves tenant name) (Each-found _ _ leaves h) e
  where
    go : (o : Option LeafApps) → IfSome o (λ row. AllByRecursion (Fitting c) row.apps) → option_and_then (λ row. find (λ app. same_name app.name name) row.apps) o ≡ Some app → Fitting c app
    go None k e = cc
    go (Some row) k e = (Each-find (Fitting c) (λ app. same_name app.name name) row.apps k app e).0

found-named : (leaves : List LeafApps) (tenant name : Name) (app : Application) → find_app leaves tenant name ≡ Some app → app.name ≡ name
unfolding find_app
found-named leaves tenant name app e = go (row_of leaves tenant name) e
  where
    go : (o : Option LeafApps) → option_and_then (λ row. find (λ app. same_name app.name name) row.apps) o ≡ Some app → app.name ≡ name
    go None e = cc
    go (Some row) e = same-name_sym app.name name (subst (λ o. IfSome o (λ app. same_name app.name name ≡ true)) e (found-passes (λ app. same_name app.name name) row.apps))

-- one less is asked for
fitting-taken : (c : Config) (what : What) (app : Application) → Fitting c app → Fitting c (taken what app)
fitting-taken c Master app h = h
fitting-taken c (Asked label priority) app h =
    (h.0, Each-filter (λ ask. is_foreign ask.label app ≡ false) _ _ (Each-update (λ ask. is_foreign ask.label app ≡ false) (is_ask_of label priority) _ (λ ask k. k) app.asks h.1))

fitting-asked : (c : Config) (ask : AskRow) (app : Application) → is_foreign ask.label app ≡ false → Fitting c app → Fitting c (set_ask ask app)
fitting-asked c ask app own h = (h.0, go (ask.count == 0))
  where
    go : (b : Bool) → AllByRecursion (λ ask. is_foreign ask.label app ≡ false) (cond b (without (is_ask_of ask.label ask.priority) app.asks) (put (is_ask_of ask.label ask.priority) ask app.asks))
    go true = Each-filter (λ ask. is_foreign ask.label app ≡ false) (λ other. not (is_ask_of ask.label ask.priority other)) app.asks h.1
    go false = Each-put (λ ask. is_foreign ask.label app ≡ false) (is_ask_of ask.label ask.priority) ask own app.asks h.1

-- the application that asks is the only one of its name in its leaf
all-asked : (c : Config) (s : State) (tenant name : Name) (found : Application) (ask : AskRow) → AllFitting c s.leaves → FindsAll s.leaves → find_app s.leaves tenant name ≡ Some found → is_foreign ask.label found ≡ false →
    AllFitting c (in_leaf found.leaf (with_app name (set_ask ask)) s.leaves)
all-asked c s tenant name found ask h finds e own =
    Each-map (λ row. AllByRecursion (λ app. Fitting c app × IsFound s.leaves row app) row.apps) (λ row. AllByRecursion (Fitting c) row.apps) _ (λ row k. row-asked row (same_path row.leaf found.leaf) refl k) s.leaves
    (Each-with _ _ _ (λ row k f. Each-with _ _ _ (λ app a b. (a, b)) row.apps k f) s.leaves h finds)
  where
    same : (row : LeafApps) (app : Application) → same_path row.leaf found.leaf ≡ true → same_name app.name name ≡ true → IsFound s.leaves row app → app ≡ found
    same row app at named is =
        let leaf : app.leaf ≡ found.leaf = is.at ∙ same-path row.leaf found.leaf at in
        let one : app.name ≡ found.name = same-name_sym app.name name named ∙ sym (found-named s.leaves tenant name found e) in
        some-same app found (find_app s.leaves (tenant_of app.leaf) app.name) is.itself ((λ i. find_app s.leaves (tenant_of (leaf i)) (one i)) ∙ finds-found s finds tenant name found e)

    one-asked : (row : LeafApps) (app : Application) → same_path row.leaf found.leaf ≡ true → (b : Bool) → same_name app.name name ≡ b → Fitting c app × IsFound s.leaves row app → Fitting c (cond b (set_ask ask app) app)
    one-asked row app at true named k = fitting-asked c ask app (ap (is_foreign ask.label) (same row app at named k.1) ∙ own) k.0
    one-asked row app at false named k = k.0

    row-asked : (row : LeafApps) (b : Bool) → same_path row.leaf found.leaf ≡ b → AllByRecursion (λ app. Fitting c app × IsFound s.leaves row app) row.apps → AllByRecursion (Fitting c) (cond b (with_app name (set_ask ask) row) row).apps
    row-asked row true at k = Each-map (λ app. Fitting c app × IsFound s.leaves row app) (Fitting c) _ (λ app j. one-asked row app at (same_name app.name name) refl j) row.apps k
    row-asked row false at k = Each-weaker _ _ (λ app j. j.0) row.apps k

-- ---- containers

entitled-extends : (c : Config) (old new : List LeafApps) → Extends old new → (k : Container) → is_entitled c old k ≡ true → is_entitled c new k ≡ true
entitled-extends c old new ext k h = go (is_guest k) (leaf_of old k.tenant k.app) refl h
  where
    go : (b : Bool) (o : Option Path) → leaf_of old k.tenant k.app ≡ o → cond b (takes_guests c k.id.label) (option_map_or (λ leaf. may_use c leaf k.id.label) o false) ≡ true →
        cond b (takes_guests c k.id.label) (option_map_or (λ leaf. may_use c leaf k.id.label) (leaf_of new k.tenant k.app) false) ≡ true
    go true o e h = h
    go false None e h = absurd (true≢false (sym h))
    go false (Some leaf) e h = ap (λ o. option_map_or (λ leaf. may_use c leaf k.id.label) o false) (ext k.tenant k.app (ap is_some e) ∙ e) ∙ h

-- what is asked for is for the home label or DEFAULT
asked-own : (label : Label) (app : Application) (asks : List AskRow) → list_any (λ ask. same_label ask.label label) asks ≡ true → AllByRecursion (λ ask. is_foreign ask.label app ≡ false) asks → is_foreign label app ≡ false
asked-own label app [] any own = absurd (true≢false (sym any))
asked-own label app (ask ∷ asks) any own = go (same_label ask.label label) refl any (λ rest. asked-own label app asks rest own.1)
  where
    go : (b : Bool) → same_label ask.label label ≡ b → (b || list_any (λ ask. same_label ask.label label) asks) ≡ true → (list_any (λ ask. same_label ask.label label) asks ≡ true → is_foreign label app ≡ false) → is_foreign label app ≡ false
    go true e any rest = ap (λ l. is_foreign l app) (sym (same-label_path ask.label label e)) ∙ own.0
    go false e any rest = rest any

-- a leaf may use what its application asks for at home
pub may-own : (c : Config) (app : Application) (label : Label) → may_use c app.leaf app.home ≡ true → is_foreign label app ≡ false → may_use c app.leaf label ≡ true
unfolding may_use
may-own c app Unlabelled may own = refl
may-own c app (Named name) may own = go (same_label app.home (Named name)) refl own
  where
    go : (b : Bool) → same_label app.home (Named name) ≡ b → not b ≡ false → may_use c app.leaf (Named name) ≡ true
    go true e k = ap (may_use c app.leaf) (sym (same-label_path app.home (Named name) e)) ∙ may
    go false e k = absurd (true≢false k)

-- a guest is wanted where guests come, and what is no guest where the leaf may use the partition
new-entitled : (c : Config) (leaves : List LeafApps) (p : Label) (app : Application) (what : What) → Fitting c app → IsFor c p app what → cond (is_guest_on p what) (takes_guests c p) (may_use c app.leaf p) ≡ true
new-entitled c leaves p app Master h for = ap (may_use c app.leaf) (sym for) ∙ h.0
new-entitled c leaves p app (Asked label priority) h for = go for.1
  where
    guest : (d n t : Bool) → (d && not n) ≡ t → label ≡ p → d ≡ is_default label → n ≡ is_default p → t ≡ false
    guest true true t e same f g = sym e
    guest false n t e same f g = sym e
    guest true false t e same f g = absurd (true≢false (f ∙ ap is_default same ∙ sym g))

    go : (label ≡ p) ⊎ ((is_default label ≡ true) × (takes_guests c p ≡ true)) → cond (is_default label && not (is_default p)) (takes_guests c p) (may_use c app.leaf p) ≡ true
    go (inl same) =
        ap (λ b. cond b (takes_guests c p) (may_use c app.leaf p)) (guest (is_default label) (is_default p) _ refl same refl refl)
        ∙ ap (may_use c app.leaf) (sym same) ∙ may-own c app label h.0 (asked-own label app app.asks for.0 h.1)
    go (inr k) = (λ i. cond (k.0 i && not (is_default p)) (takes_guests c p) (may_use c app.leaf p)) ∙ (λ i. cond ((and_parts (not (is_default p)) (not (is_exclusive c.labels p)) k.1).0 i) (takes_guests c p) (may_use c app.leaf p)) ∙ k.1

-- ---- what stays

pub record Entitled (c : Config) (s : State) : Type 0 where
  pub apps : AllFitting c s.leaves
  pub containers : (p : Label) → AllByRecursion (λ k. is_entitled c s.leaves k ≡ true) (on_in s.partitions p)

all-extended : (c : Config) (old new : List LeafApps) (containers : List Container) → Extends old new → AllByRecursion (λ k. is_entitled c old k ≡ true) containers → AllByRecursion (λ k. is_entitled c new k ≡ true) containers
all-extended c old new containers ext h = Each-weaker _ _ (λ k e. entitled-extends c old new ext k e) containers h

pub entitled-lasts : (c : Config) → Lasts (Entitled c) c
unfolding node_joins node_leaves end place changed_at container_of app_finishes
entitled-lasts c = record {
  joins = λ s name label size h. record { apps = h.apps; containers = λ p. each-in _ label p _ (λ row. refl) (λ row _ _ k. k) s.partitions (h.containers p) };
  leaves = λ s node h. record { apps = h.apps; containers = λ p. each-in _ node.label p _ (λ row. refl) (λ row _ _ k. Each-filter _ _ row.containers k) s.partitions (h.containers p) };
  ends = λ s container h. record { apps = h.apps; containers = λ p. each-in _ container.id.label p _ (λ row. refl) (λ row _ _ k. Each-filter _ _ row.containers k) s.partitions (h.containers p) };
  placed = λ s node item h kept finds known wanted. record {
    apps = Each-update (λ row. AllByRecursion (Fitting c) row.apps) (λ row. same_path row.leaf item.leaf) (with_app item.app (taken item.what))
        (λ row k. Each-update (Fitting c) (λ app. same_name app.name item.app) (taken item.what) (fitting-taken c item.what) row.apps k) s.leaves h.apps;
    containers = λ p. all-extended c s.leaves _ _ (leaf-extends item.leaf _ (with_app-names item.app (taken item.what)) s.leaves)
        (each-in (λ k. is_entitled c s.leaves k ≡ true) node.label p _ (λ row. refl) (λ row _ _ k. Each-append _ row.containers _ k (new s node.label item h.apps known wanted, tt)) s.partitions (h.containers p));
  };
  submits = λ s app h kept finds unused may none. record {
    apps = Each-update (λ row. AllByRecursion (Fitting c) row.apps) (λ row. same_path row.leaf app.leaf) (submitted app)
        (λ row k. Each-append (Fitting c) row.apps _ k ((may, subst (AllByRecursion (λ ask. is_foreign ask.label app ≡ false)) (sym none) tt), tt)) s.leaves h.apps;
    containers = λ p. all-extended c s.leaves _ (on_in s.partitions p) (submit-extends app s.leaves unused) (h.containers p);
  };
  asks = λ s tenant name found ask h finds e own. record {
    apps = all-asked c s tenant name found ask h.apps finds e own;
    containers = λ p. all-extended c s.leaves _ (on_in s.partitions p) (leaf-extends found.leaf _ (with_app-names name (set_ask ask)) s.leaves) (h.containers p);
  };
  finishes = λ s found h finds. record {
    apps = Each-update (λ row. AllByRecursion (Fitting c) row.apps) (λ row. same_path row.leaf found.leaf) (finished found.name) (λ row k. Each-filter (Fitting c) _ row.apps k) s.leaves h.apps;
    containers = λ p. all-extended c s.leaves _ _ (leaf-extends found.leaf _ (finished-names found.name) s.leaves)
        (all-ended c (λ q k. is_entitled c s.leaves k ≡ true) (all_own s (tenant_of found.leaf) found.name) s h.containers p);
  };
  elsewhere = λ s u nodes rows leaves h. record {
    apps = subst (AllFitting c) leaves h.apps;
    containers = λ p. subst (λ rows. AllByRecursion (λ k. is_entitled c u.leaves k ≡ true) (on_in rows p)) rows (subst (λ leaves. AllByRecursion (λ k. is_entitled c leaves k ≡ true) (on_in s.partitions p)) leaves (h.containers p));
  };
}
  where
    new : (s : State) (p : Label) (item : Item) → AllFitting c s.leaves → IsKnown s.leaves item.leaf item.app → IsWanted c s p item →
        cond (is_guest_on p item.what) (takes_guests c p) (option_map_or (λ leaf. may_use c leaf p) (leaf_of s.leaves (tenant_of item.leaf) item.app) false) ≡ true
    new s p item h known wanted =
        (λ i. cond (is_guest_on p item.what) (takes_guests c p) (option_map_or (λ leaf. may_use c leaf p) (known i) false))
        ∙ (λ i. cond (is_guest_on p item.what) (takes_guests c p) (may_use c (sym wanted.leaf i) p))
        ∙ new-entitled c s.leaves p wanted.app item.what (fitting-found c s.leaves h (tenant_of item.leaf) item.app wanted.app wanted.found) wanted.what

pub entitled-after : (c : Config) (events : List Event) → Entitled c (state_after c events)
entitled-after c events = lasting (Entitled c) c (entitled-lasts c) (record {
  apps = Each-map (λ (row : QueueRow). ⊤) (λ row. AllByRecursion (Fitting c) row.apps) _ (λ row _. tt) _ (Each-all (λ (row : QueueRow). ⊤) (λ row. tt) _);
  containers = λ p. opening-each _ c.labels p;
}) events

-- what holds of the applications of each row holds of all
pub all-apps : (P : Application → Type 0) (leaves : List LeafApps) → AllByRecursion (λ row. AllByRecursion P row.apps) leaves → AllByRecursion P (all_apps leaves)
all-apps P leaves h = Each-flat (λ row. AllByRecursion P row.apps) P (λ row. row.apps) (λ row k. k) leaves h

-- in each state
pub are_apps_in_their_leaves : AreAppsInTheirLeaves
are_apps_in_their_leaves c events = all-of _ _ (Each-weaker (λ row. AllByRecursion (IsFound (state_after c events).leaves row) row.apps) _
    (λ row k. all-of _ row.apps (Each-weaker (IsFound (state_after c events).leaves row) (λ app. app.leaf ≡ row.leaf) (λ app j. j.at) row.apps k)) (state_after c events).leaves (is_found c events))

pub may_leaves_use_homes : MayLeavesUseHomes
may_leaves_use_homes c events = all-of _ _ (Each-weaker (Fitting c) (λ app. may_use c app.leaf app.home ≡ true) (λ app k. k.0) _ (all-apps (Fitting c) _ (entitled-after c events).apps))

pub are_asks_for_home : AreAsksForHome
are_asks_for_home c events = all-of _ _ (Each-weaker (Fitting c) _ (λ app k. all-of (λ ask. is_foreign ask.label app ≡ false) app.asks k.1) _ (all-apps (Fitting c) _ (entitled-after c events).apps))

pub are_all_entitled : AreAllEntitled
are_all_entitled c events p = all-of _ _ ((entitled-after c events).containers p)
