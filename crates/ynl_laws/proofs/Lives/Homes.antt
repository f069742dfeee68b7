-- Masters stand on the home labels of their applications, and a finished application leaves no container.
use Rattle.std.proofs.Common.{◌≡◌, Bool, true, false, cond, not, ◌&&◌, ◌||◌, ◌==◌, List, [], ◌∷◌, ◌++◌, Option, Some, None, is_some, option_map, filter, find, refl, sym, ap, subst, ◌∙◌, arith}
use Rattle.std.specs.Prelude.{IfSome, flat_map}
use Rattle.std.specs.List.{AllByRecursion, list_any}
use Rattle.std.specs.Option.{option_map_or, option_and_then, option_or}
use Rattle.std.proofs.lemmas.Bool.Decides.{nat_tests}
use mathlib.Core.Bool.{true≢false}
use Rattle.ynl_resource.specs.declared.ids.Id.{Id}
use Rattle.ynl_resource.specs.Names.{same_name, same_label, same_path, same_id, tenant_of}
use Rattle.ynl_resource.specs.declared.names.Name.{Name}
use Rattle.ynl_resource.specs.declared.labels.Label.{Label}
use Rattle.ynl_resource.specs.declared.paths.Path.{Path}
use Rattle.ynl_model.specs.Nodes.{Labels}
use Rattle.ynl_model.specs.Queues.{Config}
use Rattle.ynl_model.specs.Applications.{Application, LeafApps, row_of, leaf_of, find_app, in_leaf, submitted, with_app, finished, set_ask}
use Rattle.ynl_model.specs.Cluster.{State, Partition, is_partition, in_partition, no_containers, is_master, is_master_what, is_of, of_app_that, containers_on}
use Rattle.ynl_model.specs.declared.containers.Placed.{Placed as Container}
use Rattle.ynl_model.specs.declared.proposals.What.{What}
use Rattle.ynl_model.specs.declared.proposals.What.TheVariants.{Master, Ask as Asked}
use Rattle.ynl_model.specs.Service.{Item}
use Rattle.ynl_model.specs.Changes.{node_joins, node_leaves, changed_at, container_of, taken, place, end, all_own, all_end, app_finishes}
use Rattle.ynl_model.specs.Events.{state_after}
use Rattle.ynl_model.specs.Promises.{IsAtHome, AreMastersAtHome}
use Rattle.ynl_laws.specs.Working.{on_in, KnowsAll}
use Rattle.ynl_laws.proofs.Events.Kept.{by-row, with_app-names, finished-names}
use Rattle.ynl_laws.proofs.Events.Changed.{taken-name}
use Rattle.ynl_laws.proofs.Soundness.Ordered.{opening-empty}
use Rattle.ynl_laws.proofs.Events.Found.{FindsAll, at-leaf, row-after, holds, test-stays}
use Rattle.ynl_laws.proofs.Events.Wanted.{IsFor, IsWanted}
use Rattle.ynl_laws.proofs.Events.Lasting.{Lasts, lasting}
use Rattle.ynl_laws.proofs.Lists.{Each-filter, Each-append, all-of, Each-kept, Each-weaker, Each-with, Each-found, found-passes, any-later, find-filter, find-through, find-updated}
use Rattle.ynl_laws.proofs.Logic.{not-true}
use Rattle.ynl_laws.proofs.Names.{same-path, same-name_sym, same-name_self, same-label_path, same-label_self}
use Rattle.std.proofs.lemmas.Bool.{and_from, and_parts, or_left, or_right}
use Rattle.std.proofs.lemmas.List.Folds.{find-append, list_any-append}

-- ---- homes

-- the home label of an application, by its tenant and name
abbrev pub home_in : List LeafApps → Name → Name → Option Label
home_in leaves tenant name = option_map (λ app. app.home) (find_app leaves tenant name)

-- the home label, by the row that was found
abbrev home_at : Name → Option LeafApps → Option Label
home_at name o = option_map (λ app. app.home) (option_and_then (λ row. find (λ app. same_name app.name name) row.apps) o)

-- a change of one application that keeps its name and its home
home-changed : (leaf : Path) (name : Name) (change : Application → Application) → ((app : Application) → (change app).name ≡ app.name) → ((app : Application) → (change app).home ≡ app.home) → (leaves : List LeafApps) (tenant other : Name) →
    home_in (in_leaf leaf (with_app name change) leaves) tenant other ≡ home_in leaves tenant other
unfolding find_app
home-changed leaf name change named homed leaves tenant other = ap (home_at other) (row-after leaf (with_app name change) (with_app-names name change) leaves tenant other) ∙ go (row_of leaves tenant other)
  where
    by : (row : LeafApps) (b : Bool) → option_map (λ app. app.home) (find (λ app. same_name app.name other) (cond b (with_app name change row) row).apps) ≡ option_map (λ app. app.home) (find (λ app. same_name app.name other) row.apps)
    by row true = find-updated (λ app. same_name app.name other) (λ app. same_name app.name name) (λ app. app.home) change (λ app _. ap (λ n. same_name n other) (named app)) homed row.apps
    by row false = refl

    go : (o : Option LeafApps) → home_at other (option_map (at-leaf leaf (with_app name change)) o) ≡ home_at other o
    go None = refl
    go (Some row) = by row (same_path row.leaf leaf)

-- a new application whose name was not used
home-submitted : (app : Application) (leaves : List LeafApps) → is_some (leaf_of leaves (tenant_of app.leaf) app.name) ≡ false → KnowsAll leaves leaves → FindsAll leaves → (tenant name : Name) (home : Label) →
    home_in leaves tenant name ≡ Some home → home_in (in_leaf app.leaf (submitted app) leaves) tenant name ≡ Some home
unfolding find_app leaf_of
home-submitted app leaves unused knows finds tenant name home h =
    ap (home_at name) (find-through (at-leaf app.leaf (submitted app)) (holds app leaves unused knows finds tenant name) (test-stays app leaves unused knows finds tenant name (used (row_of leaves tenant name) h)) leaves)
    ∙ go (row_of leaves tenant name) h
  where
    used : (o : Option LeafApps) → home_at name o ≡ Some home → is_some (option_map (λ row. row.leaf) o) ≡ true
    used None k = cc
    used (Some row) k = refl

    more : (row : LeafApps) (o : Option Application) → find (λ app. same_name app.name name) row.apps ≡ o → option_map (λ app. app.home) o ≡ Some home → option_map (λ app. app.home) (find (λ app. same_name app.name name) (row.apps ++ app ∷ [])) ≡ Some home
    more row None e k = cc
    more row (Some other) e k = ap (option_map (λ app. app.home)) (find-append _ row.apps (app ∷ []) ∙ ap (λ o. option_or o (find (λ app. same_name app.name name) (app ∷ []))) e) ∙ k

    by : (row : LeafApps) (b : Bool) → option_map (λ app. app.home) (find (λ app. same_name app.name name) row.apps) ≡ Some home → option_map (λ app. app.home) (find (λ app. same_name app.name name) (cond b (submitted app row) row).apps) ≡ Some home
    by row true k = more row (find (λ app. same_name app.name name) row.apps) refl k
    by row false k = k

    go : (o : Option LeafApps) → home_at name o ≡ Some home → home_at name (option_map (at-leaf app.leaf (submitted app)) o) ≡ Some home
    go None k = k
    go (Some row) k = by row (same_path row.leaf app.leaf) k

-- another application is finished
home-finished : (leaf : Path) (name : Name) (leaves : List LeafApps) (tenant other : Name) → (same_name tenant (tenant_of leaf) && same_name other name) ≡ false → home_in (in_leaf leaf (finished name) leaves) tenant other ≡ home_in leaves tenant other
unfolding find_app
home-finished leaf name leaves tenant other off =
    ap (home_at other) (row-after leaf (finished name) (finished-names name) leaves tenant other) ∙ go (row_of leaves tenant other) (found-passes (λ row. same_name (tenant_of row.leaf) tenant && list_any (same_name other) row.names) leaves)
  where
    away : (row : LeafApps) → same_name (tenant_of row.leaf) tenant ≡ true → same_path row.leaf leaf ≡ true → same_name other name ≡ false
    away row at here =
        let same : tenant ≡ tenant_of leaf = sym (same-name_sym (tenant_of row.leaf) tenant at) ∙ ap tenant_of (same-path row.leaf leaf here) in
        sym (ap (λ b. b && same_name other name) (ap (same_name tenant) (sym same) ∙ same-name_self tenant)) ∙ off

    by : (row : LeafApps) → same_name (tenant_of row.leaf) tenant ≡ true → (b : Bool) → same_path row.leaf leaf ≡ b →
        option_map (λ app. app.home) (find (λ app. same_name app.name other) (cond b (finished name row) row).apps) ≡ option_map (λ app. app.home) (find (λ app. same_name app.name other) row.apps)
    by row at true e = ap (option_map (λ app. app.home)) (find-filter (λ app. same_name app.name other) (λ app. not (same_name app.name name))
        (λ app k. ap not (ap (λ n. same_name n name) (same-name_sym app.name other k) ∙ away row at e)) row.apps)
    by row at false e = refl

    go : (o : Option LeafApps) → IfSome o (λ row. (same_name (tenant_of row.leaf) tenant && list_any (same_name other) row.names) ≡ true) → home_at other (option_map (at-leaf leaf (finished name)) o) ≡ home_at other o
    go None k = refl
    go (Some row) k = by row (and_parts _ _ k).0 (same_path row.leaf leaf) refl

-- ---- containers

-- what holds of each container on a partition after a change of one partition, by what held before
pub each-then : (P Q : Container → Type 0) (label p : Label) (change : Partition → Partition) → ((row : Partition) → (change row).label ≡ row.label) →
    ((row : Partition) → same_label row.label p ≡ true → same_label row.label label ≡ true → AllByRecursion P row.containers → AllByRecursion Q (change row).containers) →
    ((row : Partition) → same_label row.label p ≡ true → same_label row.label label ≡ false → AllByRecursion P row.containers → AllByRecursion Q row.containers) →
    (rows : List Partition) → AllByRecursion P (on_in rows p) → AllByRecursion Q (on_in (in_partition label change rows) p)
each-then P Q label p change keeps step stay rows h =
    by-row (λ a b. AllByRecursion P a → AllByRecursion Q b) (λ row. row.containers) [] label p change keeps rows (λ row _ at. go row at (same_label row.label label) refl) (λ k. k) h
  where
    go : (row : Partition) → same_label row.label p ≡ true → (b : Bool) → same_label row.label label ≡ b → AllByRecursion P row.containers → AllByRecursion Q (cond b (change row) row).containers
    go row at true e k = step row at e k
    go row at false e k = stay row at e k

-- what held of each and holds of each that is new
pub each-in : (P : Container → Type 0) (label p : Label) (change : Partition → Partition) → ((row : Partition) → (change row).label ≡ row.label) →
    ((row : Partition) → same_label row.label p ≡ true → same_label row.label label ≡ true → AllByRecursion P row.containers → AllByRecursion P (change row).containers) → (rows : List Partition) →
    AllByRecursion P (on_in rows p) → AllByRecursion P (on_in (in_partition label change rows) p)
each-in P label p change keeps step rows h = each-then P P label p change keeps step (λ row _ _ k. k) rows h

-- nothing stands anywhere at first
pub opening-each : (P : Container → Type 0) (labels : Labels) (p : Label) → AllByRecursion P (on_in (no_containers labels) p)
opening-each P labels p = go (find (is_partition p) (no_containers labels)) (Each-found _ (is_partition p) (no_containers labels) (opening-empty labels))
  where
    go : (o : Option Partition) → IfSome o (λ row. (row.clock ≡ 0) × (row.containers ≡ [])) → AllByRecursion P (option_map_or (λ row. row.containers) o [])
    go None h = tt
    go (Some row) h = subst (AllByRecursion P) (sym h.1) tt

-- a master's application is live, and the container's label is its home
abbrev pub AtHome : List LeafApps → Container → Type 0
AtHome leaves container = is_master container ≡ true → home_in leaves container.tenant container.app ≡ Some container.id.label

-- each container on a partition has its label, and masters are at home
abbrev pub Homely : List LeafApps → List Partition → Type 0
Homely leaves rows = (p : Label) → AllByRecursion (λ container. (container.id.label ≡ p) × AtHome leaves container) (on_in rows p)

-- ---- all containers of an application end

module _ (c : Config) (tenant name : Name) where
  -- a container has the partition's label, and if it is the application's its id is on the list
  abbrev IsListed : List Container → Label → Container → Type 0
  IsListed list p k = (k.id.label ≡ p) × (is_of tenant name k ≡ true → list_any (λ other. same_id k.id other.id) list ≡ true)

  abbrev Listed : List Container → List Partition → Type 0
  Listed list rows = (p : Label) → AllByRecursion (IsListed list p) (on_in rows p)

  listed-end : (container : Container) (list : List Container) (s : State) → Listed (container ∷ list) s.partitions → Listed list (end c s container).partitions
  unfolding end changed_at
  listed-end container list s h p =
      each-then (IsListed (container ∷ list) p) (IsListed list p) container.id.label p _ (λ row. refl)
      (λ row _ _ k. Each-kept (IsListed list p) (λ other. not (same_id other.id container.id)) row.containers (Each-weaker _ _ (λ x j kept. (j.0, λ of. rest x (not-true _ kept) (j.1 of))) row.containers k))
      (λ row at off k. Each-weaker _ (IsListed list p) (λ x j. (
        j.0,
        λ of. rest x
            (ap (λ b. b && (x.id.clock == container.id.clock)) (ap (λ l. same_label l container.id.label) (j.0 ∙ sym (same-label_path row.label p at)) ∙ off)) (j.1 of),
      )) row.containers k)
      s.partitions (h p)
    where
      rest : (k : Container) → same_id k.id container.id ≡ false → list_any (λ other. same_id k.id other.id) (container ∷ list) ≡ true → list_any (λ other. same_id k.id other.id) list ≡ true
      rest k off e = sym (ap (λ b. b || list_any (λ other. same_id k.id other.id) list) off) ∙ e

  listed-all : (list : List Container) (s : State) → Listed list s.partitions → Listed [] (all_end c list s).partitions
  listed-all [] s h = h
  listed-all (container ∷ list) s h = listed-all list (end c s container) (listed-end container list s h)

  -- at first all its containers are on the list
  in-own : (own : List Container) → AllByRecursion (λ k. is_of tenant name k ≡ true → list_any (λ other. same_id k.id other.id) (filter (is_of tenant name) own) ≡ true) own
  in-own [] = tt
  in-own (x ∷ own) = (
    λ of. ap (λ b. list_any (λ other. same_id x.id other.id) (cond b (x ∷ filter (is_of tenant name) own) (filter (is_of tenant name) own))) of ∙ ap (λ b. b || list_any (λ other. same_id x.id other.id) (filter (is_of tenant name) own)) (self x.id),
    Each-weaker _ _ (λ k j of. more k (is_of tenant name x) (j of)) own (in-own own),
  )
    where
      self : (id : Id) → same_id id id ≡ true
      self id = and_from _ _ (same-label_self id.label) (grind (arith, nat_tests))

      more : (k : Container) (b : Bool) → list_any (λ other. same_id k.id other.id) (filter (is_of tenant name) own) ≡ true → list_any (λ other. same_id k.id other.id) (cond b (x ∷ filter (is_of tenant name) own) (filter (is_of tenant name) own)) ≡ true
      more k true e = any-later (λ other. same_id k.id other.id) x (filter (is_of tenant name) own) e
      more k false e = e

  pub in-rows : (rows : List Partition) → AllByRecursion (λ row. AllByRecursion (λ k. is_of tenant name k ≡ true → list_any (λ other. same_id k.id other.id) (flat_map (λ row. filter (is_of tenant name) row.containers) rows) ≡ true) row.containers) rows
  in-rows [] = tt
  in-rows (row ∷ rows) = (
    Each-weaker _ _ (λ k j of. list_any-append _ (filter (is_of tenant name) row.containers) _ ∙ or_left _ _ (j of)) row.containers (in-own row.containers),
    Each-weaker _ _ (λ other. Each-weaker _ _ (λ k j of. list_any-append _ (filter (is_of tenant name) row.containers) _ ∙ or_right _ _ (j of)) other.containers) rows (in-rows rows),
  )

  listed-own : (s : State) → ((p : Label) → AllByRecursion (λ k. k.id.label ≡ p) (on_in s.partitions p)) → Listed (all_own s tenant name) s.partitions
  listed-own s own p = Each-with _ _ (IsListed (all_own s tenant name) p) (λ k label of. (label, of)) (on_in s.partitions p) (own p)
      (go (find (is_partition p) s.partitions) (Each-found _ (is_partition p) s.partitions (in-rows s.partitions)))
    where
      go : (o : Option Partition) → IfSome o (λ row. AllByRecursion (λ k. is_of tenant name k ≡ true → list_any (λ other. same_id k.id other.id) (all_own s tenant name) ≡ true) row.containers) →
          AllByRecursion (λ k. is_of tenant name k ≡ true → list_any (λ other. same_id k.id other.id) (all_own s tenant name) ≡ true) (option_map_or (λ row. row.containers) o [])
      go None h = tt
      go (Some row) h = h

  -- none is left
  pub none-left : (s : State) → ((p : Label) → AllByRecursion (λ k. k.id.label ≡ p) (on_in s.partitions p)) → (p : Label) → AllByRecursion (λ k. is_of tenant name k ≡ false) (on_in (all_end c (all_own s tenant name) s).partitions p)
  none-left s own p = Each-weaker (IsListed [] p) _ (λ k j. go k (is_of tenant name k) refl j.1) (on_in (all_end c (all_own s tenant name) s).partitions p) (listed-all (all_own s tenant name) s (listed-own s own) p)
    where
      go : (k : Container) (b : Bool) → is_of tenant name k ≡ b → (is_of tenant name k ≡ true → false ≡ true) → is_of tenant name k ≡ false
      go k true e j = absurd (true≢false (sym (j e)))
      go k false e j = e

-- ---- what stays

-- what holds of each container stays where containers end
pub all-ended : (c : Config) (P : Label → Container → Type 0) (list : List Container) (s : State) → ((p : Label) → AllByRecursion (P p) (on_in s.partitions p)) → (p : Label) → AllByRecursion (P p) (on_in (all_end c list s).partitions p)
unfolding end changed_at
all-ended c P [] s h p = h p
all-ended c P (container ∷ list) s h p =
    all-ended c P list (end c s container) (λ q. each-in (P q) container.id.label q _ (λ row. refl) (λ row _ _ k. Each-filter (P q) _ row.containers k) s.partitions (h q)) p

homely-leaves : (old new : List LeafApps) (rows : List Partition) → ((tenant name : Name) (home : Label) → home_in old tenant name ≡ Some home → home_in new tenant name ≡ Some home) → Homely old rows → Homely new rows
homely-leaves old new rows same h p = Each-weaker _ _ (λ k j. (j.0, λ master. same k.tenant k.app k.id.label (j.1 master))) (on_in rows p) (h p)

taken-home : (what : What) (app : Application) → (taken what app).home ≡ app.home
taken-home Master app = refl
taken-home (Asked label priority) app = refl

pub homely-lasts : (c : Config) → Lasts (λ s. Homely s.leaves s.partitions) c
unfolding node_joins node_leaves end place changed_at container_of app_finishes
homely-lasts c = record {
  joins = λ s name label size h p. each-in _ label p _ (λ row. refl) (λ row _ _ k. k) s.partitions (h p);
  leaves = λ s node h p. each-in _ node.label p _ (λ row. refl) (λ row _ _ k. Each-filter _ _ row.containers k) s.partitions (h p);
  ends = λ s container h p. each-in _ container.id.label p _ (λ row. refl) (λ row _ _ k. Each-filter _ _ row.containers k) s.partitions (h p);
  placed = λ s node item h kept finds known wanted.
      homely-leaves s.leaves (in_leaf item.leaf (with_app item.app (taken item.what)) s.leaves) _
      (λ tenant name home e. home-changed item.leaf item.app (taken item.what) (taken-name item.what) (taken-home item.what) s.leaves tenant name ∙ e)
      (λ p. each-in (λ k. (k.id.label ≡ p) × AtHome s.leaves k) node.label p _ (λ row. refl)
      (λ row at here k. Each-append _ row.containers _ k ((sym (same-label_path row.label node.label here) ∙ same-label_path row.label p at, new s node.label item wanted), tt)) s.partitions (h p));
  submits = λ s app h kept finds unused may none. homely-leaves s.leaves _ s.partitions (home-submitted app s.leaves unused kept.apps finds) h;
  asks = λ s tenant name found ask h finds e own. homely-leaves s.leaves _ s.partitions (λ t n home k. home-changed found.leaf name (set_ask ask) (λ app. refl) (λ app. refl) s.leaves t n ∙ k) h;
  finishes = λ s found h finds p. Each-with _ _ _
      (λ k j off. (j.0, λ master. home-finished found.leaf found.name s.leaves k.tenant k.app off ∙ j.1 master)) _
      (all-ended c (λ q k. (k.id.label ≡ q) × AtHome s.leaves k) (all_own s (tenant_of found.leaf) found.name) s h p)
      (none-left c (tenant_of found.leaf) found.name s (λ q. Each-weaker _ _ (λ k j. j.0) (on_in s.partitions q) (h q)) p);
  elsewhere = λ s u nodes rows leaves h. subst (λ rows. Homely u.leaves rows) rows (subst (λ leaves. Homely leaves s.partitions) leaves h);
}
  where
    new : (s : State) (p : Label) (item : Item) → IsWanted c s p item → is_master_what item.what ≡ true → home_in s.leaves (tenant_of item.leaf) item.app ≡ Some p
    new s p item wanted master = ap (option_map (λ app. app.home)) wanted.found ∙ ap (λ l. Some l) (go item.what wanted.what master)
      where
        go : (what : What) → IsFor c p wanted.app what → is_master_what what ≡ true → wanted.app.home ≡ p
        go Master k e = k
        go (Asked label priority) k e = absurd (true≢false (sym e))

-- in each state masters stand at home
pub are_masters_at_home : AreMastersAtHome
are_masters_at_home c events p = all-of (IsAtHome s) (containers_on s p) (Each-weaker _ _ (λ k j. go k (is_master k) refl j.1) (containers_on s p) (lasting _ c (homely-lasts c) (λ p. opening-each _ c.labels p) events p))
  where
    s : State
    s = state_after c events

    home : (k : Container) (o : Option Application) → option_map (λ app. app.home) o ≡ Some k.id.label → option_map_or (λ app. same_label app.home k.id.label) o false ≡ true
    home k None e = cc
    home k (Some app) e = ap (λ o. option_map_or (λ l. same_label l k.id.label) o false) e ∙ same-label_self k.id.label

    go : (k : Container) (b : Bool) → is_master k ≡ b → AtHome s.leaves k → IsAtHome s k
    go k false e h = ap (λ b. not b || of_app_that (λ app. same_label app.home k.id.label) s.leaves k) e
    go k true e h = ap (λ b. not b || of_app_that (λ app. same_label app.home k.id.label) s.leaves k) e ∙ home k (find_app s.leaves k.tenant k.app) (h e)
