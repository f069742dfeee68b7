-- What is known of all asks for a partition while the cluster changes.
use Rattle.std.proofs.Common.{◌≡◌, ◌⊎◌, Bool, true, false, not, ◌&&◌, ◌==◌, cond, List, [], ◌∷◌, ◌++◌, map, filter, Contains, inl, inr, refl, sym, ap, subst, ◌∙◌, true≢false}
use Rattle.std.specs.Prelude.{nat_lt}
use Rattle.std.specs.List.{AllByRecursion, list_any}
use Rattle.std.proofs.lemmas.Bool.{and_parts}
use Rattle.std.proofs.lemmas.Option.{same_Some}
use Rattle.ynl_resource.specs.Names.{same_id, same_label, same_name, same_path, tenant_of}
use Rattle.ynl_resource.specs.Tables.{put, update, without}
use Rattle.ynl_resource.specs.declared.labels.Label.{Label}
use Rattle.ynl_resource.specs.declared.names.Name.{Name}
use Rattle.ynl_resource.specs.declared.paths.Path.{Path}
use Rattle.ynl_model.specs.declared.applications.AskRow.{AskRow}
use Rattle.ynl_model.specs.declared.containers.Placed.{Placed as Container}
use Rattle.ynl_model.specs.declared.nodes.Node.{Node}
use Rattle.ynl_model.specs.declared.proposals.What.{What}
use Rattle.ynl_model.specs.declared.proposals.What.TheVariants.{Master, Ask as Asked}
use Rattle.ynl_model.specs.Queues.{Config}
use Rattle.ynl_model.specs.Applications.{Application, LeafApps, all_apps, finished, in_leaf, is_ask_of, leaf_of, set_ask, submitted, with_app}
use Rattle.ynl_model.specs.Cluster.{State, containers_on, is_master, is_master_what, is_of, runs}
use Rattle.ynl_model.specs.Service.{Item, ask_item, asks_for, asks_of}
use Rattle.ynl_model.specs.Changes.{app_finishes, changed_at, container_of, end, place, taken}
use Rattle.ynl_laws.specs.Tabled.{IsFoundIn, Tabled}
use Rattle.ynl_laws.specs.Working.{IsKnown, IsOrdered, Kept, has_row}
use Rattle.ynl_laws.proofs.Lists.{Each-filter, Each-flat, Each-kept, Each-map, Each-put, Each-unkept, Each-unmap, Each-weaker, Each-with, any-other, each-contained}
use Rattle.ynl_laws.proofs.Names.{same-name_sym, same-path}
use Rattle.ynl_laws.proofs.Totals.Elsewhere.{Each-unflat, any-left, asks-taken}
use Rattle.ynl_laws.proofs.Totals.Marks.{on-finish}
use Rattle.ynl_laws.proofs.Totals.Placing.{on-end, on-place}
use Rattle.ynl_cluster.proofs.requests.Members.{among-contained, each-among}

-- ---- all asks for a partition, application by application

module _ (P : Item → Type 0) (label : Label) where
  -- what holds of each ask of an application that runs
  abbrev AskHold : State → Application → Type 0
  AskHold s app = runs s app ≡ true → AllByRecursion P (asks_of label app)

  abbrev RowHold : State → LeafApps → Type 0
  RowHold s row = AllByRecursion (AskHold s) row.apps

  abbrev pub AllHold : State → Type 0
  AllHold s = AllByRecursion (RowHold s) s.leaves

  pub hold-to : (s : State) → AllByRecursion P (asks_for s label) → AllHold s
  unfolding asks_for
  hold-to s h =
      Each-unflat (AskHold s) (λ (row : LeafApps). row.apps) s.leaves
      (Each-unkept (λ app. AllByRecursion P (asks_of label app)) (runs s) (all_apps s.leaves) (Each-unflat P (asks_of label) (filter (runs s) (all_apps s.leaves)) h))

  pub hold-from : (s : State) → AllHold s → AllByRecursion P (asks_for s label)
  unfolding asks_for
  hold-from s h =
      Each-flat (λ app. AllByRecursion P (asks_of label app)) P (asks_of label) (λ app k. k) (filter (runs s) (all_apps s.leaves))
      (Each-kept (λ app. AllByRecursion P (asks_of label app)) (runs s) (all_apps s.leaves) (Each-flat (RowHold s) (AskHold s) (λ (row : LeafApps). row.apps) (λ row k. k) s.leaves h))

  -- where each application that runs did so before, or what it asks for is known otherwise
  runs-on : (s t : State) → ((row : LeafApps) → Contains s.leaves row → (app : Application) → Contains row.apps app → runs t app ≡ true → (runs s app ≡ true) ⊎ AllByRecursion P (asks_of label app))
      → AllHold s → AllByRecursion (RowHold t) s.leaves
  runs-on s t on h =
      Each-with (Contains s.leaves) (RowHold s) (RowHold t)
      (λ row there held.
      Each-with (Contains row.apps) (AskHold s) (AskHold t) (λ app own its run. go app its (on row there app own run)) row.apps (each-contained row.apps) held)
      s.leaves (each-contained s.leaves) h
    where
      go : (app : Application) → AskHold s app → (runs s app ≡ true) ⊎ AllByRecursion P (asks_of label app) → AllByRecursion P (asks_of label app)
      go app its (inl run) = its run
      go app its (inr known) = known

  -- the applications of a leaf change
  leaf-changes : (t : State) (leaf : Path) (change : LeafApps → LeafApps) (leaves : List LeafApps)
      → ((row : LeafApps) → Contains leaves row → same_path row.leaf leaf ≡ true → RowHold t row → RowHold t (change row))
      → AllByRecursion (RowHold t) leaves → AllByRecursion (RowHold t) (in_leaf leaf change leaves)
  leaf-changes t leaf change leaves keeps h =
      Each-map (λ row. RowHold t row × (same_path row.leaf leaf ≡ true → RowHold t (change row))) (RowHold t) (λ row. cond (same_path row.leaf leaf) (change row) row)
      (λ row k. go row (same_path row.leaf leaf) k.1 k.0) leaves
      (Each-with (Contains leaves) (RowHold t) (λ row. RowHold t row × (same_path row.leaf leaf ≡ true → RowHold t (change row))) (λ row there k. (k, λ same. keeps row there same k)) leaves (each-contained leaves) h)
    where
      go : (row : LeafApps) (b : Bool) → (b ≡ true → RowHold t (change row)) → RowHold t row → RowHold t (cond b (change row) row)
      go row true changed as-it-was = changed refl
      go row false changed as-it-was = as-it-was

  -- one application does
  app-changes : (t : State) (name : Name) (change : Application → Application) (apps : List Application)
      → ((app : Application) → Contains apps app → AskHold t app → AskHold t (change app)) → AllByRecursion (AskHold t) apps → AllByRecursion (AskHold t) (update (λ app. same_name app.name name) change apps)
  app-changes t name change apps keeps h =
      Each-map (λ app. AskHold t app × AskHold t (change app)) (AskHold t) (λ app. cond (same_name app.name name) (change app) app)
      (λ app k. go app (same_name app.name name) k.1 k.0) apps
      (Each-with (Contains apps) (AskHold t) (λ app. AskHold t app × AskHold t (change app)) (λ app there k. (k, keeps app there k)) apps (each-contained apps) h)
    where
      go : (app : Application) (b : Bool) → AskHold t (change app) → AskHold t app → AskHold t (cond b (change app) app)
      go app true changed as-it-was = changed
      go app false changed as-it-was = as-it-was

-- ---- where none starts

pub hold-fewer : (P : Item → Type 0) (label : Label) (s t : State) → t.leaves ≡ s.leaves → ((app : Application) → runs t app ≡ true → runs s app ≡ true) → AllHold P label s → AllHold P label t
hold-fewer P label s t leaves fewer h = subst (AllByRecursion (RowHold P label t)) (sym leaves) (runs-on P label s t (λ row rows app own run. inl (fewer app run)) h)

-- ---- placing

-- of one more and others one passes, or that one does
any-more : {X : Type 0} (q : X → Bool) (xs : List X) (x : X) → list_any q (xs ++ x ∷ []) ≡ true → (list_any q xs ≡ true) ⊎ (q x ≡ true)
any-more q xs x h = go (q x) refl
  where
    go : (b : Bool) → q x ≡ b → (list_any q xs ≡ true) ⊎ (q x ≡ true)
    go true e = inr e
    go false e = inl (sym (any-other q xs x e) ∙ h)

module _ (P : Item → Type 0) (label : Label) (c : Config) (s : State) (node : Node) (item : Item) where
  abbrev placed : State
  placed = place c node item s

  abbrev new : Container
  new = container_of c s node item

  abbrev is_its_master : Application → Container → Bool
  is_its_master app k = is_master k && is_of (tenant_of app.leaf) app.name k

  runs-placed : has_row s.partitions node.label ≡ true → (app : Application) → runs placed app ≡ true → (runs s app ≡ true) ⊎ (is_its_master app new ≡ true)
  unfolding runs
  runs-placed there app run = go (same_label node.label app.home) (sym (ap (list_any (is_its_master app)) (on-place c node item s there app.home)) ∙ run)
    where
      go : (b : Bool) → list_any (is_its_master app) (cond b (containers_on s app.home ++ new ∷ []) (containers_on s app.home)) ≡ true → (list_any (is_its_master app) (containers_on s app.home) ≡ true) ⊎ (is_its_master app new ≡ true)
      go false e = inl e
      go true e = any-more (is_its_master app) (containers_on s app.home) new e

  -- the leaves are those before, where one less may be asked for
  hold-taken : AllByRecursion (RowHold P label placed) s.leaves → AllHold P label placed
  unfolding place runs
  hold-taken h =
      leaf-changes P label placed item.leaf (with_app item.app (taken item.what)) s.leaves
      (λ row there same k. app-changes P label placed item.app (taken item.what) row.apps (λ app own its. lowered item.what app its) k) h
    where
      lowered : (what : What) (app : Application) → AskHold P label placed app → AskHold P label placed (taken what app)
      lowered Master app its = its
      lowered (Asked other priority) app its = λ run. asks-taken P label (Asked other priority) app (its run)

  -- what is asked for is placed
  pub hold-placing : has_row s.partitions node.label ≡ true → is_master_what item.what ≡ false → AllHold P label s → AllHold P label placed
  unfolding container_of
  hold-placing there asked h =
      hold-taken (runs-on P label s placed (λ row rows app own run. go app (runs-placed there app run)) h)
    where
      go : (app : Application) → (runs s app ≡ true) ⊎ (is_its_master app new ≡ true) → (runs s app ≡ true) ⊎ AllByRecursion P (asks_of label app)
      go app (inl run) = inl run
      go app (inr is) = absurd (true≢false (sym (and_parts (is_master new) (is_of (tenant_of app.leaf) app.name new) is).0 ∙ asked))

  -- a master is placed, and what the application of a leaf asks for is known
  pub hold-beginning : has_row s.partitions node.label ≡ true → Kept s → IsKnown s.leaves item.leaf item.app → ((app : Application) → app.leaf ≡ item.leaf → AllByRecursion P (asks_of label app))
      → AllHold P label s → AllHold P label placed
  unfolding container_of
  hold-beginning there kept known own h =
      hold-taken (runs-on P label s placed (λ row rows app among run. go app (its-known row rows app among) (runs-placed there app run)) h)
    where
      its-known : (row : LeafApps) → Contains s.leaves row → (app : Application) → Contains row.apps app → IsKnown s.leaves app.leaf app.name
      its-known row rows app among =
          each-among (λ app. IsKnown s.leaves app.leaf app.name) app row.apps
          (each-among (λ row. AllByRecursion (λ app. IsKnown s.leaves app.leaf app.name) row.apps) row s.leaves kept.apps (among-contained row s.leaves rows)) (among-contained app row.apps among)

      go : (app : Application) → IsKnown s.leaves app.leaf app.name → (runs s app ≡ true) ⊎ (is_its_master app new ≡ true) → (runs s app ≡ true) ⊎ AllByRecursion P (asks_of label app)
      go app found (inl run) = inl run
      go app found (inr is) =
          let parts = and_parts (same_name new.tenant (tenant_of app.leaf)) (same_name new.app app.name) (and_parts (is_master new) (is_of (tenant_of app.leaf) app.name new) is).1 in
          inr (own app (same_Some app.leaf item.leaf (sym found ∙ (λ i. leaf_of s.leaves (sym (same-name_sym new.tenant (tenant_of app.leaf) parts.0) i) (sym (same-name_sym new.app app.name parts.1) i)) ∙ known)))

-- ---- ending

pub hold-ending : (P : Item → Type 0) (label : Label) (c : Config) (s : State) (k : Container) → has_row s.partitions k.id.label ≡ true → AllHold P label s → AllHold P label (end c s k)
unfolding end changed_at runs
hold-ending P label c s k there h = runs-on P label s (end c s k) (λ row rows app own run. inl (go app (same_label k.id.label app.home) (sym (ap (list_any (its app)) (on-end c s k there app.home)) ∙ run))) h
  where
    its : Application → Container → Bool
    its app k = is_master k && is_of (tenant_of app.leaf) app.name k

    go : (app : Application) (b : Bool) → list_any (its app) (cond b (without (λ x. same_id x.id k.id) (containers_on s app.home)) (containers_on s app.home)) ≡ true → list_any (its app) (containers_on s app.home) ≡ true
    go app true e = any-left (its app) (λ x. not (same_id x.id k.id)) (containers_on s app.home) e
    go app false e = e

-- ---- applications

-- one that asks for nothing is submitted
pub hold-submitting : (P : Item → Type 0) (label : Label) (s : State) (app : Application) → app.asks ≡ [] → AllHold P label s → AllHold P label (record s { leaves = in_leaf app.leaf (submitted app) s.leaves })
unfolding runs
hold-submitting P label s app none h =
    leaf-changes P label t app.leaf (submitted app) s.leaves (λ row there same k. one-more row.apps k) (Each-weaker (RowHold P label s) (RowHold P label t) (λ row k. Each-weaker (AskHold P label s) (AskHold P label t) (λ app held. held) row.apps k) s.leaves h)
  where
    t : State
    t = record s { leaves = in_leaf app.leaf (submitted app) s.leaves }

    own : AskHold P label t app
    own run = subst (λ asks. AllByRecursion P (map (ask_item app) (filter (λ ask. same_label ask.label label && nat_lt 0 ask.count) asks))) (sym none) tt

    one-more : (apps : List Application) → AllByRecursion (AskHold P label t) apps → AllByRecursion (AskHold P label t) (apps ++ app ∷ [])
    one-more [] k = (own, tt)
    one-more (x ∷ apps) k = (k.0, one-more apps k.1)

module _ (P : Item → Type 0) (label : Label) (s : State) (leaf : Path) (name : Name) (ask : AskRow) where
  abbrev asking : State
  asking = record s { leaves = in_leaf leaf (with_app name (set_ask ask)) s.leaves }

  abbrev is_asked : AskRow → Bool
  is_asked ask = same_label ask.label label && nat_lt 0 ask.count

  -- one asks, and what is known of it is known of that
  asks-set : (app : Application) → (is_asked ask ≡ true → P (ask_item app ask)) → AllByRecursion P (asks_of label app) → AllByRecursion P (asks_of label (set_ask ask app))
  asks-set app new h = Each-map (λ ask. P (ask_item app ask)) P (ask_item app) (λ ask k. k) _ (Each-kept (λ ask. P (ask_item app ask)) is_asked _ (go (ask.count == 0)))
    where
      same : AskRow → Bool
      same = is_ask_of ask.label ask.priority

      held : AllByRecursion (λ ask. is_asked ask ≡ true → P (ask_item app ask)) app.asks
      held = Each-unkept (λ ask. P (ask_item app ask)) is_asked app.asks (Each-unmap (ask_item app) P _ h)

      go : (b : Bool) → AllByRecursion (λ ask. is_asked ask ≡ true → P (ask_item app ask)) (cond b (without same app.asks) (put same ask app.asks))
      go true = Each-filter (λ ask. is_asked ask ≡ true → P (ask_item app ask)) (λ ask. not (same ask)) app.asks held
      go false = Each-put (λ ask. is_asked ask ≡ true → P (ask_item app ask)) same ask new app.asks held

  pub hold-asking : Tabled s → (is_asked ask ≡ true → (app : Application) → app.leaf ≡ leaf → P (ask_item app ask)) → AllHold P label s → AllHold P label asking
  unfolding runs
  hold-asking tabled new h =
      leaf-changes P label asking leaf (with_app name (set_ask ask)) s.leaves
      (λ row there same k.
      app-changes P label asking name (set_ask ask) row.apps
      (λ app own its run. asks-set app (λ wanted. new wanted app (at row there app own ∙ same-path row.leaf leaf same)) (its run)) k)
      (Each-weaker (RowHold P label s) (RowHold P label asking) (λ row k. Each-weaker (AskHold P label s) (AskHold P label asking) (λ app held. held) row.apps k) s.leaves h)
    where
      at : (row : LeafApps) → Contains s.leaves row → (app : Application) → Contains row.apps app → app.leaf ≡ row.leaf
      at row there app own =
          (each-among (IsFoundIn s.leaves row) app row.apps (each-among (λ row. AllByRecursion (IsFoundIn s.leaves row) row.apps) row s.leaves tabled.finds (among-contained row s.leaves there)) (among-contained app row.apps own)).at

pub hold-finishing : (P : Item → Type 0) (label : Label) (c : Config) (s : State) (found : Application) → IsOrdered c s → AllHold P label s → AllHold P label (app_finishes c found s)
unfolding app_finishes runs
hold-finishing P label c s found ordered h =
    leaf-changes P label t found.leaf (finished found.name) s.leaves (λ row there same k. Each-filter (AskHold P label t) (λ app. not (same_name app.name found.name)) row.apps k)
    (runs-on P label s t (λ row rows app own run. inl (any-left (its app) (λ k. not (is_of (tenant_of found.leaf) found.name k)) (containers_on s app.home) (sym (ap (list_any (its app)) (on-finish c s found ordered app.home)) ∙ run))) h)
  where
    t : State
    t = app_finishes c found s

    its : Application → Container → Bool
    its app k = is_master k && is_of (tenant_of app.leaf) app.name k

-- ---- a leaf

-- what holds of all requests of a leaf holds of what its applications ask for
pub asks-of-leaf : (P : Item → Type 0) (leaf : Path) (label : Label) (app : Application) → ((item : Item) → item.leaf ≡ leaf → P item) → app.leaf ≡ leaf → AllByRecursion P (asks_of label app)
asks-of-leaf P leaf label app own at =
    Each-map (λ (ask : AskRow). P (ask_item app ask)) P (ask_item app) (λ ask k. k) (filter (λ ask. same_label ask.label label && nat_lt 0 ask.count) app.asks)
    (each (filter (λ ask. same_label ask.label label && nat_lt 0 ask.count) app.asks))
  where
    each : (asks : List AskRow) → AllByRecursion (λ (ask : AskRow). P (ask_item app ask)) asks
    each [] = tt
    each (ask ∷ asks) = (own (ask_item app ask) at, each asks)
