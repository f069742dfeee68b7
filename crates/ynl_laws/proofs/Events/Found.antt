-- Each live application is what its tenant and name find.
use Rattle.std.proofs.Common.{◌≡◌, Bool, true, false, cond, not, ◌&&◌, List, [], ◌∷◌, ◌++◌, Option, Some, None, is_some, option_map, filter, find, refl, sym, ap, subst, ◌∙◌}
use Rattle.std.specs.Prelude.{⊤, IfSome, if◌then◌else◌}
use Rattle.std.specs.List.{AllByRecursion, list_any}
use Rattle.std.specs.Option.{option_and_then, option_or}
use Rattle.std.specs.Cmp.Lexicographic.{pointwise_decides, bytes_decides}
use mathlib.Core.Bool.{true≢false}
use Rattle.ynl_resource.specs.Names.{same_name, same_path, tenant_of}
use Rattle.ynl_resource.specs.declared.names.Name.{Name}
use Rattle.ynl_resource.specs.declared.paths.Path.{Path}
use Rattle.ynl_resource.specs.Refusals.{first_that_holds}
use Rattle.ynl_model.specs.declared.nodes.Node.{Node}
use Rattle.ynl_model.specs.Queues.{Config, QueueRow, is_leaf}
use Rattle.ynl_model.specs.Applications.{Application, LeafApps, no_apps, row_of, leaf_of, find_app, in_leaf, submitted, with_app, finished, new_app, set_ask, all_apps}
use Rattle.ynl_model.specs.Cluster.{State, node_of, opening}
use Rattle.ynl_model.specs.Service.{Item}
use Rattle.ynl_model.specs.Changes.{node_joins, node_leaves, changed_at, taken, place, end, app_finishes}
use Rattle.ynl_model.specs.Check.{proposed_item}
use Rattle.ynl_model.specs.Events.{container_at, container_for, home_of, accepted, reasons, step, after, state_after}
use Rattle.ynl_model.specs.declared.events.Event.{Event}
use Rattle.ynl_model.specs.declared.events.Event.TheVariants.{Register, Lost, Relabel, Heartbeat, Exited, Submit, Ask, Release, Finish, Stop, Start, Poll, Usage, Propose, Commit, Maximum}
use Rattle.ynl_laws.specs.Found.{FindsItself}
use Rattle.ynl_laws.specs.Working.{IsKnown, KnowsAll, Kept}
use Rattle.ynl_laws.proofs.Events.Kept.{KeepsNames, with_app-names, finished-names, submit-finds}
use Rattle.ynl_laws.proofs.Events.Chosen.{none-holds}
use Rattle.ynl_laws.proofs.Events.Changed.{taken-leaf, taken-name, kept-place, beat-keeps, step-keeps, kept-opening}
use Rattle.ynl_laws.proofs.Events.Outcomes.{step-cases, there}
use Rattle.ynl_laws.proofs.Lists.{Each-append, Each-map, Each-all, Each-flat, Each-kept, Each-weaker, Each-with, Each-find, Each-found, any-other, find-filter, find-append_none, find-through, find-nothing, update-none}
use Rattle.ynl_laws.proofs.Logic.{some-same}
use Rattle.ynl_laws.proofs.Names.{same-path, same-name_sym, same-name_self}
use Rattle.std.proofs.lemmas.List.Folds.{find-append}

pub record IsFound (leaves : List LeafApps) (row : LeafApps) (app : Application) : Type 0 where
  pub at : app.leaf ≡ row.leaf
  pub itself : find_app leaves (tenant_of app.leaf) app.name ≡ Some app

abbrev pub FindsAll : List LeafApps → Type 0
FindsAll leaves = AllByRecursion (λ row. AllByRecursion (IsFound leaves row) row.apps) leaves

-- a row after a change of one leaf
abbrev pub at-leaf : Path → (LeafApps → LeafApps) → LeafApps → LeafApps
at-leaf leaf change row = if same_path row.leaf leaf then change row else row

pub row-after : (leaf : Path) (change : LeafApps → LeafApps) → KeepsNames change → (leaves : List LeafApps) (tenant name : Name) → row_of (in_leaf leaf change leaves) tenant name ≡ option_map (at-leaf leaf change) (row_of leaves tenant name)
row-after leaf change same leaves tenant name = find-through (at-leaf leaf change) (λ row. same_name (tenant_of row.leaf) tenant && list_any (same_name name) row.names)
    (λ row. elim (same_path row.leaf leaf) as (λ b. (same_name (tenant_of (cond b (change row) row).leaf) tenant && list_any (same_name name) (cond b (change row) row).names) ≡ (same_name (tenant_of row.leaf) tenant && list_any (same_name name) row.names))
    [ true ↦ (λ i. same_name (tenant_of (same.leaf row i)) tenant && list_any (same_name name) (same.names row i)) | false ↦ refl ]) leaves

-- what is found in the row of an application that is known
found-after : (leaf : Path) (change : LeafApps → LeafApps) → KeepsNames change → (leaves : List LeafApps) (row : LeafApps) (app new : Application) → IsKnown leaves app.leaf app.name → IsFound leaves row app →
    ((found : LeafApps) → found.leaf ≡ row.leaf → find (λ a. same_name a.name app.name) found.apps ≡ Some app → find (λ a. same_name a.name app.name) (at-leaf leaf change found).apps ≡ Some new) →
    find_app (in_leaf leaf change leaves) (tenant_of app.leaf) app.name ≡ Some new
unfolding find_app leaf_of
found-after leaf change same leaves row app new known found step =
    ap (option_and_then (λ row. find (λ a. same_name a.name app.name) row.apps)) (row-after leaf change same leaves (tenant_of app.leaf) app.name) ∙ go (row_of leaves (tenant_of app.leaf) app.name) known found.itself
  where
    go : (o : Option LeafApps) → option_map (λ row. row.leaf) o ≡ Some app.leaf → option_and_then (λ row. find (λ a. same_name a.name app.name) row.apps) o ≡ Some app →
        option_and_then (λ row. find (λ a. same_name a.name app.name) row.apps) (option_map (at-leaf leaf change) o) ≡ Some new
    go None k f = cc
    go (Some r) k f = step r (some-same r.leaf app.leaf (Some app.leaf) (sym k) refl ∙ found.at) f

-- ---- one application changes

module _ (leaf : Path) (name : Name) (change : Application → Application) (leafed : (app : Application) → (change app).leaf ≡ app.leaf) (named : (app : Application) → (change app).name ≡ app.name) (leaves : List LeafApps) where
  abbrev changed : Application → Application
  changed app = if same_name app.name name then change app else app

  changed-leaf : (app : Application) → (changed app).leaf ≡ app.leaf
  changed-leaf app = elim (same_name app.name name) as (λ b. (cond b (change app) app).leaf ≡ app.leaf) [ true ↦ leafed app | false ↦ refl ]

  changed-name : (app : Application) → (changed app).name ≡ app.name
  changed-name app = elim (same_name app.name name) as (λ b. (cond b (change app) app).name ≡ app.name) [ true ↦ named app | false ↦ refl ]

  found-changed : (row : LeafApps) (app : Application) (b : Bool) → same_path row.leaf leaf ≡ b → IsKnown leaves app.leaf app.name → IsFound leaves row app →
      find_app (in_leaf leaf (with_app name change) leaves) (tenant_of app.leaf) app.name ≡ Some (cond b (changed app) app)
  found-changed row app b e known found = found-after leaf (with_app name change) (with_app-names name change) leaves row app (cond b (changed app) app) known found (λ r at f. go r (ap (λ l. same_path l leaf) at ∙ e) f b refl)
    where
      go : (r : LeafApps) → same_path r.leaf leaf ≡ b → find (λ a. same_name a.name app.name) r.apps ≡ Some app → (d : Bool) → b ≡ d → find (λ a. same_name a.name app.name) (at-leaf leaf (with_app name change) r).apps ≡ Some (cond b (changed app) app)
      go r at f true s =
          (λ i. find (λ a. same_name a.name app.name) (cond ((at ∙ s) i) (with_app name change r) r).apps)
          ∙ find-through changed (λ a. same_name a.name app.name) (λ a i. same_name (changed-name a i) app.name) r.apps ∙ ap (option_map changed) f ∙ (λ i. Some (cond (sym s i) (changed app) app))
      go r at f false s = (λ i. find (λ a. same_name a.name app.name) (cond ((at ∙ s) i) (with_app name change r) r).apps) ∙ f ∙ (λ i. Some (cond (sym s i) (changed app) app))

  pub finds-changed : KnowsAll leaves leaves → FindsAll leaves → FindsAll (in_leaf leaf (with_app name change) leaves)
  finds-changed knows finds = Each-map (λ row. AllByRecursion (λ app. IsKnown leaves app.leaf app.name × IsFound leaves row app) row.apps) _ (at-leaf leaf (with_app name change)) (λ row h. go row (same_path row.leaf leaf) refl h) leaves
      (Each-with _ _ _ (λ row k f. Each-with _ _ _ (λ app a b. (a, b)) row.apps k f) leaves knows finds)
    where
      go : (row : LeafApps) (b : Bool) → same_path row.leaf leaf ≡ b → AllByRecursion (λ app. IsKnown leaves app.leaf app.name × IsFound leaves row app) row.apps →
          AllByRecursion (IsFound (in_leaf leaf (with_app name change) leaves) (cond b (with_app name change row) row)) (cond b (with_app name change row) row).apps
      go row true e h = Each-map _ _ changed (λ app k. record {
        at = changed-leaf app ∙ k.1.at;
        itself = (λ i. find_app (in_leaf leaf (with_app name change) leaves) (tenant_of (changed-leaf app i)) (changed-name app i)) ∙ found-changed row app true e k.0 k.1;
      }) row.apps h
      go row false e h = Each-weaker _ _ (λ app k. record { at = k.1.at; itself = found-changed row app false e k.0 k.1 }) row.apps h

-- ---- an application is finished

pub finds-finished : (leaf : Path) (name : Name) (leaves : List LeafApps) → KnowsAll leaves leaves → FindsAll leaves → FindsAll (in_leaf leaf (finished name) leaves)
finds-finished leaf name leaves knows finds = Each-map (λ row. AllByRecursion (λ app. IsKnown leaves app.leaf app.name × IsFound leaves row app) row.apps) _ (at-leaf leaf (finished name)) (λ row h. go row (same_path row.leaf leaf) refl h) leaves
    (Each-with _ _ _ (λ row k f. Each-with _ _ _ (λ app a b. (a, b)) row.apps k f) leaves knows finds)
  where
    keeps : (row : LeafApps) (app : Application) → IsKnown leaves app.leaf app.name → IsFound leaves row app → (b : Bool) → same_path row.leaf leaf ≡ b → (b ≡ true → not (same_name app.name name) ≡ true) →
        find_app (in_leaf leaf (finished name) leaves) (tenant_of app.leaf) app.name ≡ Some app
    keeps row app known found b e off = found-after leaf (finished name) (finished-names name) leaves row app app known found (λ r at f. by r (ap (λ l. same_path l leaf) at ∙ e) f b refl)
      where
        by : (r : LeafApps) → same_path r.leaf leaf ≡ b → find (λ a. same_name a.name app.name) r.apps ≡ Some app → (d : Bool) → b ≡ d → find (λ a. same_name a.name app.name) (at-leaf leaf (finished name) r).apps ≡ Some app
        by r at f true s = (λ i. find (λ a. same_name a.name app.name) (cond ((at ∙ s) i) (finished name r) r).apps)
            ∙ find-filter (λ a. same_name a.name app.name) (λ a. not (same_name a.name name)) (λ a k. ap (λ n. not (same_name n name)) (same-name_sym a.name app.name k) ∙ off s) r.apps ∙ f
        by r at f false s = (λ i. find (λ a. same_name a.name app.name) (cond ((at ∙ s) i) (finished name r) r).apps) ∙ f

    go : (row : LeafApps) (b : Bool) → same_path row.leaf leaf ≡ b → AllByRecursion (λ app. IsKnown leaves app.leaf app.name × IsFound leaves row app) row.apps →
        AllByRecursion (IsFound (in_leaf leaf (finished name) leaves) (cond b (finished name row) row)) (cond b (finished name row) row).apps
    go row true e h = Each-kept _ (λ app. not (same_name app.name name)) row.apps (Each-weaker _ _ (λ app k off. record { at = k.1.at; itself = keeps row app k.0 k.1 true e (λ _. off) }) row.apps h)
    go row false e h = Each-weaker _ _ (λ app k. record { at = k.1.at; itself = keeps row app k.0 k.1 false e (λ s. absurd (true≢false (sym s))) }) row.apps h

-- ---- an application is submitted

module _ (app : Application) (leaves : List LeafApps) (unused : is_some (leaf_of leaves (tenant_of app.leaf) app.name) ≡ false) (knows : KnowsAll leaves leaves) (finds : FindsAll leaves) where
  abbrev pub holds : Name → Name → LeafApps → Bool
  holds tenant name row = same_name (tenant_of row.leaf) tenant && list_any (same_name name) row.names

  abbrev new-leaves : List LeafApps
  new-leaves = in_leaf app.leaf (submitted app) leaves

  pub test-stays : (tenant name : Name) → is_some (leaf_of leaves tenant name) ≡ true → (row : LeafApps) → holds tenant name (at-leaf app.leaf (submitted app) row) ≡ holds tenant name row
  test-stays tenant name used row = go (same_path row.leaf app.leaf) (same_name name app.name) (same_name (tenant_of app.leaf) tenant) refl refl refl
    where
      go : (a b d : Bool) → same_path row.leaf app.leaf ≡ a → same_name name app.name ≡ b → same_name (tenant_of app.leaf) tenant ≡ d → holds tenant name (cond a (submitted app row) row) ≡ holds tenant name row
      go false b d e f g = refl
      go true false d e f g = ap (λ any. same_name (tenant_of row.leaf) tenant && any) (any-other (same_name name) row.names app.name f)
      go true true false e f g =
          let off : same_name (tenant_of row.leaf) tenant ≡ false = ap (λ path. same_name (tenant_of path) tenant) (same-path row.leaf app.leaf e) ∙ g in
          ap (λ b. b && list_any (same_name name) (row.names ++ app.name ∷ [])) off ∙ sym (ap (λ b. b && list_any (same_name name) row.names) off)
      go true true true e f g = absurd (true≢false (sym used ∙ (λ i. is_some (leaf_of leaves (sym (same-name_sym (tenant_of app.leaf) tenant g) i) (same-name_sym name app.name f i))) ∙ unused))

  old-found : (row : LeafApps) (other : Application) → IsKnown leaves other.leaf other.name → IsFound leaves row other → find_app new-leaves (tenant_of other.leaf) other.name ≡ Some other
  unfolding find_app
  old-found row other known found =
      ap (option_and_then (λ row. find (λ a. same_name a.name other.name) row.apps))
      (find-through (at-leaf app.leaf (submitted app)) (holds (tenant_of other.leaf) other.name) (test-stays (tenant_of other.leaf) other.name (ap is_some known)) leaves)
      ∙ go (row_of leaves (tenant_of other.leaf) other.name) found.itself
    where
      by : (r : LeafApps) (b : Bool) → find (λ a. same_name a.name other.name) r.apps ≡ Some other → find (λ a. same_name a.name other.name) (cond b (submitted app r) r).apps ≡ Some other
      by r true f = find-append _ r.apps (app ∷ []) ∙ ap (λ o. option_or o (find (λ a. same_name a.name other.name) (app ∷ []))) f
      by r false f = f

      go : (o : Option LeafApps) → option_and_then (λ row. find (λ a. same_name a.name other.name) row.apps) o ≡ Some other →
          option_and_then (λ row. find (λ a. same_name a.name other.name) row.apps) (option_map (at-leaf app.leaf (submitted app)) o) ≡ Some other
      go None f = cc
      go (Some r) f = by r (same_path r.leaf app.leaf) f

  -- no application of the leaf had the name
  no-other : (row : LeafApps) → row.leaf ≡ app.leaf → AllByRecursion (λ other. IsKnown leaves other.leaf other.name × IsFound leaves row other) row.apps → find (λ a. same_name a.name app.name) row.apps ≡ None
  no-other row at h = find-nothing (λ a. same_name a.name app.name) row.apps (Each-weaker _ _ (λ other k. go other k.0 k.1 (same_name other.name app.name) refl) row.apps h)
    where
      go : (other : Application) → IsKnown leaves other.leaf other.name → IsFound leaves row other → (b : Bool) → same_name other.name app.name ≡ b → same_name other.name app.name ≡ false
      go other known found false e = e
      go other known found true e =
          absurd (true≢false (sym (ap is_some known) ∙ (λ i. is_some (leaf_of leaves (tenant_of ((found.at ∙ at) i)) (same-name_sym other.name app.name e i))) ∙ unused))

  both : AllByRecursion (λ row. AllByRecursion (λ other. IsKnown leaves other.leaf other.name × IsFound leaves row other) row.apps) leaves
  both = Each-with _ _ _ (λ row k f. Each-with _ _ _ (λ other a b. (a, b)) row.apps k f) leaves knows finds

  last-found : AllByRecursion (λ row. row.leaf ≡ app.leaf → find (λ a. same_name a.name app.name) row.apps ≡ Some app) new-leaves
  last-found = Each-map (λ row. AllByRecursion (λ other. IsKnown leaves other.leaf other.name × IsFound leaves row other) row.apps) _ (at-leaf app.leaf (submitted app)) (λ row h. go row h (same_path row.leaf app.leaf) refl) leaves both
    where
      go : (row : LeafApps) → AllByRecursion (λ other. IsKnown leaves other.leaf other.name × IsFound leaves row other) row.apps → (b : Bool) → same_path row.leaf app.leaf ≡ b →
          (cond b (submitted app row) row).leaf ≡ app.leaf → find (λ a. same_name a.name app.name) (cond b (submitted app row) row).apps ≡ Some app
      go row h true e at = find-append_none (λ a. same_name a.name app.name) row.apps (app ∷ []) (no-other row at h) ∙ (λ i. cond (same-name_self app.name i) (Some app) None)
      go row h false e at = absurd (true≢false (sym ((pointwise_decides bytes_decides row.leaf app.leaf).1 at) ∙ e))

  new-found : list_any (λ row. same_path row.leaf app.leaf) leaves ≡ true → find_app new-leaves (tenant_of app.leaf) app.name ≡ Some app
  unfolding find_app leaf_of
  new-found there = go (row_of new-leaves (tenant_of app.leaf) app.name) (submit-finds app leaves unused there) (Each-found _ (holds (tenant_of app.leaf) app.name) new-leaves last-found)
    where
      go : (o : Option LeafApps) → option_map (λ row. row.leaf) o ≡ Some app.leaf → IfSome o (λ row. row.leaf ≡ app.leaf → find (λ a. same_name a.name app.name) row.apps ≡ Some app) →
          option_and_then (λ row. find (λ a. same_name a.name app.name) row.apps) o ≡ Some app
      go None k h = cc
      go (Some r) k h = h (some-same r.leaf app.leaf (Some app.leaf) (sym k) refl)

  pub finds-submitted : FindsAll new-leaves
  finds-submitted = go (list_any (λ row. same_path row.leaf app.leaf) leaves) refl
    where
      rows : list_any (λ row. same_path row.leaf app.leaf) leaves ≡ true → (row : LeafApps) → AllByRecursion (λ other. IsKnown leaves other.leaf other.name × IsFound leaves row other) row.apps → (b : Bool) → same_path row.leaf app.leaf ≡ b →
          AllByRecursion (IsFound new-leaves (cond b (submitted app row) row)) (cond b (submitted app row) row).apps
      rows there row h true e = Each-append _ row.apps (app ∷ []) (Each-weaker _ _ (λ other k. record { at = k.1.at; itself = old-found row other k.0 k.1 }) row.apps h)
          (record { at = sym (same-path row.leaf app.leaf e); itself = new-found there }, tt)
      rows there row h false e = Each-weaker _ _ (λ other k. record { at = k.1.at; itself = old-found row other k.0 k.1 }) row.apps h

      go : (b : Bool) → list_any (λ row. same_path row.leaf app.leaf) leaves ≡ b → FindsAll new-leaves
      go true there = Each-map (λ row. AllByRecursion (λ other. IsKnown leaves other.leaf other.name × IsFound leaves row other) row.apps) (λ row. AllByRecursion (IsFound new-leaves row) row.apps) (at-leaf app.leaf (submitted app)) (λ row h. rows there row h (same_path row.leaf app.leaf) refl) leaves both
      go false none = let same : new-leaves ≡ leaves = update-none _ (submitted app) leaves none in subst FindsAll (sym same) finds

-- ---- events

abbrev Both : State → Type 0
Both s = Kept s × FindsAll s.leaves

pub place-finds : (c : Config) (node : Node) (item : Item) (s : State) → Kept s → FindsAll s.leaves → FindsAll (place c node item s).leaves
unfolding place
place-finds c node item s k h = finds-changed item.leaf item.app (taken item.what) (taken-leaf item.what) (taken-name item.what) s.leaves k.apps h

finish-finds : (c : Config) (app : Application) (s : State) → Kept s → FindsAll s.leaves → FindsAll (app_finishes c app s).leaves
unfolding app_finishes
finish-finds c app s k h = finds-finished app.leaf app.name s.leaves k.apps h

accepted-finds : (c : Config) (s : State) (event : Event) → Kept s → FindsAll s.leaves → first_that_holds (reasons c s event) ≡ None → FindsAll (accepted c s event).state.leaves
unfolding accepted reasons node_joins node_leaves end changed_at
accepted-finds c s (Register name label size) k h none = h
accepted-finds c s (Lost name) k h none = there (λ u. FindsAll u.leaves) (node_of s name) s _ h (λ node e. h)
accepted-finds c s (Relabel name label) k h none = there (λ u. FindsAll u.leaves) (node_of s name) s _ h (λ node e. h)
accepted-finds c s (Heartbeat name) k h none = there (λ u. FindsAll u.leaves) (node_of s name) s _ h (λ node e.
    (beat-keeps Both c node (λ u item g fits _. (kept-place c node item u g.0 fits.known, place-finds c node item u g.0 g.1)) (λ u g. g.0) c.containers_per_heartbeat s (k, h)).1)
accepted-finds c s (Exited name id) k h none = there (λ u. FindsAll u.leaves) (container_at s name id) s _ h (λ container e. h)
accepted-finds c s (Submit queue app user label master) k h none =
    finds-submitted (new_app queue app user (home_of c queue label) master) s.leaves (none-holds (reasons c s (Submit queue app user label master)) none).1.1.1.1.1.1.0 k.apps h
accepted-finds c s (Ask tenant app label priority count size) k h none =
    there (λ u. FindsAll u.leaves) (find_app s.leaves tenant app) s _ h (λ found e. finds-changed found.leaf app (set_ask (record { label = label; priority = priority; count = count; size = size })) (λ a. refl) (λ a. refl) s.leaves k.apps h)
accepted-finds c s (Release tenant id) k h none = there (λ u. FindsAll u.leaves) (container_for s tenant id) s _ h (λ container e. h)
accepted-finds c s (Finish tenant app) k h none = there (λ u. FindsAll u.leaves) (find_app s.leaves tenant app) s _ h (λ found e. finish-finds c found s k h)
accepted-finds c s (Stop queue) k h none = h
accepted-finds c s (Start queue) k h none = h
accepted-finds c s (Poll tenant app label) k h none = h
accepted-finds c s (Usage queue label) k h none = h
accepted-finds c s (Propose name) k h none = there (λ u. FindsAll u.leaves) (node_of s name) s _ h (λ node e. h)
accepted-finds c s (Commit proposal) k h none =
    there (λ u. FindsAll u.leaves) (node_of s proposal.node) s _ h (λ node e. there (λ u. FindsAll u.leaves) (find_app s.leaves proposal.tenant proposal.app) s _ h (λ app f. place-finds c node (proposed_item proposal app) s k h))
accepted-finds c s (Maximum queue label share) k h none = h

pub step-finds : (c : Config) (s : State) (event : Event) → Kept s → FindsAll s.leaves → FindsAll (step c s event).state.leaves
step-finds c s event k h = step-cases (λ u. FindsAll u.leaves) c s event h (accepted-finds c s event k h)

after-finds : (c : Config) (events : List Event) (s : State) → Kept s → FindsAll s.leaves → FindsAll (after c s events).leaves
after-finds c [] s k h = h
after-finds c (event ∷ events) s k h = after-finds c events (step c s event).state (step-keeps c s event k) (step-finds c s event k h)

-- in each state each live application is in its leaf's row, and is what its tenant and name find
pub is_found : (c : Config) (events : List Event) → FindsAll (state_after c events).leaves
is_found c events = after-finds c events (opening c) (kept-opening c)
    (Each-map (λ (row : QueueRow). ⊤) (λ row. AllByRecursion (IsFound (no_apps c) row) row.apps) _ (λ row _. tt) (filter (λ row. is_leaf c row.path) c.queues) (Each-all (λ (row : QueueRow). ⊤) (λ row. tt) (filter (λ row. is_leaf c row.path) c.queues)))

-- and so is each in the list of all
pub finds-apps : (s : State) → FindsAll s.leaves → AllByRecursion (FindsItself s) (all_apps s.leaves)
finds-apps s h = Each-flat (λ row. AllByRecursion (IsFound s.leaves row) row.apps) (FindsItself s) (λ row. row.apps) (λ row k. Each-weaker (IsFound s.leaves row) (FindsItself s) (λ app found. found.itself) row.apps k) s.leaves h

-- what is found is itself
pub finds-found : (s : State) → FindsAll s.leaves → (tenant name : Name) (app : Application) → find_app s.leaves tenant name ≡ Some app → FindsItself s app
unfolding find_app
finds-found s h tenant name app e = go (row_of s.leaves tenant name) (Each-found _ _ s.leaves h) e
  where
    go : (o : Option LeafApps) → IfSome o (λ row. AllByRecursion (IsFound s.leaves row) row.apps) → option_and_then (λ row. find (λ app. same_name app.name name) row.apps) o ≡ Some app → FindsItself s app
    go None k e = cc
    go (Some row) k e = (Each-find (IsFound s.leaves row) (λ app. same_name app.name name) row.apps k app e).0.itself
