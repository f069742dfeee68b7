-- A lull of a leaf, while other partitions change.
use Rattle.std.proofs.Common.{◌≡◌, ◌-◌, inr, ℕ, Bool, true, false, cond, not, ◌&&◌, ◌||◌, ◌==◌, List, [], ◌∷◌, ◌++◌, map, filter, flat_map, refl, sym, ap, subst, ◌∙◌, arith}
use Rattle.std.specs.Prelude.{nat_lt, if◌then◌else◌}
use Rattle.std.specs.List.{AllByRecursion, list_any}
use Rattle.std.proofs.lemmas.Bool.{and_from, and_parts}
use Rattle.std.proofs.lemmas.Bool.Decides.{nat_tests}
use Rattle.std.proofs.lemmas.List.{map-id}
use mathlib.Core.Bool.{true≢false}
use Rattle.ynl_resource.specs.Names.{same_name, same_label, same_path, same_id, tenant_of}
use Rattle.ynl_resource.specs.declared.names.Name.{Name}
use Rattle.ynl_resource.specs.declared.labels.Label.{Label}
use Rattle.ynl_resource.specs.declared.paths.Path.{Path}
use Rattle.ynl_resource.specs.Tables.{without, put, update}
use Rattle.ynl_model.specs.Nodes.{total as total_on}
use Rattle.ynl_model.specs.declared.applications.AskRow.{AskRow}
use Rattle.ynl_model.specs.declared.proposals.What.{What}
use Rattle.ynl_model.specs.declared.proposals.What.TheVariants.{Master, Ask as Asked}
use Rattle.ynl_model.specs.Queues.{Config}
use Rattle.ynl_model.specs.Applications.{Application, apps_of, leaf_of, in_leaf, with_app, is_ask_of, set_ask}
use Rattle.ynl_model.specs.Cluster.{State, containers_on, is_master, is_of, is_below, runs, waits}
use Rattle.ynl_model.specs.Service.{Item, master_item, ask_item, asks_of}
use Rattle.ynl_model.specs.Changes.{changed_at, container_of, place, taken, end}
use Rattle.ynl_laws.specs.Lulls.{requests_of, requests_at, Lasts, DoLullsLastPlacingElsewhere, DoLullsLastEndingElsewhere, DoLullsLastAskingElsewhere}
use Rattle.ynl_laws.specs.Marks.{is_master_of}
use Rattle.ynl_laws.specs.Owners.{owner}
use Rattle.ynl_laws.specs.Sharers.{sharers}
use Rattle.ynl_laws.specs.Tabled.{Tabled}
use Rattle.ynl_laws.specs.Working.{Kept}
use Rattle.ynl_laws.proofs.Events.Kept.{leaf_of-kept, with_app-names}
use Rattle.ynl_laws.proofs.Limits.Within.{total-same}
use Rattle.ynl_laws.proofs.Lists.{Each-all, Each-append, Each-filter, Each-flat, Each-map, Each-split, Each-unmap, any-later, any-other, filter-filter, filter-put_off, filter-swap}
use Rattle.ynl_laws.proofs.Names.{same-label_path}
use Rattle.ynl_laws.proofs.Soundness.Tracked.{place-same, end-same}
use Rattle.ynl_laws.proofs.Totals.Lulls.{lasts-limited}
use Rattle.ynl_laws.proofs.Totals.Owners.{owner-changed}
use Rattle.ynl_laws.proofs.Totals.Placing.{label_sym, on-place, on-end}
use Rattle.ynl_laws.proofs.Totals.Sharers.{apps-changed, sharers-kept}

-- ---- lists

-- what holds of all that some lists have together holds of all that each has
pub Each-unflat : {X Y : Type 0} (P : Y → Type 0) (f : X → List Y) (xs : List X) → AllByRecursion P (flat_map f xs) → AllByRecursion (λ x. AllByRecursion P (f x)) xs
Each-unflat P f [] h = tt
Each-unflat P f (x ∷ xs) h = let rest = Each-split P (f x) (flat_map f xs) h in (rest.0, Each-unflat P f xs rest.1)

-- what is left by a filter of a map, where that passes no more than a filter did before the map
Each-passed : {X : Type 0} (Q : X → Type 0) (w v : X → Bool) (f : X → X) → ((x : X) → v (f x) ≡ true → w x ≡ true) → ((x : X) → Q x → Q (f x)) → (xs : List X) → AllByRecursion Q (filter w xs) → AllByRecursion Q (filter v (map f xs))
Each-passed Q w v f before step [] h = tt
Each-passed Q w v f before step (x ∷ xs) h = go (v (f x)) (w x) (before x) h (Each-passed Q w v f before step xs)
  where
    go : (a b : Bool) → (a ≡ true → b ≡ true) → AllByRecursion Q (cond b (x ∷ filter w xs) (filter w xs)) → (AllByRecursion Q (filter w xs) → AllByRecursion Q (filter v (map f xs))) →
        AllByRecursion Q (cond a (f x ∷ filter v (map f xs)) (filter v (map f xs)))
    go true true before h rest = (step x h.0, rest h.1)
    go true false before h rest = absurd (true≢false (sym (before refl)))
    go false true before h rest = rest h.1
    go false false before h rest = rest h

-- what passes in a filter passes in the whole
pub any-left : {X : Type 0} (q w : X → Bool) (xs : List X) → list_any q (filter w xs) ≡ true → list_any q xs ≡ true
any-left q w [] h = h
any-left q w (x ∷ xs) h = go (w x) h (any-left q w xs)
  where
    go : (b : Bool) → list_any q (cond b (x ∷ filter w xs) (filter w xs)) ≡ true → (list_any q (filter w xs) ≡ true → list_any q xs ≡ true) → (q x || list_any q xs) ≡ true
    go true h rest = by (q x) h
      where
        by : (b : Bool) → (b || list_any q (filter w xs)) ≡ true → (b || list_any q xs) ≡ true
        by true h = refl
        by false h = rest h
    go false h rest = any-later q x xs (rest h)

-- ---- the requests

-- a change of an application that leaves all but its asks
record KeepsAllButAsks (change : Application → Application) : Type 0 where
  pub master : (app : Application) → master_item (change app) ≡ master_item app
  pub home : (app : Application) → (change app).home ≡ app.home

-- applications run as they did
runs-changed : (t : State) (change : Application → Application) → KeepsAllButAsks change → (app : Application) → runs t (change app) ≡ runs t app
unfolding runs
runs-changed t change keeps app = λ i. list_any (λ k. is_master k && is_of (tenant_of (keeps.master app i).leaf) (keeps.master app i).app k) (containers_on t (keeps.home app i))

-- where the partition's containers stay, its applications wait or run as they did
runs-home : (s t : State) (label : Label) → containers_on t label ≡ containers_on s label → (app : Application) → same_label app.home label ≡ true → runs t app ≡ runs s app
unfolding runs
runs-home s t label on app at = ap (list_any (is_master_of app)) (ap (containers_on t) home ∙ on ∙ ap (containers_on s) (sym home))
  where
    home : app.home ≡ label
    home = same-label_path app.home label at

-- where no application starts to run, and what each asks for has what it had, so have the requests
requests-left : (P : Item → Type 0) (s t : State) (label : Label) (change : Application → Application) → KeepsAllButAsks change
    → containers_on t label ≡ containers_on s label → ((app : Application) → runs t app ≡ true → runs s app ≡ true)
    → ((app : Application) → AllByRecursion P (asks_of label app) → AllByRecursion P (asks_of label (change app)))
    → (apps : List Application) → AllByRecursion P (requests_of s label apps) → AllByRecursion P (requests_of t label (map change apps))
requests-left P s t label change keeps on before asks apps h =
    Each-append P (map master_item (filter wanted (map change apps))) (flat_map (asks_of label) (filter (runs t) (map change apps)))
    (Each-map (λ app. P (master_item app)) P master_item (λ app k. k) (filter wanted (map change apps))
    (Each-passed (λ app. P (master_item app)) _ wanted change waited (λ app. subst P (sym (keeps.master app))) apps (Each-unmap master_item P _ parts.0)))
    (Each-flat (λ app. AllByRecursion P (asks_of label app)) P (asks_of label) (λ app k. k) (filter (runs t) (map change apps))
    (Each-passed (λ app. AllByRecursion P (asks_of label app)) (runs s) (runs t) change (λ app e. before app (sym (runs-changed t change keeps app) ∙ e)) asks apps (Each-unflat P (asks_of label) (filter (runs s) apps) parts.1)))
  where
    parts : AllByRecursion P (map master_item (filter (λ app. waits s app && same_label app.home label) apps)) × AllByRecursion P (flat_map (asks_of label) (filter (runs s) apps))
    parts = Each-split P (map master_item (filter (λ app. waits s app && same_label app.home label) apps)) _ h

    wanted : Application → Bool
    wanted app = waits t app && same_label app.home label

    waited : (app : Application) → (waits t (change app) && same_label (change app).home label) ≡ true → (waits s app && same_label app.home label) ≡ true
    waited app e =
        let home : same_label app.home label ≡ true = ap (λ l. same_label l label) (sym (keeps.home app)) ∙ (and_parts (waits t (change app)) _ e).1 in
        and_from _ _ (ap not (sym (runs-home s t label on app home) ∙ sym (runs-changed t change keeps app)) ∙ (and_parts _ _ e).0) home

-- so it is where the applications are the same
requests-still : (P : Item → Type 0) (s t : State) (label : Label) → containers_on t label ≡ containers_on s label → ((app : Application) → runs t app ≡ true → runs s app ≡ true)
    → (apps : List Application) → AllByRecursion P (requests_of s label apps) → AllByRecursion P (requests_of t label apps)
requests-still P s t label on before apps h =
    subst (λ apps. AllByRecursion P (requests_of t label apps)) (map-id apps) (requests-left P s t label (λ app. app) (record { master = λ app. refl; home = λ app. refl }) on before (λ app k. k) apps h)

-- ---- the asks

module _ (P : Item → Type 0) (label : Label) where
  -- of what is asked for one is taken: the ask stays with its size and priority, or goes
  pub asks-taken : (what : What) (app : Application) → AllByRecursion P (asks_of label app) → AllByRecursion P (asks_of label (taken what app))
  asks-taken Master app h = h
  asks-taken (Asked other priority) app h = Each-map (λ ask. P (ask_item app ask)) P (ask_item app) (λ ask k. k) _ (
      subst (AllByRecursion (λ ask. P (ask_item app ask))) (filter-swap wanted (λ ask. not (is_ask_of other priority ask && (ask.count == 0))) (map lower app.asks))
      (Each-filter (λ ask. P (ask_item app ask)) _ (filter wanted (map lower app.asks))
      (Each-passed (λ ask. P (ask_item app ask)) wanted wanted lower (λ ask. more ask (is_ask_of other priority ask)) (λ ask. subst P (sym (same ask (is_ask_of other priority ask)))) app.asks (Each-unmap (ask_item app) P _ h))))
    where
      wanted : AskRow → Bool
      wanted ask = same_label ask.label label && nat_lt 0 ask.count

      lower : AskRow → AskRow
      lower ask = if is_ask_of other priority ask then (record ask { count = ask.count - 1 }) else ask

      same : (ask : AskRow) (b : Bool) → ask_item app (cond b (record ask { count = ask.count - 1 }) ask) ≡ ask_item app ask
      same ask true = refl
      same ask false = refl

      more : (ask : AskRow) (b : Bool) → wanted (cond b (record ask { count = ask.count - 1 }) ask) ≡ true → wanted ask ≡ true
      more ask true e = and_from _ _ ((and_parts _ _ e).0) (above ((and_parts (same_label ask.label label) _ e).1))
        where
          above : nat_lt 0 (ask.count - 1) ≡ true → nat_lt 0 ask.count ≡ true
          above k = grind (arith, nat_tests, k)
      more ask false e = e

-- an ask of another label changes none of the label's
asks-other : (label : Label) (ask : AskRow) → same_label label ask.label ≡ false → (app : Application) → asks_of label (set_ask ask app) ≡ asks_of label app
asks-other label ask off app = ap (map (ask_item app)) (go (ask.count == 0))
  where
    wanted : AskRow → Bool
    wanted other = same_label other.label label && nat_lt 0 other.count

    same : AskRow → Bool
    same = is_ask_of ask.label ask.priority

    not-same : (other : AskRow) → wanted other ≡ true → same other ≡ false
    not-same other e = ap (λ l. same_label l ask.label && (other.priority == ask.priority)) (same-label_path other.label label ((and_parts _ _ e).0)) ∙ ap (λ b. b && (other.priority == ask.priority)) off

    new-off : (count : ℕ) → (same_label ask.label label && nat_lt 0 count) ≡ false
    new-off count = ap (λ b. b && nat_lt 0 count) (label_sym ask.label label ∙ off)

    not-wanted : (other : AskRow) → same other ≡ true → wanted other ≡ false
    not-wanted other e = ap (λ l. same_label l label && nat_lt 0 other.count) (same-label_path other.label ask.label ((and_parts _ _ e).0)) ∙ new-off other.count

    go : (b : Bool) → filter wanted (cond b (without same app.asks) (put same ask app.asks)) ≡ filter wanted app.asks
    go true = filter-filter (λ other. not (same other)) wanted (λ other e. ap not (not-same other e)) app.asks
    go false = filter-put_off wanted same ask (new-off ask.count) not-wanted app.asks

-- ---- other partitions

-- the partition's containers stay, and no application starts to run
record StaysOn (s t : State) (label : Label) : Type 0 where
  pub on : containers_on t label ≡ containers_on s label
  pub before : (app : Application) → runs t app ≡ true → runs s app ≡ true
  pub nodes : total_on t.nodes label ≡ total_on s.nodes label
  pub maxima : t.maxima ≡ s.maxima

-- one application's asks change at most
asks-change : (c : Config) (s t : State) (label : Label) (leaf other : Path) (name : Name) (change : Application → Application) → KeepsAllButAsks change → t.leaves ≡ in_leaf other (with_app name change) s.leaves
    → ((P : Item → Type 0) (app : Application) → AllByRecursion P (asks_of label app) → AllByRecursion P (asks_of label (change app)))
    → Kept s → Tabled s → StaysOn s t label → Lasts c s t label leaf
asks-change c s t label leaf other name change keeps leaves asks kept tabled h = lasts-limited c s t label leaf kept tabled (record {
  own = ap (filter (is_below s.leaves leaf)) h.on;
  found = Each-all _ (λ k. ap (λ rows. leaf_of rows k.tenant k.app) leaves ∙ leaf_of-kept other (with_app name change) (with_app-names name change) s.leaves k.tenant k.app) (containers_on t label);
  owners = λ tenant app e. ap (λ rows. owner rows tenant app) leaves ∙ owner-changed other name change (λ app. ap (λ item. item.app) (keeps.master app)) user s.leaves tenant app;
  users = ap (λ rows. sharers rows leaf label) leaves ∙ sharers-kept s.leaves other leaf name change label user keeps.home;
  nodes = h.nodes;
  maxima = h.maxima;
}) (λ P all. subst (λ apps. AllByRecursion P (requests_of t label apps)) (sym apps) (left P all (same_path other leaf)))
  where
    user : (app : Application) → (change app).user ≡ app.user
    user app = ap (λ item. item.user) (keeps.master app)

    at : Bool → Application → Application
    at b app = if b then change app else app

    apps : apps_of t.leaves leaf ≡ cond (same_path other leaf) (update (λ app. same_name app.name name) change (apps_of s.leaves leaf)) (apps_of s.leaves leaf)
    apps = ap (λ rows. apps_of rows leaf) leaves ∙ apps-changed other leaf (with_app name change) (update (λ app. same_name app.name name) change) (λ row. refl) (λ row. refl) s.leaves (inr refl)

    kept-at : (b : Bool) (app : Application) → (master_item (at b app) ≡ master_item app) × ((at b app).home ≡ app.home)
    kept-at true app = (keeps.master app, keeps.home app)
    kept-at false app = (refl, refl)

    asks-at : (P : Item → Type 0) (b : Bool) (app : Application) → AllByRecursion P (asks_of label app) → AllByRecursion P (asks_of label (at b app))
    asks-at P true app k = asks P app k
    asks-at P false app k = k

    left : (P : Item → Type 0) → AllByRecursion P (requests_at s label leaf) → (b : Bool) → AllByRecursion P (requests_of t label (cond b (update (λ app. same_name app.name name) change (apps_of s.leaves leaf)) (apps_of s.leaves leaf)))
    left P all true = requests-left P s t label (λ app. at (same_name app.name name) app) (record { master = λ app. (kept-at (same_name app.name name) app).0; home = λ app. (kept-at (same_name app.name name) app).1 })
        h.on h.before (λ app. asks-at P (same_name app.name name) app) (apps_of s.leaves leaf) all
    left P all false = requests-still P s t label h.on h.before (apps_of s.leaves leaf) all

pub lulls-last_asking_elsewhere : DoLullsLastAskingElsewhere
unfolding runs
lulls-last_asking_elsewhere c s other name ask label leaf kept tabled off =
    asks-change c s (record s { leaves = in_leaf other (with_app name (set_ask ask)) s.leaves }) label leaf other name (set_ask ask) (record { master = λ app. refl; home = λ app. refl }) refl
    (λ P app. subst (AllByRecursion P) (sym (asks-other label ask off app))) kept tabled (record { on = refl; before = λ app e. e; nodes = refl; maxima = refl })

pub lulls-last_placing_elsewhere : DoLullsLastPlacingElsewhere
unfolding place changed_at container_of runs
lulls-last_placing_elsewhere c s node item label leaf kept tabled there known asked off =
    asks-change c s (place c node item s) label leaf item.leaf item.app (taken item.what) (taken-keeps item.what) refl (λ P. asks-taken P label item.what) kept tabled (record {
      on = on-place c node item s there label ∙ ap (λ b. cond b (containers_on s label ++ container_of c s node item ∷ []) (containers_on s label)) (label_sym node.label label ∙ off);
      before = before;
      nodes = total-same s (place c node item s) label (place-same c node item s);
      maxima = refl;
    })
  where
    taken-keeps : (what : What) → KeepsAllButAsks (taken what)
    taken-keeps Master = record { master = λ app. refl; home = λ app. refl }
    taken-keeps (Asked label priority) = record { master = λ app. refl; home = λ app. refl }

    before : (app : Application) → runs (place c node item s) app ≡ true → runs s app ≡ true
    before app e = sym (more (same_label node.label app.home)) ∙ sym (ap (list_any (is_master_of app)) (on-place c node item s there app.home)) ∙ e
      where
        more : (b : Bool) → list_any (is_master_of app) (cond b (containers_on s app.home ++ container_of c s node item ∷ []) (containers_on s app.home)) ≡ list_any (is_master_of app) (containers_on s app.home)
        more true = any-other (is_master_of app) (containers_on s app.home) (container_of c s node item) (ap (λ b. b && is_of (tenant_of app.leaf) app.name (container_of c s node item)) asked)
        more false = refl

pub lulls-last_ending_elsewhere : DoLullsLastEndingElsewhere
unfolding end changed_at runs
lulls-last_ending_elsewhere c s k label leaf kept tabled there once off = lasts-limited c s (end c s k) label leaf kept tabled (record {
  own = ap (filter (is_below s.leaves leaf)) on;
  found = Each-all (λ x. leaf_of s.leaves x.tenant x.app ≡ leaf_of s.leaves x.tenant x.app) (λ x. refl) (containers_on (end c s k) label);
  owners = λ tenant name e. refl;
  users = refl;
  nodes = total-same s (end c s k) label (end-same c s k);
  maxima = refl;
}) (λ P all. requests-still P s (end c s k) label on before (apps_of s.leaves leaf) all)
  where
    on : containers_on (end c s k) label ≡ containers_on s label
    on = on-end c s k there label ∙ ap (λ b. cond b (without (λ x. same_id x.id k.id) (containers_on s label)) (containers_on s label)) (label_sym k.id.label label ∙ off)

    before : (app : Application) → runs (end c s k) app ≡ true → runs s app ≡ true
    before app e = fewer (same_label k.id.label app.home) (sym (ap (list_any (is_master_of app)) (on-end c s k there app.home)) ∙ e)
      where
        fewer : (b : Bool) → list_any (is_master_of app) (cond b (without (λ x. same_id x.id k.id) (containers_on s app.home)) (containers_on s app.home)) ≡ true → list_any (is_master_of app) (containers_on s app.home) ≡ true
        fewer true e = any-left (is_master_of app) (λ x. not (same_id x.id k.id)) (containers_on s app.home) e
        fewer false e = e
