-- A lull of a leaf, while other leaves change.
use Rattle.std.proofs.Common.{◌≡◌, Bool, true, false, cond, not, ◌&&◌, ◌||◌, List, [], ◌∷◌, ◌++◌, map, length, Option, Some, None, is_some, option_map, filter, find, flat_map, refl, sym, ap, subst, ◌∙◌, append-nil}
use Rattle.std.specs.Prelude.{IfSome, max, nat_lt}
use Rattle.std.specs.List.{AllByRecursion, list_any}
use Rattle.std.specs.Option.{option_map_or}
use Rattle.std.proofs.lemmas.Bool.{and_parts}
use Rattle.std.proofs.lemmas.List.Elements.{filter-append}
use mathlib.Core.Bool.{true≢false}
use Rattle.ynl_resource.specs.Amounts.{total_of, plus, greater_of, smaller_of, scale_floor, scale_ceil, fits_in}
use Rattle.ynl_resource.specs.declared.amounts.Resource.{Resource}
use Rattle.ynl_resource.specs.Ranges.{whole}
use Rattle.ynl_resource.specs.Names.{same_name, same_label, same_path, same_id, is_within, tenant_of}
use Rattle.ynl_resource.specs.declared.names.Name.{Name}
use Rattle.ynl_resource.specs.declared.labels.Label.{Label}
use Rattle.ynl_resource.specs.declared.paths.Path.{Path}
use Rattle.ynl_resource.specs.Tables.{without}
use Rattle.ynl_model.specs.Nodes.{total as total_on}
use Rattle.ynl_model.specs.Queues.{Config, setting, maximum as maximum_of, guaranteed as guaranteed_of}
use Rattle.ynl_model.specs.Applications.{Application, LeafApps, apps_of, leaf_of, find_app, in_leaf, submitted, with_app, finished, set_ask}
use Rattle.ynl_model.specs.declared.applications.AskRow.{AskRow}
use Rattle.ynl_model.specs.declared.containers.Placed.{Placed as Container}
use Rattle.ynl_model.specs.declared.proposals.What.{What}
use Rattle.ynl_model.specs.declared.proposals.What.TheVariants.{Master, Ask as Asked}
use Rattle.ynl_model.specs.Cluster.{State, containers_on, is_master, is_of, is_guest, is_below, of_app_that, counted, runs, waits, used, user_used, masters_used, maximum, guaranteed}
use Rattle.ynl_model.specs.Limits.{users, distinct, user_limit, master_limit}
use Rattle.ynl_model.specs.Service.{Item, master_item, ask_item, asks_of, within_user_limit, within_master_share}
use Rattle.ynl_model.specs.Changes.{changed_at, container_of, place, taken, end, all_end, all_own, app_finishes}
use Rattle.ynl_laws.specs.Lulls.{requests_of, requests_at, keeps_own_limits, Lasts, DoLullsLastPlacing, DoLullsLastEnding, DoLullsLastSubmitting, DoLullsLastAsking, DoLullsLastFinishing}
use Rattle.ynl_laws.specs.Marks.{is_master_of}
use Rattle.ynl_laws.specs.Owners.{owner}
use Rattle.ynl_laws.specs.Sharers.{shares, sharers}
use Rattle.ynl_laws.specs.Tabled.{Tabled}
use Rattle.ynl_laws.specs.Uses.{counts}
use Rattle.ynl_laws.specs.Working.{IsKnown, Kept}
use Rattle.ynl_laws.proofs.Events.Changed.{taken-name}
use Rattle.ynl_laws.proofs.Events.Kept.{leaf_of-kept, with_app-names, finished-names, submit-extends, kept-on}
use Rattle.ynl_laws.proofs.Limits.Within.{total-same}
use Rattle.ynl_laws.proofs.Lists.{Each-all, Each-append, Each-filter, Each-flat, Each-found, Each-map, Each-weaker, Each-with, any-filter, filter-agree, filter-filter, filter-passes, filter-rest, find-other, found-passes}
use Rattle.ynl_laws.proofs.Names.{same-path, same-name_sym, same-label_path, within-self}
use Rattle.ynl_laws.proofs.Soundness.Tracked.{place-same, end-same, finish-same}
use Rattle.ynl_laws.proofs.Totals.Marks.{on-finish}
use Rattle.ynl_laws.proofs.Totals.Owners.{by-owner, owner-changed, find-finished, find-submitted, taken-user}
use Rattle.ynl_laws.proofs.Totals.Placing.{on-place, on-end}

-- ---- states that are alike for a leaf

-- whether a leaf that was found is the queue or stands below it
abbrev is_in : Path → Option Path → Bool
is_in queue found = option_map_or (is_within queue) found false

-- two states are alike for a leaf on a partition: it has the same applications and, on each partition, the same containers, whose owners stay,
-- and the partition's total and the maxima are the same
record Alike (s t : State) (label : Label) (leaf : Path) : Type 0 where
  pub apps : apps_of t.leaves leaf ≡ apps_of s.leaves leaf
  pub own : (p : Label) → filter (is_below s.leaves leaf) (containers_on t p) ≡ filter (is_below s.leaves leaf) (containers_on s p)
  pub found : AllByRecursion (λ k. leaf_of t.leaves k.tenant k.app ≡ leaf_of s.leaves k.tenant k.app) (containers_on t label)
  pub owners : (tenant name : Name) → is_in leaf (leaf_of s.leaves tenant name) ≡ true → owner t.leaves tenant name ≡ owner s.leaves tenant name
  pub nodes : total_on t.nodes label ≡ total_on s.nodes label
  pub maxima : t.maxima ≡ s.maxima

-- two states limit a leaf alike on a partition: it has the same containers there, whose owners stay, the same users share it,
-- and the partition's total and the maxima are the same
pub record LimitsAlike (s t : State) (label : Label) (leaf : Path) : Type 0 where
  pub own : filter (is_below s.leaves leaf) (containers_on t label) ≡ filter (is_below s.leaves leaf) (containers_on s label)
  pub found : AllByRecursion (λ k. leaf_of t.leaves k.tenant k.app ≡ leaf_of s.leaves k.tenant k.app) (containers_on t label)
  pub owners : (tenant name : Name) → is_in leaf (leaf_of s.leaves tenant name) ≡ true → owner t.leaves tenant name ≡ owner s.leaves tenant name
  pub users : sharers t.leaves leaf label ≡ sharers s.leaves leaf label
  pub nodes : total_on t.nodes label ≡ total_on s.nodes label
  pub maxima : t.maxima ≡ s.maxima

-- those that are alike limit it alike
limits-alike : (s t : State) (label : Label) (leaf : Path) → Alike s t label leaf → LimitsAlike s t label leaf
limits-alike s t label leaf h = record {
  own = h.own label;
  found = h.found;
  owners = h.owners;
  users = ap (λ apps. map (λ (app : Application). app.user) (filter (shares label) apps)) h.apps;
  nodes = h.nodes;
  maxima = h.maxima;
}

-- ---- the limits

module _ (c : Config) (s t : State) (label : Label) (leaf : Path) (h : LimitsAlike s t label leaf) where
  -- the same containers count
  counted-same : counted t leaf label ≡ counted s leaf label
  counted-same =
      filter-agree (λ k. leaf_of t.leaves k.tenant k.app ≡ leaf_of s.leaves k.tenant k.app) (counts t.leaves leaf) (counts s.leaves leaf) (λ k e i. not (is_guest k) && is_in leaf (e i)) (containers_on t label) h.found
      ∙ sym (within (containers_on t label)) ∙ ap (filter (counts s.leaves leaf)) h.own ∙ within (containers_on s label)
    where
      within : (ks : List Container) → filter (counts s.leaves leaf) (filter (is_below s.leaves leaf) ks) ≡ filter (counts s.leaves leaf) ks
      within ks = filter-filter (is_below s.leaves leaf) (counts s.leaves leaf) (λ k e. (and_parts (not (is_guest k)) _ e).1) ks

  used-same : used t leaf label ≡ used s leaf label
  unfolding used
  used-same = ap (λ ks. total_of (λ (k : Container). k.size) ks) counted-same

  masters-same : masters_used t leaf label ≡ masters_used s leaf label
  unfolding masters_used
  masters-same = ap (λ ks. total_of (λ (k : Container). k.size) (filter is_master ks)) counted-same

  user-same : (user : Name) → user_used t leaf user label ≡ user_used s leaf user label
  unfolding user_used
  user-same user = ap (λ ks. total_of (λ (k : Container). k.size) ks) (
      ap (filter (of_app_that (λ app. same_name app.user user) t.leaves)) counted-same
      ∙ filter-agree (λ k. counts s.leaves leaf k ≡ true) (of_app_that (λ app. same_name app.user user) t.leaves) (of_app_that (λ app. same_name app.user user) s.leaves) by (counted s leaf label) (filter-passes (counts s.leaves leaf) (containers_on s label)))
    where
      by : (k : Container) → counts s.leaves leaf k ≡ true → of_app_that (λ app. same_name app.user user) t.leaves k ≡ of_app_that (λ app. same_name app.user user) s.leaves k
      by k e =
          by-owner user (find_app t.leaves k.tenant k.app)
          ∙ ap (λ o. option_map_or (λ (mine : Name). same_name mine user) o false) (h.owners k.tenant k.app ((and_parts (not (is_guest k)) _ e).1))
          ∙ sym (by-owner user (find_app s.leaves k.tenant k.app))

  maximum-same : maximum t leaf label ≡ maximum s leaf label
  unfolding maximum
  maximum-same = λ i. maximum_of (h.maxima i) leaf label (h.nodes i)

  guaranteed-same : guaranteed c t leaf label ≡ guaranteed c s leaf label
  unfolding guaranteed
  guaranteed-same = ap (guaranteed_of c leaf label) h.nodes

  users-same : users t leaf label ≡ users s leaf label
  unfolding users
  users-same = ap (λ names. max 1 (length (distinct names))) h.users

  -- a user's limit
  user_limit-same : (size : Resource) → user_limit c t leaf label size ≡ user_limit c s leaf label size
  unfolding user_limit
  user_limit-same size = λ i. smaller_of
      (greater_of (scale_ceil (greater_of (guaranteed-same i) (plus (used-same i) size)) 1 (users-same i))
      (scale_ceil (greater_of (guaranteed-same i) (plus (used-same i) size)) (setting (λ row. row.leaf.minimum_user_limit_percent) 0 c leaf) whole))
      (scale_floor (guaranteed-same i) (setting (λ row. row.leaf.user_limit_factor) 0 c leaf) 100)

  -- that of the masters
  master_limit-same : master_limit c t leaf label ≡ master_limit c s leaf label
  unfolding master_limit
  master_limit-same = ap (λ most. scale_floor most (setting (λ row. row.leaf.maximum_am_resource_percent) 0 c leaf) whole) maximum-same

  share-same : (what : What) (size : Resource) → within_master_share c t label leaf what size ≡ within_master_share c s label leaf what size
  unfolding within_master_share
  share-same Master size = λ i. fits_in (plus (masters-same i) size) (master_limit-same i) || not (list_any is_master (counted-same i))
  share-same (Asked asked priority) size = refl

-- a request of the leaf keeps the limits in both states, or in neither
limits-same : (c : Config) (s t : State) (label : Label) (item : Item) → LimitsAlike s t label item.leaf → keeps_own_limits c t label item ≡ keeps_own_limits c s label item
unfolding within_user_limit
limits-same c s t label item h = λ i.
    fits_in (plus (user-same c s t label item.leaf h item.user i) item.size) (user_limit-same c s t label item.leaf h item.size i)
    && share-same c s t label item.leaf h item.what item.size i

-- ---- the requests

-- an application stands in the leaf, and is known
abbrev IsOwn : State → Path → Application → Type 0
IsOwn s leaf app = (app.leaf ≡ leaf) × IsKnown s.leaves app.leaf app.name

own-apps : (s : State) (leaf : Path) → Kept s → Tabled s → AllByRecursion (IsOwn s leaf) (apps_of s.leaves leaf)
own-apps s leaf kept tabled =
    go (find (λ row. same_path row.leaf leaf) s.leaves)
    (Each-found (λ row. AllByRecursion (IsOwn s row.leaf) row.apps) (λ row. same_path row.leaf leaf) s.leaves
    (Each-with _ _ (λ row. AllByRecursion (IsOwn s row.leaf) row.apps) (λ row f k. Each-with _ _ (IsOwn s row.leaf) (λ app a b. (a.at, b)) row.apps f k) s.leaves tabled.finds kept.apps))
    (found-passes (λ row. same_path row.leaf leaf) s.leaves)
  where
    go : (o : Option LeafApps) → IfSome o (λ row. AllByRecursion (IsOwn s row.leaf) row.apps) → IfSome o (λ row. same_path row.leaf leaf ≡ true) → AllByRecursion (IsOwn s leaf) (option_map_or (λ row. row.apps) o [])
    go None k e = tt
    go (Some row) k e = Each-weaker _ _ (λ app j. (j.0 ∙ same-path row.leaf leaf e, j.1)) row.apps k

-- a container of an application of the leaf is the leaf's own
of-own : (s : State) (leaf : Path) (app : Application) (k : Container) → IsOwn s leaf app → is_of (tenant_of app.leaf) app.name k ≡ true → is_below s.leaves leaf k ≡ true
of-own s leaf app k own e =
    let tenant : k.tenant ≡ tenant_of app.leaf = same-name_sym k.tenant (tenant_of app.leaf) ((and_parts _ _ e).0) in
    let name : k.app ≡ app.name = same-name_sym k.app app.name ((and_parts (same_name k.tenant (tenant_of app.leaf)) _ e).1) in
    (λ i. is_in leaf (leaf_of s.leaves (tenant i) (name i))) ∙ ap (is_in leaf) own.1 ∙ ap (is_within leaf) own.0 ∙ within-self leaf

runs-same : (s t : State) (label : Label) (leaf : Path) → Alike s t label leaf → (app : Application) → IsOwn s leaf app → runs t app ≡ runs s app
unfolding runs
runs-same s t label leaf h app own = sym (mine (containers_on t app.home)) ∙ ap (list_any (is_master_of app)) (h.own app.home) ∙ mine (containers_on s app.home)
  where
    mine : (ks : List Container) → list_any (is_master_of app) (filter (is_below s.leaves leaf) ks) ≡ list_any (is_master_of app) ks
    mine ks = any-filter (is_master_of app) (is_below s.leaves leaf) (λ k e. of-own s leaf app k own ((and_parts (is_master k) _ e).1)) ks

requests-same : (s t : State) (label : Label) (leaf : Path) → Alike s t label leaf → AllByRecursion (IsOwn s leaf) (apps_of s.leaves leaf) → requests_at t label leaf ≡ requests_at s label leaf
requests-same s t label leaf h own = ap (requests_of t label) h.apps ∙ (λ i. map master_item (masters i) ++ flat_map (asks_of label) (running i))
  where
    masters : filter (λ app. waits t app && same_label app.home label) (apps_of s.leaves leaf) ≡ filter (λ app. waits s app && same_label app.home label) (apps_of s.leaves leaf)
    masters = filter-agree (IsOwn s leaf) _ _ (λ app k. ap (λ r. not r && same_label app.home label) (runs-same s t label leaf h app k)) (apps_of s.leaves leaf) own

    running : filter (runs t) (apps_of s.leaves leaf) ≡ filter (runs s) (apps_of s.leaves leaf)
    running = filter-agree (IsOwn s leaf) (runs t) (runs s) (runs-same s t label leaf h) (apps_of s.leaves leaf) own

-- each request of the leaf names it
requests-own : (s : State) (label : Label) (leaf : Path) (apps : List Application) → AllByRecursion (IsOwn s leaf) apps → AllByRecursion (λ item. item.leaf ≡ leaf) (requests_of s label apps)
requests-own s label leaf apps own = Each-append (λ (item : Item). item.leaf ≡ leaf) (map master_item (filter (λ app. waits s app && same_label app.home label) apps)) (flat_map (asks_of label) (filter (runs s) apps))
    (Each-map (IsOwn s leaf) (λ (item : Item). item.leaf ≡ leaf) master_item (λ app k. k.0) (filter (λ app. waits s app && same_label app.home label) apps) (Each-filter (IsOwn s leaf) _ apps own))
    (Each-flat (IsOwn s leaf) (λ (item : Item). item.leaf ≡ leaf) (asks_of label) (λ app k. asked app k.0 (filter (λ ask. same_label ask.label label && nat_lt 0 ask.count) app.asks)) (filter (runs s) apps) (Each-filter (IsOwn s leaf) (runs s) apps own))
  where
    asked : (app : Application) → app.leaf ≡ leaf → (asks : List AskRow) → AllByRecursion (λ item. item.leaf ≡ leaf) (map (ask_item app) asks)
    asked app at asks = Each-map (λ (ask : AskRow). app.leaf ≡ leaf) (λ (item : Item). item.leaf ≡ leaf) (ask_item app) (λ ask e. e) asks (Each-all (λ (ask : AskRow). app.leaf ≡ leaf) (λ ask. at) asks)

-- what is a lull in one of two states that limit the leaf alike is one in the other, where what holds of all requests in the one holds of all in the other
pub lasts-limited : (c : Config) (s t : State) (label : Label) (leaf : Path) → Kept s → Tabled s → LimitsAlike s t label leaf
    → ((P : Item → Type 0) → AllByRecursion P (requests_at s label leaf) → AllByRecursion P (requests_at t label leaf)) → Lasts c s t label leaf
lasts-limited c s t label leaf kept tabled h stay least room lull = record {
  above = stay (λ item. fits_in least item.size ≡ true) lull.above;
  none = stay (λ item. fits_in item.size room ≡ true → keeps_own_limits c t label item ≡ false)
      (Each-with (λ item. item.leaf ≡ leaf) (λ item. fits_in item.size room ≡ true → keeps_own_limits c s label item ≡ false) (λ item. fits_in item.size room ≡ true → keeps_own_limits c t label item ≡ false)
      (λ item at no fits. limits-same c s t label item (subst (LimitsAlike s t label) (sym at) h) ∙ no fits) (requests_at s label leaf)
      (requests-own s label leaf (apps_of s.leaves leaf) (own-apps s leaf kept tabled)) lull.none);
}

-- so it is where they are alike altogether
lasts : (c : Config) (s t : State) (label : Label) (leaf : Path) → Kept s → Tabled s → Alike s t label leaf → Lasts c s t label leaf
lasts c s t label leaf kept tabled h =
    lasts-limited c s t label leaf kept tabled (limits-alike s t label leaf h) (λ P. subst (AllByRecursion P) (sym (requests-same s t label leaf h (own-apps s leaf kept tabled))))

-- ---- other leaves

-- a leaf that the other is not within keeps its applications
apps-stay : (leaf other : Path) (change : LeafApps → LeafApps) → ((row : LeafApps) → (change row).leaf ≡ row.leaf) → is_within leaf other ≡ false → (leaves : List LeafApps) → apps_of (in_leaf other change leaves) leaf ≡ apps_of leaves leaf
apps-stay leaf other change keeps off leaves = ap (λ o. option_map_or (λ (row : LeafApps). row.apps) o [])
    (find-other (λ row. same_path row.leaf leaf) (λ row. same_path row.leaf other) change (λ row i. same_path (keeps row i) leaf) (λ row e. ap (λ l. same_path l other) (same-path row.leaf leaf e) ∙ apart (same_path leaf other) refl) leaves)
  where
    apart : (b : Bool) → same_path leaf other ≡ b → b ≡ false
    apart true e = absurd (true≢false (sym (within-self leaf) ∙ ap (is_within leaf) (same-path leaf other e) ∙ off))
    apart false e = refl

-- what is of the leaf is not of an application of the other
not-of : (s : State) (leaf other : Path) (app : Name) → IsKnown s.leaves other app → is_within leaf other ≡ false → (tenant name : Name) → is_in leaf (leaf_of s.leaves tenant name) ≡ true → (same_name tenant (tenant_of other) && same_name name app) ≡ false
not-of s leaf other app known off tenant name e = go (same_name tenant (tenant_of other) && same_name name app) refl
  where
    go : (b : Bool) → (same_name tenant (tenant_of other) && same_name name app) ≡ b → b ≡ false
    go true f =
        let of : tenant ≡ tenant_of other = same-name_sym tenant (tenant_of other) ((and_parts _ _ f).0) in
        let named : name ≡ app = same-name_sym name app ((and_parts (same_name tenant (tenant_of other)) _ f).1) in
        absurd (true≢false (sym e ∙ (λ i. is_in leaf (leaf_of s.leaves (of i) (named i))) ∙ ap (is_in leaf) known ∙ off))
    go false f = refl

pub lulls-last_ending : DoLullsLastEnding
unfolding end changed_at
lulls-last_ending c s k other label leaf kept tabled there once found off = lasts c s (end c s k) label leaf kept tabled (record {
  apps = refl;
  own = λ p. ap (filter (is_below s.leaves leaf)) (on-end c s k there p) ∙ gone p (same_label k.id.label p) refl;
  found = Each-all (λ x. leaf_of s.leaves x.tenant x.app ≡ leaf_of s.leaves x.tenant x.app) (λ x. refl) (containers_on (end c s k) label);
  owners = λ tenant name e. refl;
  nodes = total-same s (end c s k) label (end-same c s k);
  maxima = refl;
})
  where
    away : is_below s.leaves leaf k ≡ false
    away = ap (is_in leaf) found ∙ off

    gone : (p : Label) (b : Bool) → same_label k.id.label p ≡ b → filter (is_below s.leaves leaf) (cond b (without (λ x. same_id x.id k.id) (containers_on s p)) (containers_on s p)) ≡ filter (is_below s.leaves leaf) (containers_on s p)
    gone p true at = filter-rest (is_below s.leaves leaf) (λ x. same_id x.id k.id) (containers_on s p)
        (ap (filter (is_below s.leaves leaf)) (subst (λ l. filter (λ x. same_id x.id k.id) (containers_on s l) ≡ k ∷ []) (same-label_path k.id.label p at) once) ∙ (λ i. cond (away i) (k ∷ []) []))
    gone p false at = refl

pub lulls-last_placing : DoLullsLastPlacing
unfolding place changed_at container_of
lulls-last_placing c s node item label leaf kept tabled there known off = lasts c s (place c node item s) label leaf kept tabled (record {
  apps = apps-stay leaf item.leaf (with_app item.app (taken item.what)) (λ row. refl) off s.leaves;
  own = λ p. ap (filter (is_below s.leaves leaf)) (on-place c node item s there p) ∙ more p (same_label node.label p);
  found = Each-all _ (λ k. leaf_of-kept item.leaf (with_app item.app (taken item.what)) (with_app-names item.app (taken item.what)) s.leaves k.tenant k.app) (containers_on (place c node item s) label);
  owners = λ tenant name e. owner-changed item.leaf item.app (taken item.what) (taken-name item.what) (taken-user item.what) s.leaves tenant name;
  nodes = total-same s (place c node item s) label (place-same c node item s);
  maxima = refl;
})
  where
    away : is_below s.leaves leaf (container_of c s node item) ≡ false
    away = ap (is_in leaf) known ∙ off

    more : (p : Label) (b : Bool) → filter (is_below s.leaves leaf) (cond b (containers_on s p ++ container_of c s node item ∷ []) (containers_on s p)) ≡ filter (is_below s.leaves leaf) (containers_on s p)
    more p true =
        filter-append (is_below s.leaves leaf) (containers_on s p) (container_of c s node item ∷ [])
        ∙ (λ i. filter (is_below s.leaves leaf) (containers_on s p) ++ cond (away i) (container_of c s node item ∷ []) []) ∙ append-nil (filter (is_below s.leaves leaf) (containers_on s p))
    more p false = refl

pub lulls-last_asking : DoLullsLastAsking
lulls-last_asking c s other name ask label leaf kept tabled off = lasts c s (record s { leaves = in_leaf other (with_app name (set_ask ask)) s.leaves }) label leaf kept tabled (record {
  apps = apps-stay leaf other (with_app name (set_ask ask)) (λ row. refl) off s.leaves;
  own = λ p. refl;
  found = Each-all _ (λ k. leaf_of-kept other (with_app name (set_ask ask)) (with_app-names name (set_ask ask)) s.leaves k.tenant k.app) (containers_on s label);
  owners = λ tenant app e. owner-changed other name (set_ask ask) (λ app. refl) (λ app. refl) s.leaves tenant app;
  nodes = refl;
  maxima = refl;
})

maxima-ended : (c : Config) (ks : List Container) (s : State) → (all_end c ks s).maxima ≡ s.maxima
unfolding end changed_at
maxima-ended c [] s = refl
maxima-ended c (k ∷ ks) s = maxima-ended c ks (end c s k)

pub lulls-last_finishing : DoLullsLastFinishing
unfolding app_finishes
lulls-last_finishing c s found label leaf ordered kept tabled known off = lasts c s (app_finishes c found s) label leaf kept tabled (record {
  apps = apps-stay leaf found.leaf (finished found.name) (λ row. refl) off s.leaves;
  own = λ p. ap (filter (is_below s.leaves leaf)) (on-finish c s found ordered p)
      ∙ filter-filter (λ k. not (is_of (tenant_of found.leaf) found.name k)) (is_below s.leaves leaf) (λ k e. ap not (away k.tenant k.app e)) (containers_on s p);
  found = Each-all _ (λ k. leaf_of-kept found.leaf (finished found.name) (finished-names found.name) s.leaves k.tenant k.app) (containers_on (app_finishes c found s) label);
  owners = λ tenant name e. ap (option_map (λ app. app.user)) (find-finished found.leaf found.name s.leaves tenant name (away tenant name e));
  nodes = total-same s (app_finishes c found s) label (finish-same c found s);
  maxima = maxima-ended c (all_own s (tenant_of found.leaf) found.name) s;
})
  where
    away : (tenant name : Name) → is_in leaf (leaf_of s.leaves tenant name) ≡ true → (same_name tenant (tenant_of found.leaf) && same_name name found.name) ≡ false
    away = not-of s leaf found.leaf found.name known off

pub lulls-last_submitting : DoLullsLastSubmitting
lulls-last_submitting c s app label leaf kept tabled unused off = lasts c s (record s { leaves = in_leaf app.leaf (submitted app) s.leaves }) label leaf kept tabled (record {
  apps = apps-stay leaf app.leaf (submitted app) (λ row. refl) off s.leaves;
  own = λ p. refl;
  found = Each-weaker _ _ (λ k there. submit-extends app s.leaves unused k.tenant k.app there) (containers_on s label) (kept-on s kept label);
  owners = λ tenant name e. ap (option_map (λ app. app.user)) (find-submitted app s.leaves unused tenant name (some (leaf_of s.leaves tenant name) e));
  nodes = refl;
  maxima = refl;
})
  where
    some : (o : Option Path) → is_in leaf o ≡ true → is_some o ≡ true
    some None e = e
    some (Some path) e = refl
