-- On a partition that a tenant alone may use the whole cluster and the tenant's own have the same requests, limits, order and choice.
use Rattle.std.proofs.Common.{◌≡◌, refl, sym, ap, ◌∙◌, subst, max, Bool, true, false, cond, not, ◌&&◌, ◌||◌, List, [], ◌∷◌, ◌++◌, map, length, Option, Some, None, filter, find}
use Rattle.std.specs.Prelude.{nat_lt, flat_map}
use Rattle.std.specs.List.{list_all, list_any, position_or_len}
use Rattle.std.specs.Option.{option_map, option_map_or, option_and_then, option_or}
use Rattle.std.specs.Ordering.{is_gt}
use Rattle.std.specs.Cmp.Lexicographic.{bytes_decides}
use mathlib.Core.Bool.{true≢false}
use Rattle.ynl_resource.specs.Amounts.{less, plus, fits_in, greater_of, smaller_of, scale_floor, scale_ceil}
use Rattle.ynl_resource.specs.declared.amounts.Resource.{Resource}
use Rattle.ynl_resource.specs.Names.{same_name, same_label, is_default, root, top_level, same_path, is_within, way_to, tenant_of}
use Rattle.ynl_resource.specs.declared.names.Name.{Name}
use Rattle.ynl_resource.specs.declared.labels.Label.{Label}
use Rattle.ynl_resource.specs.declared.labels.Label.TheVariants.{Unlabelled}
use Rattle.ynl_resource.specs.declared.paths.Path.{Path}
use Rattle.ynl_model.specs.Nodes.{is_exclusive, total as total_on}
use Rattle.ynl_model.specs.declared.nodes.Node.{Node}
use Rattle.ynl_model.specs.Queues.{Config, nested_floor, maximum_on, maximum as maximum_of, guaranteed as guaranteed_of}
use Rattle.ynl_resource.specs.Ranges.{whole}
use Rattle.ynl_model.specs.Applications.{Application, LeafApps, row_of, leaf_of, find_app, apps_of, all_apps}
use Rattle.ynl_model.specs.Cluster.{State, containers_on, sizes, is_master, is_of, is_guest, is_below, of_app_that, maximum, guaranteed, free, counted, used, user_used, masters_used, waits, runs}
use Rattle.ynl_model.specs.declared.proposals.What.{What}
use Rattle.ynl_model.specs.declared.proposals.What.TheVariants.{Master, Ask as Asked}
use Rattle.ynl_model.specs.declared.containers.Placed.{Placed as Container}
use Rattle.ynl_model.specs.Limits.{distinct, users, user_limit, master_limit}
use Rattle.ynl_model.specs.Service.{Item, master_item, ask_item, asks_of, masters_for, asks_for, items_for, within_maximum, within_user_limit, within_master_share, is_eligible, has_room, some_eligible, takes_guests, guests_for, standing, rank, key, key_order, is_first, first_of, place_in_leaf, choice}
use Rattle.ynl_model.specs.View.{restrict}
use Rattle.std.proofs.lemmas.List.{map-append}
use Rattle.ynl_laws.proofs.Isolating.Restricted.{setting-restrict, guaranteed-restrict}
use Rattle.ynl_laws.proofs.Lists.{all-same, all-filter, all-flat, all-self, fold-same, find-in, find-same, find-map, filter-same, filter-in, filter-none, filter-constant, map-map, filter-map, prefix-map, flat-filter, flat-map, flat-same, filter-filter, all-constant, map-same}
use Rattle.ynl_laws.proofs.Logic.{guard-same, none-either}
use Rattle.ynl_laws.proofs.Names.{same-path, same-name_sym, same-label_path, way-within}
use Rattle.std.proofs.lemmas.Bool.{and_from, and_parts}
use Rattle.std.proofs.lemmas.List.Folds.{list_all-map, list_all-append}
use Rattle.std.proofs.lemmas.List.Elements.{filter-append}

-- ---- the two clusters

-- whether an application is the tenant's
abbrev pub of_tenant : Name → Application → Bool
of_tenant t app = is_within (top_level t) app.leaf

-- an application with its asks for one label alone
abbrev pub only : Label → Application → Application
only p app = record app { asks = filter (λ ask. same_label ask.label p) app.asks }

-- a leaf's row with such applications alone
abbrev pub only_row : Label → LeafApps → LeafApps
only_row p row = record row { apps = map (only p) row.apps }

-- whether a leaf is the tenant's
abbrev pub is_row_of : Name → LeafApps → Bool
is_row_of t row = is_within (top_level t) row.leaf

-- an application that has nothing to do with a partition unless that is its home: no ask names it
abbrev pub keeps_home : Label → Application → Bool
keeps_home p app = same_label app.home p || list_all (λ ask. not (same_label ask.label p)) app.asks

-- the tenant's own cluster holds of the whole one the partition, its containers, and the tenant's applications with their asks for it;
-- and in the whole one only the tenant has containers there, or applications at home there
pub record Holds (t : Name) (p : Label) (s u : State) : Type 0 where
  pub total : total_on s.nodes p ≡ total_on u.nodes p
  pub leaves : u.leaves ≡ map (only_row p) (filter (is_row_of t) s.leaves)
  pub maxima : (queue : Path) → is_within (top_level t) queue ≡ true → maximum_on s.maxima queue p ≡ maximum_on u.maxima queue p
  pub on : containers_on s p ≡ containers_on u p
  pub owned : list_all (λ container. same_name container.tenant t) (containers_on s p) ≡ true
  pub rooted : list_all (λ row. not (same_path row.leaf root)) s.leaves ≡ true
  pub placed : list_all (λ row. list_all (λ app. same_path app.leaf row.leaf) row.apps) s.leaves ≡ true
  pub homes : list_all (λ app. not (same_label app.home p) || of_tenant t app) (all_apps s.leaves) ≡ true
  pub asked : list_all (keeps_home p) (all_apps s.leaves) ≡ true

flat-only : (p : Label) (rows : List LeafApps) → all_apps (map (only_row p) rows) ≡ map (only p) (all_apps rows)
flat-only p [] = refl
flat-only p (row ∷ rows) = ap (λ apps. map (only p) row.apps ++ apps) (flat-only p rows) ∙ sym (map-append (only p) row.apps (all_apps rows))

-- the applications of a tenant's leaves are the tenant's
apps-filter : (t : Name) (rows : List LeafApps) → list_all (λ row. list_all (λ app. same_path app.leaf row.leaf) row.apps) rows ≡ true → all_apps (filter (is_row_of t) rows) ≡ filter (of_tenant t) (all_apps rows)
apps-filter t [] h = refl
apps-filter t (row ∷ rows) h =
    step (is_row_of t row)
    ∙ (λ i. cond (is_row_of t row) row.apps [] ++ apps-filter t rows (and_parts (list_all (λ app. same_path app.leaf row.leaf) row.apps) _ h).1 i)
    ∙ ap (λ apps. apps ++ filter (of_tenant t) (all_apps rows)) (sym (filter-same (λ app. same_path app.leaf row.leaf) (of_tenant t) (λ app. is_row_of t row)
    (λ app e. ap (is_within (top_level t)) (same-path app.leaf row.leaf e)) row.apps (and_parts _ _ h).0 ∙ filter-constant (is_row_of t row) row.apps))
    ∙ sym (filter-append (of_tenant t) row.apps (all_apps rows))
  where
    step : (b : Bool) → all_apps (cond b (row ∷ filter (is_row_of t) rows) (filter (is_row_of t) rows)) ≡ cond b row.apps [] ++ all_apps (filter (is_row_of t) rows)
    step true = refl
    step false = refl

-- a leaf whose tenant is t is within t's queue
pub tenant-within : (t : Name) (leaf : Path) → not (same_path leaf root) ≡ true → same_name (tenant_of leaf) t ≡ true → is_within (top_level t) leaf ≡ true
tenant-within t [] below h = absurd (true≢false (sym below))
tenant-within t (name ∷ leaf) below h = and_from _ _ ((bytes_decides t name).1 (sym ((bytes_decides name t).0 h))) refl

pub option-only : {A : Type 0} (test : Application → A) (p : Label) (none : A) → ((app : Application) → test (only p app) ≡ test app) → (o : Option Application) →
    option_map_or test (option_map (only p) o) none ≡ option_map_or test o none
option-only test p none h None = refl
option-only test p none h (Some app) = h app

module _ (c : Config) (t : Name) (p : Label) (home : is_default p ≡ false) (exclusive : is_exclusive c.labels p ≡ true) (s u : State) (h : Holds t p s u) where
  abbrev d : Config
  d = restrict c t

  apps-own : all_apps u.leaves ≡ map (only p) (filter (of_tenant t) (all_apps s.leaves))
  apps-own = ap all_apps h.leaves ∙ flat-only p (filter (is_row_of t) s.leaves) ∙ ap (map (only p)) (apps-filter t s.leaves h.placed)

  -- a row of the tenant is found in both
  find-own : (test : LeafApps → Bool) → ((row : LeafApps) → test (only_row p row) ≡ test row) → ((row : LeafApps) → not (same_path row.leaf root) ≡ true → test row ≡ true → is_row_of t row ≡ true) → find test u.leaves ≡ option_map (only_row p) (find test s.leaves)
  find-own test same own =
      ap (find test) h.leaves ∙ find-map (only_row p) test (filter (is_row_of t) s.leaves)
      ∙ ap (λ (test : LeafApps → Bool). option_map (only_row p) (find test (filter (is_row_of t) s.leaves))) (λ i row. same row i)
      ∙ ap (option_map (only_row p)) (find-in (λ row. not (same_path row.leaf root)) test (is_row_of t) own s.leaves h.rooted)

  row-own : (name : Name) → row_of u.leaves t name ≡ option_map (only_row p) (row_of s.leaves t name)
  row-own name = find-own (λ row. same_name (tenant_of row.leaf) t && list_any (same_name name) row.names) (λ row. refl) (λ row below e. tenant-within t row.leaf below (and_parts _ _ e).0)

  pub leaf-own : (name : Name) → leaf_of u.leaves t name ≡ leaf_of s.leaves t name
  unfolding leaf_of
  leaf-own name = ap (option_map (λ row. row.leaf)) (row-own name) ∙ go (row_of s.leaves t name)
    where
      go : (o : Option LeafApps) → option_map (λ row. row.leaf) (option_map (only_row p) o) ≡ option_map (λ row. row.leaf) o
      go None = refl
      go (Some row) = refl

  pub app-own : (name : Name) → find_app u.leaves t name ≡ option_map (only p) (find_app s.leaves t name)
  unfolding find_app
  app-own name = ap (option_and_then (λ row. find (λ app. same_name app.name name) row.apps)) (row-own name) ∙ go (row_of s.leaves t name)
    where
      go : (o : Option LeafApps) → option_and_then (λ row. find (λ app. same_name app.name name) row.apps) (option_map (only_row p) o) ≡ option_map (only p) (option_and_then (λ row. find (λ app. same_name app.name name) row.apps) o)
      go None = refl
      go (Some row) = find-map (only p) (λ app. same_name app.name name) row.apps

  pub apps_of-own : (leaf : Path) → is_within (top_level t) leaf ≡ true → apps_of u.leaves leaf ≡ map (only p) (apps_of s.leaves leaf)
  apps_of-own leaf w =
      ap (λ o. option_map_or (λ row. row.apps) o []) (find-own (λ row. same_path row.leaf leaf) (λ row. refl) (λ row below e. ap (is_within (top_level t)) (same-path row.leaf leaf e) ∙ w)) ∙ go (find (λ row. same_path row.leaf leaf) s.leaves)
    where
      go : (o : Option LeafApps) → option_map_or (λ row. row.apps) (option_map (only_row p) o) [] ≡ map (only p) (option_map_or (λ row. row.apps) o [])
      go None = refl
      go (Some row) = refl

  -- what a container's application passes is the same
  app-test : (test : Application → Bool) → ((app : Application) → test (only p app) ≡ test app) → (k : Container) → same_name k.tenant t ≡ true → of_app_that test s.leaves k ≡ of_app_that test u.leaves k
  app-test test same k own =
      let at : k.tenant ≡ t = same-name_sym k.tenant t own in
      (λ i. option_map_or test (find_app s.leaves (at i) k.app) false) ∙ sym (option-only test p false same (find_app s.leaves t k.app)) ∙ sym (ap (λ o. option_map_or test o false) (app-own k.app))
      ∙ (λ i. option_map_or test (find_app u.leaves (sym at i) k.app) false)

  pub below-own : (q : Path) (k : Container) → same_name k.tenant t ≡ true → is_below s.leaves q k ≡ is_below u.leaves q k
  below-own q k own =
      let at : k.tenant ≡ t = same-name_sym k.tenant t own in
      (λ i. option_map_or (is_within q) (leaf_of s.leaves (at i) k.app) false) ∙ sym (ap (λ o. option_map_or (is_within q) o false) (leaf-own k.app)) ∙ (λ i. option_map_or (is_within q) (leaf_of u.leaves (sym at i) k.app) false)

  counted-own : (q : Path) → counted s q p ≡ counted u q p
  counted-own q =
      filter-same (λ k. same_name k.tenant t) _ _ (λ k own. ap (λ b. not (is_guest k) && b) (below-own q k own)) (containers_on s p) h.owned
      ∙ ap (filter (λ k. not (is_guest k) && is_below u.leaves q k)) h.on

  pub used-own : (q : Path) → used s q p ≡ used u q p
  unfolding used
  used-own q = ap sizes (counted-own q)

  counted-owned : (q : Path) → list_all (λ k. same_name k.tenant t) (counted s q p) ≡ true
  counted-owned q = all-filter _ _ (containers_on s p) h.owned

  user_used-own : (q : Path) (user : Name) → user_used s q user p ≡ user_used u q user p
  unfolding user_used
  user_used-own q user = ap sizes
      (filter-same (λ k. same_name k.tenant t) _ _ (λ k own. app-test (λ app. same_name app.user user) (λ app. refl) k own) (counted s q p) (counted-owned q)
      ∙ ap (filter (of_app_that (λ app. same_name app.user user) u.leaves)) (counted-own q))

  pub masters_used-own : (q : Path) → masters_used s q p ≡ masters_used u q p
  unfolding masters_used
  masters_used-own q = ap (λ ks. sizes (filter is_master ks)) (counted-own q)

  pub maximum-own : (q : Path) → list_all (is_within (top_level t)) (way_to q) ≡ true → maximum s q p ≡ maximum u q p
  unfolding maximum maximum_of
  maximum-own q all = fold-same (is_within (top_level t)) _ _ (λ above step w. ap (λ share. scale_floor above share whole) (h.maxima step w)) (way_to q) all (total_on s.nodes p)
      ∙ ap (nested_floor (λ step. maximum_on u.maxima step p) q) h.total

  pub guaranteed-own : (q : Path) → is_within (top_level t) q ≡ true → guaranteed c s q p ≡ guaranteed d u q p
  unfolding guaranteed
  guaranteed-own q w = ap (guaranteed_of c q p) h.total ∙ sym (guaranteed-restrict c t q p (total_on u.nodes p) w)

  users-own : (leaf : Path) → is_within (top_level t) leaf ≡ true → users s leaf p ≡ users u leaf p
  unfolding users
  users-own leaf w =
      let homed : Application → Bool = λ app. is_default p || same_label app.home p in
      ap (λ names. max 1 (length (distinct names)))
      (sym (ap (λ apps. map (λ app. app.user) (filter homed apps)) (apps_of-own leaf w)
      ∙ ap (map (λ app. app.user)) (filter-map (only p) homed (apps_of s.leaves leaf)) ∙ map-map (λ app. app.user) (only p) (filter homed (apps_of s.leaves leaf))))

  user_limit-own : (leaf : Path) (size : Resource) → is_within (top_level t) leaf ≡ true → user_limit c s leaf p size ≡ user_limit d u leaf p size
  unfolding user_limit
  user_limit-own leaf size w =
      let base : greater_of (guaranteed c s leaf p) (plus (used s leaf p) size) ≡ greater_of (guaranteed d u leaf p) (plus (used u leaf p) size) =
      λ i. greater_of (guaranteed-own leaf w i) (plus (used-own leaf i) size) in
      λ i. smaller_of
      (greater_of (scale_ceil (base i) 1 (users-own leaf w i)) (scale_ceil (base i) (sym (setting-restrict c t (λ row. row.leaf.minimum_user_limit_percent) 0 leaf w) i) whole))
      (scale_floor (guaranteed-own leaf w i) (sym (setting-restrict c t (λ row. row.leaf.user_limit_factor) 0 leaf w) i) 100)

  master_limit-own : (leaf : Path) → is_within (top_level t) leaf ≡ true → master_limit c s leaf p ≡ master_limit d u leaf p
  unfolding master_limit
  master_limit-own leaf w = λ i. scale_floor (maximum-own leaf (way-within t leaf w) i) (sym (setting-restrict c t (λ row. row.leaf.maximum_am_resource_percent) 0 leaf w) i) whole

  pub within_maximum-own : (item : Item) → is_within (top_level t) item.leaf ≡ true → within_maximum s p item ≡ within_maximum u p item
  unfolding within_maximum
  within_maximum-own item w = λ i. fits_in (plus (used-own root i) item.size) (maximum-own root refl i)
      && all-same (is_within (top_level t)) (λ q. fits_in (plus (used s q p) item.size) (maximum s q p)) (λ q. fits_in (plus (used u q p) item.size) (maximum u q p))
      (λ q v j. fits_in (plus (used-own q j) item.size) (maximum-own q (way-within t q v) j)) (way_to item.leaf) (way-within t item.leaf w) i

  pub within_user_limit-own : (item : Item) → is_within (top_level t) item.leaf ≡ true → within_user_limit c s p item ≡ within_user_limit d u p item
  unfolding within_user_limit
  within_user_limit-own item w = λ i. fits_in (plus (user_used-own item.leaf item.user i) item.size) (user_limit-own item.leaf item.size w i)

  pub within_master_share-own : (leaf : Path) (what : What) (size : Resource) → is_within (top_level t) leaf ≡ true → within_master_share c s p leaf what size ≡ within_master_share d u p leaf what size
  unfolding within_master_share
  within_master_share-own leaf Master size w = λ i. fits_in (plus (masters_used-own leaf i) size) (master_limit-own leaf w i) || not (list_any is_master (counted-own leaf i))
  within_master_share-own leaf (Asked label priority) size w = refl

  -- ---- requests

  pub runs-own : (app : Application) → same_label app.home p ≡ true → runs s app ≡ runs u (only p app)
  unfolding runs
  runs-own app e =
      ap (λ l. list_any (λ k. is_master k && is_of (tenant_of app.leaf) app.name k) (containers_on s l)) (same-label_path app.home p e)
      ∙ ap (list_any (λ k. is_master k && is_of (tenant_of app.leaf) app.name k)) h.on
      ∙ ap (λ l. list_any (λ k. is_master k && is_of (tenant_of app.leaf) app.name k) (containers_on u l)) (sym (same-label_path app.home p e))

  masters_for-own : masters_for s p ≡ masters_for u p
  masters_for-own =
      let waiting : Application → Bool = λ app. waits u (only p app) && same_label app.home p in
      sym (ap (λ apps. map master_item (filter (λ app. waits u app && same_label app.home p) apps)) apps-own
      ∙ ap (map master_item) (filter-map (only p) (λ app. waits u app && same_label app.home p) (filter (of_tenant t) (all_apps s.leaves)))
      ∙ map-map master_item (only p) (filter waiting (filter (of_tenant t) (all_apps s.leaves)))
      ∙ ap (map master_item) (filter-in (λ app. not (same_label app.home p) || of_tenant t app) waiting (of_tenant t)
      (λ app good e. home-is app (and_parts _ _ e).1 good) (all_apps s.leaves) h.homes)
      ∙ ap (map master_item) (filter-same (λ app. true) waiting (λ app. waits s app && same_label app.home p)
      (λ app _. guard-same _ _ (same_label app.home p) (λ e. ap not (sym (runs-own app e)))) (all_apps s.leaves) (all-constant true refl (all_apps s.leaves))))
    where
      home-is : (app : Application) → same_label app.home p ≡ true → (not (same_label app.home p) || of_tenant t app) ≡ true → of_tenant t app ≡ true
      home-is app e good = (λ i. not (sym e i) || of_tenant t app) ∙ good

  -- what an application asks for on the partition is what its part asks for
  asks_of-only : (app : Application) → asks_of p (only p app) ≡ asks_of p app
  asks_of-only app = ap (map (ask_item app)) (filter-filter (λ ask. same_label ask.label p) (λ ask. same_label ask.label p && nat_lt 0 ask.count) (λ ask e. (and_parts _ _ e).0) app.asks)

  -- an application that does not name the partition asks for nothing there
  asks_of-none : (app : Application) → list_all (λ ask. not (same_label ask.label p)) app.asks ≡ true → asks_of p app ≡ []
  asks_of-none app all = sym (asks_of-only app) ∙ ap (λ asks. map (ask_item app) (filter (λ ask. same_label ask.label p && nat_lt 0 ask.count) asks)) (filter-none (λ ask. same_label ask.label p) app.asks all)

  -- what an application asks for on the partition in the whole cluster, and in the tenant's own
  asked-whole : Application → List Item
  asked-whole app = cond (runs s app) (asks_of p app) []

  asked-own : Application → List Item
  asked-own app = cond (of_tenant t app) (cond (runs u (only p app)) (asks_of p (only p app)) []) []

  asked-same : (app : Application) (b : Bool) → same_label app.home p ≡ b → (not b || of_tenant t app) ≡ true → (b || list_all (λ ask. not (same_label ask.label p)) app.asks) ≡ true → asked-whole app ≡ asked-own app
  unfolding asked-whole asked-own
  asked-same app true e own keeps =
      (λ i. cond (runs-own app e i) (sym (asks_of-only app) i) []) ∙ (λ i. cond (sym own i) (cond (runs u (only p app)) (asks_of p (only p app)) []) [])
  asked-same app false e own keeps =
      (λ i. cond (runs s app) (asks_of-none app keeps i) []) ∙ none-either (runs s app)
      ∙ sym ((λ i. cond (of_tenant t app) (cond (runs u (only p app)) ((asks_of-only app ∙ asks_of-none app keeps) i) []) [])
      ∙ (λ i. cond (of_tenant t app) (none-either {A = Item} (runs u (only p app)) i) []) ∙ none-either (of_tenant t app))

  asks_for-own : asks_for s p ≡ asks_for u p
  unfolding asks_for asked-whole asked-own
  asks_for-own =
      flat-filter (asks_of p) (runs s) (all_apps s.leaves)
      ∙ flat-same (λ app. (not (same_label app.home p) || of_tenant t app) && keeps_home p app) asked-whole asked-own
      (λ app good. asked-same app (same_label app.home p) refl (and_parts _ _ good).0 (and_parts _ _ good).1) (all_apps s.leaves) (both (λ app. not (same_label app.home p) || of_tenant t app) (keeps_home p) (all_apps s.leaves) h.homes h.asked)
      ∙ sym (flat-filter (λ app. cond (runs u (only p app)) (asks_of p (only p app)) []) (of_tenant t) (all_apps s.leaves))
      ∙ sym (flat-filter (λ app. asks_of p (only p app)) (λ app. runs u (only p app)) (filter (of_tenant t) (all_apps s.leaves)))
      ∙ sym (flat-map (asks_of p) (only p) (filter (λ app. runs u (only p app)) (filter (of_tenant t) (all_apps s.leaves))))
      ∙ ap (flat_map (asks_of p)) (sym (filter-map (only p) (runs u) (filter (of_tenant t) (all_apps s.leaves))))
      ∙ ap (λ apps. flat_map (asks_of p) (filter (runs u) apps)) (sym apps-own)
    where
      both : (f g : Application → Bool) (xs : List Application) → list_all f xs ≡ true → list_all g xs ≡ true → list_all (λ x. f x && g x) xs ≡ true
      both f g [] a b = refl
      both f g (x ∷ xs) a b =
          and_from _ _ (and_from _ _ (and_parts (f x) (list_all f xs) a).0 (and_parts (g x) (list_all g xs) b).0) (both f g xs (and_parts (f x) (list_all f xs) a).1 (and_parts (g x) (list_all g xs) b).1)

  items_for-own : items_for s p ≡ items_for u p
  unfolding items_for
  items_for-own = λ i. masters_for-own i ++ asks_for-own i

  abbrev of_item : Item → Bool
  of_item item = is_within (top_level t) item.leaf

  apps-owned : list_all (of_tenant t) (all_apps u.leaves) ≡ true
  apps-owned = ap (list_all (of_tenant t)) apps-own ∙ list_all-map (of_tenant t) (only p) (filter (of_tenant t) (all_apps s.leaves)) ∙ all-self (of_tenant t) (all_apps s.leaves)

  -- every request for the partition is the tenant's
  items-owned : list_all of_item (items_for s p) ≡ true
  unfolding items_for asks_for
  items-owned = ap (list_all of_item) items_for-own ∙ list_all-append of_item (masters_for u p) (asks_for u p) ∙ and_from _ _
      (list_all-map of_item master_item (filter (λ app. waits u app && same_label app.home p) (all_apps u.leaves)) ∙ all-filter (of_tenant t) _ (all_apps u.leaves) apps-owned)
      (all-flat (of_tenant t) of_item (asks_of p)
      (λ app own. list_all-map of_item (ask_item app) (filter (λ ask. same_label ask.label p && nat_lt 0 ask.count) app.asks) ∙ all-constant (of_tenant t app) own (filter (λ ask. same_label ask.label p && nat_lt 0 ask.count) app.asks))
      (filter (runs u) (all_apps u.leaves)) (all-filter (of_tenant t) (runs u) (all_apps u.leaves) apps-owned))

  -- ---- the choice

  standing-own : (q : Path) → is_within (top_level t) q ≡ true → standing c s p q ≡ standing d u p q
  standing-own q w = λ i. record { ratio = record { used = (used-own q i).memory; guaranteed = (guaranteed-own q w i).memory }; name = (standing c s p q).name }

  place-own : (leaf : Path) (name : Name) → is_within (top_level t) leaf ≡ true → place_in_leaf s leaf name ≡ place_in_leaf u leaf name
  place-own leaf name w = sym (ap (position_or_len (λ app. same_name app.name name)) (apps_of-own leaf w) ∙ prefix-map (only p) (λ app. not (same_name app.name name)) (apps_of s.leaves leaf))

  key-own : (item : Item) → of_item item ≡ true → key c s p item ≡ key d u p item
  unfolding key
  key-own item w = λ i. record {
    standings = map-same (is_within (top_level t)) (standing c s p) (standing d u p) standing-own (way_to item.leaf) (way-within t item.leaf w) i;
    turn = place-own item.leaf item.app w i ∷ rank item.what;
  }

  first-own : (items : List Item) → list_all of_item items ≡ true → first_of (key c s p) items ≡ first_of (key d u p) items
  first-own items all =
      find-same of_item (is_first (key c s p) items) (is_first (key d u p) items)
      (λ item w. all-same of_item _ _ (λ other v i. not (is_gt (key_order (key-own item w i) (key-own other v i)))) items all) items all

  module _ (node : Node) (here : node.label ≡ p) where
    pub free-here : free s node ≡ free u node
    unfolding free
    free-here = subst (λ l. less node.size (sizes (filter (λ k. same_name k.node node.name) (containers_on s l))) ≡ less node.size (sizes (filter (λ k. same_name k.node node.name) (containers_on u l)))) (sym here)
        (ap (λ ks. less node.size (sizes (filter (λ k. same_name k.node node.name) ks))) h.on)

    eligible-here : (item : Item) → of_item item ≡ true → is_eligible c s node item ≡ is_eligible d u node item
    unfolding is_eligible
    eligible-here item w =
        let at : (f g : Label → Bool) → f p ≡ g p → f node.label ≡ g node.label = λ f g e. subst (λ l. f l ≡ g l) (sym here) e in
        λ i. fits_in item.size (free-here i) && at (λ l. within_maximum s l item) (λ l. within_maximum u l item) (within_maximum-own item w) i
        && at (λ l. within_user_limit c s l item) (λ l. within_user_limit d u l item) (within_user_limit-own item w) i
        && at (λ l. within_master_share c s l item.leaf item.what item.size) (λ l. within_master_share d u l item.leaf item.what item.size) (within_master_share-own item.leaf item.what item.size w) i

    eligible-own : filter (is_eligible c s node) (items_for s p) ≡ filter (is_eligible d u node) (items_for u p)
    eligible-own = filter-same of_item (is_eligible c s node) (is_eligible d u node) eligible-here (items_for s p) items-owned ∙ ap (filter (is_eligible d u node)) items_for-own

    no_guests : (e : Config) (w : State) → is_exclusive e.labels p ≡ true → guests_for e w node ≡ []
    unfolding guests_for
    no_guests e w x = (λ i. cond (takes_guests e (here i) && not (some_eligible e w node)) (filter (λ item. has_room w node item.size) (asks_for w Unlabelled)) [])
        ∙ (λ i. cond (not (is_default p) && not (x i) && not (some_eligible e w node)) (filter (λ item. has_room w node item.size) (asks_for w Unlabelled)) [])
        ∙ (λ i. cond (not (home i) && false && not (some_eligible e w node)) (filter (λ item. has_room w node item.size) (asks_for w Unlabelled)) [])

    -- the choice on a node of the partition is the same in both clusters
    pub choice-own : choice c s node ≡ choice d u node
    unfolding choice
    choice-own =
        (λ i. option_or (first_of (key c s (here i)) (filter (is_eligible c s node) (items_for s (here i)))) (first_of (key c s Unlabelled) (no_guests c s exclusive i)))
        ∙ (λ i. option_or (first-own (filter (is_eligible c s node) (items_for s p)) (all-filter of_item _ (items_for s p) items-owned) i) None)
        ∙ (λ i. option_or (first_of (key d u p) (eligible-own i)) None)
        ∙ sym (λ i. option_or (first_of (key d u (here i)) (filter (is_eligible d u node) (items_for u (here i)))) (first_of (key d u Unlabelled) (no_guests d u exclusive i)))
