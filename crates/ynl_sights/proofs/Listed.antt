-- What the model lists, leaf by leaf, is what the applications of the leaves want.
use Rattle.std.proofs.Common.{◌≡◌, ℕ, Bool, true, false, not, ◌&&◌, cond, nat_eq, nat_lt, ◌<◌, List, [], ◌∷◌, ◌++◌, map, filter, flat_map, Some, refl, sym, ap, ◌∙◌, arith}
use Rattle.std.specs.List.{AllByRecursion}
use Rattle.std.specs.Map.{lookup}
use Rattle.std.proofs.lemmas.Bool.Decides.{nat_tests}
use Rattle.std.proofs.lemmas.List.{map-append}
use Rattle.std.proofs.lemmas.List.Elements.{filter-append}
use Rattle.std.proofs.lemmas.Grind.{flat_map-append}
use Rattle.ynl_resource.specs.Names.{same_label}
use Rattle.ynl_resource.specs.declared.labels.Label.{Label}
use Rattle.ynl_model.specs.Applications.{Application, LeafApps, all_apps}
use Rattle.ynl_model.specs.declared.applications.AskRow.{AskRow}
use Rattle.ynl_model.specs.Cluster.{State, runs, waits}
use Rattle.ynl_model.specs.Service.{Item, ask_item, asks_for, asks_of, master_item, masters_for}
use Rattle.ynl_laws.proofs.Lists.{Each-kept, filter-agree, filter-map, flat-map, map-map}
use Rattle.ynl_slots.proofs.Lists.{all_from}
use Rattle.ynl_tables.specs.declared.apps.asks.Ask.{Ask}
use Rattle.ynl_inventory.specs.Rows.{AppRow}
use Rattle.ynl_inventory.specs.Apps.{runs_at}
use Rattle.ynl_inventory.specs.Meaning.{app_of, ask_of, leaf_numbers, leaf_of}
use Rattle.ynl_inventory.specs.Sound.{HasPartition, IsApp, IsSound}
use Rattle.ynl_inventory.proofs.Asked.{asked-there}
use Rattle.ynl_inventory.proofs.Updates.{each-number}
use Rattle.ynl_cluster.specs.requests.Laws.{in_leaf}
use Rattle.ynl_cluster.specs.requests.Requests.{ask_request, asked, item_for, master_request, master_wanted}
use Rattle.ynl_cluster.proofs.requests.Running.{label-tells, runs-means}
use Rattle.ynl_cluster.proofs.seating.Turns.{in-order}
use Rattle.ynl_cluster.specs.Cluster.{ClusterView, label_of, maxima_in, state_in, stops_in}
use Rattle.ynl_sights.specs.Copying.{items_in}

-- ---- lists of lists

pub flat-alike : {X Y : Type 0} (f g : X → List Y) → ((x : X) → f x ≡ g x) → (xs : List X) → flat_map f xs ≡ flat_map g xs
flat-alike f g same [] = refl
flat-alike f g same (x ∷ xs) = λ i. same x i ++ flat-alike f g same xs i

-- what is made of all that passes is made of it list by list
pub map-flat : {X Y Z : Type 0} (g : Y → Z) (f : X → List Y) (xs : List X) → map g (flat_map f xs) ≡ flat_map (λ x. map g (f x)) xs
map-flat g f [] = refl
map-flat g f (x ∷ xs) = map-append g (f x) (flat_map f xs) ∙ ap (λ rest. map g (f x) ++ rest) (map-flat g f xs)

filter-flat : {X Y : Type 0} (test : Y → Bool) (f : X → List Y) (xs : List X) → filter test (flat_map f xs) ≡ flat_map (λ x. filter test (f x)) xs
filter-flat test f [] = refl
filter-flat test f (x ∷ xs) = filter-append test (f x) (flat_map f xs) ∙ ap (λ rest. filter test (f x) ++ rest) (filter-flat test f xs)

flat-flat : {X Y Z : Type 0} (g : Y → List Z) (f : X → List Y) (xs : List X) → flat_map g (flat_map f xs) ≡ flat_map (λ x. flat_map g (f x)) xs
flat-flat g f [] = refl
flat-flat g f (x ∷ xs) = flat_map-append g (f x) (flat_map f xs) ∙ ap (λ rest. flat_map g (f x) ++ rest) (flat-flat g f xs)

module _ (w : ClusterView) (sound : IsSound w.rows) (p : ℕ) (has : HasPartition w.rows p) where
  abbrev s : State
  s = state_in w

  abbrev label : Label
  label = label_of w p

  abbrev IsOwn : ℕ × AppRow → Type 0
  IsOwn e = lookup (nat_eq e.0) w.rows.apps ≡ Some e.1

  -- ---- of one application

  module _ (e : ℕ × AppRow) (found : IsOwn e) where
    its : IsApp w.rows e.0 e.1
    its = sound.apps e.0 e.1 found

    running : runs s (app_of w.rows e) ≡ runs_at w.rows e.0 e.1
    running = runs-means w.rows sound (stops_in w) (maxima_in w) e.0 e.1 found

    abbrev is_for : Ask → Bool
    is_for ask = nat_eq ask.partition p

    abbrev is_wanted : AskRow → Bool
    is_wanted ask = same_label ask.label label && nat_lt 0 ask.count

    for-label : AllByRecursion (λ ask. is_wanted (ask_of w.rows.partitions ask) ≡ is_for ask) e.1.asks
    for-label =
        each e.1.asks (all_from (λ ask. HasPartition w.rows ask.partition) e.1.asks (asked-there w.rows sound e.1.home its.home e.1.asks its.asked)) its.asks.counted
      where
        each : (asks : List Ask) → AllByRecursion (λ ask. HasPartition w.rows ask.partition) asks → AllByRecursion (λ ask. 0 < ask.count) asks
            → AllByRecursion (λ ask. is_wanted (ask_of w.rows.partitions ask) ≡ is_for ask) asks
        each [] there counted = tt
        each (ask ∷ asks) there counted = (one, each asks there.1 counted.1)
          where
            both : (b : Bool) → (b && nat_lt 0 ask.count) ≡ b
            both true = grind (arith, nat_tests, counted.0)
            both false = refl

            one : is_wanted (ask_of w.rows.partitions ask) ≡ is_for ask
            one = both (same_label (label_of w ask.partition) label) ∙ label-tells w.rows sound ask.partition p there.0 has

    asks-are : asks_of label (app_of w.rows e) ≡ map (item_for w.rows e.1) (map ask_request (filter is_for e.1.asks))
    asks-are =
        ap (map (ask_item (app_of w.rows e))) (filter-map (ask_of w.rows.partitions) is_wanted e.1.asks)
        ∙ map-map (ask_item (app_of w.rows e)) (ask_of w.rows.partitions) (filter (λ ask. is_wanted (ask_of w.rows.partitions ask)) e.1.asks)
        ∙ ap (map (λ ask. item_for w.rows e.1 (ask_request ask)))
        (filter-agree (λ ask. is_wanted (ask_of w.rows.partitions ask) ≡ is_for ask) (λ ask. is_wanted (ask_of w.rows.partitions ask)) is_for (λ ask same. same) e.1.asks for-label)
        ∙ sym (map-map (item_for w.rows e.1) ask_request (filter is_for e.1.asks))

    -- a master is wanted where the rows say so
    abbrev is_master_wanted : Application → Bool
    is_master_wanted app = waits s app && same_label app.home label

    master-is : is_master_wanted (app_of w.rows e) ≡ (not (runs_at w.rows e.0 e.1) && nat_eq e.1.home p)
    master-is = λ i. not (running i) && label-tells w.rows sound e.1.home p its.home has i

  -- ---- of the applications of a leaf

  abbrev is_waiting : Application → Bool
  is_waiting app = waits s app && same_label app.home label

  masters-own : (es : List (ℕ × AppRow)) → AllByRecursion IsOwn es
      → map master_item (filter is_waiting (map (app_of w.rows) es)) ≡ flat_map (λ e. map (item_for w.rows e.1) (master_wanted w.rows p e.0 e.1)) es
  masters-own [] own = refl
  masters-own (e ∷ es) own =
      ap (λ b. map master_item (cond b (app_of w.rows e ∷ filter is_waiting (map (app_of w.rows) es)) (filter is_waiting (map (app_of w.rows) es)))) (master-is e own.0)
      ∙ go (not (runs_at w.rows e.0 e.1) && nat_eq e.1.home p) (masters-own es own.1)
    where
      rest : List Item
      rest = flat_map (λ e. map (item_for w.rows e.1) (master_wanted w.rows p e.0 e.1)) es

      go : (b : Bool) → map master_item (filter is_waiting (map (app_of w.rows) es)) ≡ rest
          → map master_item (cond b (app_of w.rows e ∷ filter is_waiting (map (app_of w.rows) es)) (filter is_waiting (map (app_of w.rows) es)))
          ≡ map (item_for w.rows e.1) (cond b (master_request e.1 ∷ []) []) ++ rest
      go true same = ap (λ items. item_for w.rows e.1 (master_request e.1) ∷ items) same
      go false same = same

  asks-own : (es : List (ℕ × AppRow)) → AllByRecursion IsOwn es
      → flat_map (asks_of label) (filter (runs s) (map (app_of w.rows) es)) ≡ flat_map (λ e. map (item_for w.rows e.1) (asked w.rows p e.0 e.1)) es
  asks-own [] own = refl
  asks-own (e ∷ es) own =
      ap (λ b. flat_map (asks_of label) (cond b (app_of w.rows e ∷ filter (runs s) (map (app_of w.rows) es)) (filter (runs s) (map (app_of w.rows) es)))) (running e own.0)
      ∙ go (runs_at w.rows e.0 e.1) (asks-own es own.1)
    where
      rest : List Item
      rest = flat_map (λ e. map (item_for w.rows e.1) (asked w.rows p e.0 e.1)) es

      go : (b : Bool) → flat_map (asks_of label) (filter (runs s) (map (app_of w.rows) es)) ≡ rest
          → flat_map (asks_of label) (cond b (app_of w.rows e ∷ filter (runs s) (map (app_of w.rows) es)) (filter (runs s) (map (app_of w.rows) es)))
          ≡ map (item_for w.rows e.1) (cond b (map ask_request (filter (λ ask. nat_eq ask.partition p) e.1.asks)) []) ++ rest
      go true same = λ i. asks-are e own.0 i ++ same i
      go false same = same

  pub own-apps : (q : ℕ) → AllByRecursion IsOwn (in_leaf q w.rows.apps)
  own-apps q =
      Each-kept IsOwn (λ e. nat_eq e.1.leaf q) w.rows.apps
      (each-number (λ m row. nat_eq row.leaf q ≡ true → lookup (nat_eq m) w.rows.apps ≡ Some row) w.rows.apps sound.app_numbers (λ m row found own. found))

  -- ---- of all

  apps-are : all_apps s.leaves ≡ flat_map (λ q. map (app_of w.rows) (in_leaf q w.rows.apps)) (leaf_numbers w.rows.paths)
  apps-are =
      flat-map (λ (row : LeafApps). row.apps) (leaf_of w.rows) (leaf_numbers w.rows.paths)
      ∙ flat-alike (λ q. (leaf_of w.rows q).apps) (λ q. map (app_of w.rows) (in_leaf q w.rows.apps)) (λ q. in-order w.rows q sound) (leaf_numbers w.rows.paths)

  pub masters-listed : masters_for s label ≡ flat_map (items_in w.rows (master_wanted w.rows p)) (leaf_numbers w.rows.paths)
  masters-listed =
      ap (λ apps. map master_item (filter is_waiting apps)) apps-are
      ∙ ap (map master_item) (filter-flat is_waiting (λ q. map (app_of w.rows) (in_leaf q w.rows.apps)) (leaf_numbers w.rows.paths))
      ∙ map-flat master_item (λ q. filter is_waiting (map (app_of w.rows) (in_leaf q w.rows.apps))) (leaf_numbers w.rows.paths)
      ∙ flat-alike (λ q. map master_item (filter is_waiting (map (app_of w.rows) (in_leaf q w.rows.apps)))) (items_in w.rows (master_wanted w.rows p))
      (λ q. masters-own (in_leaf q w.rows.apps) (own-apps q)) (leaf_numbers w.rows.paths)

  pub asks-listed : asks_for s label ≡ flat_map (items_in w.rows (asked w.rows p)) (leaf_numbers w.rows.paths)
  unfolding asks_for
  asks-listed =
      ap (λ apps. flat_map (asks_of label) (filter (runs s) apps)) apps-are
      ∙ ap (flat_map (asks_of label)) (filter-flat (runs s) (λ q. map (app_of w.rows) (in_leaf q w.rows.apps)) (leaf_numbers w.rows.paths))
      ∙ flat-flat (asks_of label) (λ q. filter (runs s) (map (app_of w.rows) (in_leaf q w.rows.apps))) (leaf_numbers w.rows.paths)
      ∙ flat-alike (λ q. flat_map (asks_of label) (filter (runs s) (map (app_of w.rows) (in_leaf q w.rows.apps)))) (items_in w.rows (asked w.rows p))
      (λ q. asks-own (in_leaf q w.rows.apps) (own-apps q)) (leaf_numbers w.rows.paths)
