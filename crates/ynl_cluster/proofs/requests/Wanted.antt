-- The model's requests for a partition are what live applications want there.
use Rattle.std.proofs.Common.{◌≡◌, ◌⊎◌, ◌↔◌, ℕ, ◌<◌, Bool, true, false, not, ◌&&◌, cond, nat_eq, nat_lt, List, [], ◌∷◌, map, filter, Some, Contains, inl, inr, refl, sym, ap, subst, ◌∙◌, arith}
use Rattle.std.specs.List.{AllByRecursion}
use Rattle.std.specs.Map.{lookup}
use Rattle.std.proofs.lemmas.Bool.{cond-true}
use Rattle.std.proofs.lemmas.Bool.Decides.{nat_tests}
use Rattle.ynl_resource.specs.Names.{same_label}
use Rattle.ynl_resource.specs.declared.labels.Label.{Label}
use Rattle.ynl_model.specs.Applications.{Application, all_apps}
use Rattle.ynl_model.specs.declared.applications.AskRow.{AskRow}
use Rattle.ynl_model.specs.declared.queues.StopRow.{StopRow}
use Rattle.ynl_model.specs.declared.queues.MaximumRow.{MaximumRow}
use Rattle.ynl_model.specs.Cluster.{State, runs, waits}
use Rattle.ynl_model.specs.Service.{Item, ask_item, asks_for, asks_of, items_for, master_item, masters_for}
use Rattle.ynl_slots.proofs.Lists.{all_from}
use Rattle.ynl_tables.specs.declared.apps.asks.Ask.{Ask}
use Rattle.ynl_inventory.specs.Rows.{Rows, AppRow}
use Rattle.ynl_inventory.specs.Meaning.{app_name, application_of, ask_of, label_at, state_of}
use Rattle.ynl_inventory.specs.Sound.{HasPartition, IsApp, IsSound}
use Rattle.ynl_inventory.specs.Apps.{runs_at}
use Rattle.ynl_inventory.proofs.AppsFound.{leaves}
use Rattle.ynl_inventory.proofs.Asked.{asked-there}
use Rattle.ynl_cluster.specs.requests.Requests.{Request, Wants, ask_request, asked, item_for, master_request, master_wanted, wanted}
use Rattle.ynl_cluster.proofs.requests.Live.{IsOfRow, among-live, live-among}
use Rattle.ynl_cluster.proofs.requests.Members.{Among, among-contained, among-either, among-filter, among-flat, among-map, contained-among, each-among, filter-among, flat-among, left-among, map-among, right-among}
use Rattle.ynl_cluster.proofs.requests.Running.{label-tells, runs-means}

-- in a list that is there under a condition
conditional : {X : Type 0} (x : X) (b : Bool) (xs : List X) → Among x (cond b xs []) → (b ≡ true) × Among x xs
conditional x true xs there = (refl, there)
conditional x false xs there = absurd there

module _ (v : Rows) (sound : IsSound v) (stops : List StopRow) (maxima : List MaximumRow) (p : ℕ) (has : HasPartition v p) where
  abbrev s : State
  s = state_of v stops maxima

  abbrev label : Label
  label = label_at v.partitions p

  -- the application of a row
  abbrev app_at : AppRow → Application
  app_at row = application_of v (app_name v.tenants row.tenant row.turn) row

  module _ (n : ℕ) (row : AppRow) (found : lookup (nat_eq n) v.apps ≡ Some row) where
    its : IsApp v n row
    its = sound.apps n row found

    running : runs s (app_at row) ≡ runs_at v n row
    running = runs-means v sound stops maxima n row found

    waiting : waits s (app_at row) ≡ not (runs_at v n row)
    waiting = ap not running

    at-home : same_label (app_at row).home label ≡ nat_eq row.home p
    at-home = label-tells v sound row.home p its.home has

    -- an ask is for the partition where it has the number
    abbrev is_for : Ask → Bool
    is_for ask = nat_eq ask.partition p

    abbrev is_wanted : AskRow → Bool
    is_wanted ask = same_label ask.label label && nat_lt 0 ask.count

    for-label : AllByRecursion (λ ask. is_wanted (ask_of v.partitions ask) ≡ is_for ask) row.asks
    for-label = each row.asks (all_from (λ ask. HasPartition v ask.partition) row.asks (asked-there v sound row.home its.home row.asks its.asked)) its.asks.counted
      where
        each : (asks : List Ask) → AllByRecursion (λ ask. HasPartition v ask.partition) asks → AllByRecursion (λ ask. 0 < ask.count) asks → AllByRecursion (λ ask. is_wanted (ask_of v.partitions ask) ≡ is_for ask) asks
        each [] there counted = tt
        each (ask ∷ asks) there counted = (one, each asks there.1 counted.1)
          where
            both : (b : Bool) → (b && nat_lt 0 ask.count) ≡ b
            both true = grind (arith, nat_tests, counted.0)
            both false = refl

            one : is_wanted (ask_of v.partitions ask) ≡ is_for ask
            one = both (same_label (label_at v.partitions ask.partition) label) ∙ label-tells v sound ask.partition p there.0 has

    -- an ask of the application is one of the model's
    ask-among : (ask : Ask) → Among ask (filter is_for row.asks) → Among (item_for v row (ask_request ask)) (asks_of label (app_at row))
    ask-among ask there =
        let at = among-filter is_for ask row.asks there in
        map-among (ask_item (app_at row)) (ask_of v.partitions ask) (filter is_wanted (map (ask_of v.partitions) row.asks))
        (filter-among is_wanted (ask_of v.partitions ask) (map (ask_of v.partitions) row.asks) (each-among (λ ask. is_wanted (ask_of v.partitions ask) ≡ is_for ask) ask row.asks for-label at.0 ∙ at.1)
        (map-among (ask_of v.partitions) ask row.asks at.0))

    -- and one of the model's is one of the application
    among-ask : (item : Item) → Among item (asks_of label (app_at row)) → (ask : Ask) × Among ask (filter is_for row.asks) × (item ≡ item_for v row (ask_request ask))
    among-ask item there =
        let mapped = among-map (ask_item (app_at row)) item (filter is_wanted (map (ask_of v.partitions) row.asks)) there in
        let kept = among-filter is_wanted mapped.0 (map (ask_of v.partitions) row.asks) mapped.1 in
        let own = among-map (ask_of v.partitions) mapped.0 row.asks kept.0 in (
          own.0,
          filter-among is_for own.0 row.asks (sym (each-among (λ ask. is_wanted (ask_of v.partitions ask) ≡ is_for ask) own.0 row.asks for-label own.1) ∙ ap is_wanted own.2 ∙ kept.1) own.1,
          sym mapped.2 ∙ ap (ask_item (app_at row)) (sym own.2),
        )

    -- a request of the application is among the model's asks
    asked-among : (r : Request) → Among r (asked v p n row) → Among (item_for v row r) (asks_for s label)
    unfolding asks_for
    asked-among r there =
        let here = conditional r (runs_at v n row) (map ask_request (filter is_for row.asks)) there in
        let own = among-map ask_request r (filter is_for row.asks) here.1 in
        flat-among (asks_of label) (app_at row) (item_for v row r) (filter (runs s) (all_apps (leaves v sound)))
        (filter-among (runs s) (app_at row) (all_apps (leaves v sound)) (running ∙ here.0) (live-among v sound n row found))
        (subst (λ r. Among (item_for v row r) (asks_of label (app_at row))) own.2 (ask-among own.0 own.1))

    -- its master is among the model's masters
    master-among : (r : Request) → Among r (master_wanted v p n row) → Among (item_for v row r) (masters_for s label)
    master-among r there = go (conditional r (not (runs_at v n row) && nat_eq row.home p) (master_request row ∷ []) there)
      where
        go : ((not (runs_at v n row) && nat_eq row.home p) ≡ true) × Among r (master_request row ∷ []) → Among (item_for v row r) (masters_for s label)
        go (holds, inr none) = absurd none
        go (holds, inl is) =
            subst (λ r. Among (item_for v row r) (masters_for s label)) is
            (map-among master_item (app_at row) (filter (λ app. waits s app && same_label app.home label) (all_apps (leaves v sound)))
            (filter-among (λ app. waits s app && same_label app.home label) (app_at row) (all_apps (leaves v sound)) ((λ i. waiting i && at-home i) ∙ holds) (live-among v sound n row found)))

  -- ---- from the model

  among-asks : (item : Item) → Among item (asks_for s label) → Wants v (asked v p) item
  unfolding asks_for
  among-asks item there =
      let of_app = among-flat (asks_of label) item (filter (runs s) (all_apps (leaves v sound))) there in
      let running_app = among-filter (runs s) of_app.0 (all_apps (leaves v sound)) of_app.1 in
      let live : IsOfRow v of_app.0 = among-live v sound of_app.0 running_app.0 in
      let own = among-ask live.number live.row live.found item (subst (λ app. Among item (asks_of label app)) live.is of_app.2) in
      let runs_now : runs_at v live.number live.row ≡ true = sym (running live.number live.row live.found) ∙ ap (runs s) (sym live.is) ∙ running_app.1 in
      record {
        number = live.number;
        row = live.row;
        found = live.found;
        request = ask_request own.0;
        there =
            contained-among (ask_request own.0) (asked v p live.number live.row)
            (subst (Among (ask_request own.0)) (sym (cond-true (runs_at v live.number live.row) (map ask_request (filter (λ ask. nat_eq ask.partition p) live.row.asks)) [] runs_now))
            (map-among ask_request own.0 (filter (λ ask. nat_eq ask.partition p) live.row.asks) own.1));
        is = own.2;
      }

  among-masters : (item : Item) → Among item (masters_for s label) → Wants v (master_wanted v p) item
  among-masters item there =
      let of_app = among-map master_item item (filter (λ app. waits s app && same_label app.home label) (all_apps (leaves v sound))) there in
      let kept = among-filter (λ app. waits s app && same_label app.home label) of_app.0 (all_apps (leaves v sound)) of_app.1 in
      let live : IsOfRow v of_app.0 = among-live v sound of_app.0 kept.0 in
      let holds : (not (runs_at v live.number live.row) && nat_eq live.row.home p) ≡ true =
      (λ i. sym (waiting live.number live.row live.found) i && sym (at-home live.number live.row live.found) i)
      ∙ ap (λ app. waits s app && same_label app.home label) (sym live.is) ∙ kept.1 in
      record {
        number = live.number;
        row = live.row;
        found = live.found;
        request = master_request live.row;
        there =
            contained-among (master_request live.row) (master_wanted v p live.number live.row)
            (subst (Among (master_request live.row)) (sym (cond-true (not (runs_at v live.number live.row) && nat_eq live.row.home p) (master_request live.row ∷ []) [] holds)) (inl refl));
        is = sym of_app.2 ∙ ap master_item live.is;
      }

  wider : (some : ℕ → AppRow → List Request) (item : Item) → ((n : ℕ) (row : AppRow) (r : Request) → Among r (some n row) → Among r (wanted v p n row)) → Wants v some item → Wants v (wanted v p) item
  wider some item within w = record {
    number = w.number;
    row = w.row;
    found = w.found;
    request = w.request;
    there = contained-among w.request (wanted v p w.number w.row) (within w.number w.row w.request (among-contained w.request (some w.number w.row) w.there));
    is = w.is;
  }

  -- ---- both ways

  pub asked-means : (item : Item) → Contains (asks_for s label) item ↔ Wants v (asked v p) item
  asked-means item = (
    λ there. among-asks item (among-contained item (asks_for s label) there),
    λ w. contained-among item (asks_for s label)
        (subst (λ i. Among i (asks_for s label)) (sym w.is) (asked-among w.number w.row w.found w.request (among-contained w.request (asked v p w.number w.row) w.there))),
  )

  pub wanted-means : (item : Item) → Contains (items_for s label) item ↔ Wants v (wanted v p) item
  unfolding items_for
  wanted-means item = (
    λ there. from (among-either item (masters_for s label) (asks_for s label) (among-contained item (items_for s label) there)),
    λ w. contained-among item (items_for s label) (subst (λ i. Among i (items_for s label)) (sym w.is) (to w (among-either w.request (master_wanted v p w.number w.row) (asked v p w.number w.row) (among-contained w.request (wanted v p w.number w.row) w.there)))),
  )
    where
      from : Among item (masters_for s label) ⊎ Among item (asks_for s label) → Wants v (wanted v p) item
      from (inl there) = wider (master_wanted v p) item (λ n row r. left-among r (master_wanted v p n row) (asked v p n row)) (among-masters item there)
      from (inr there) = wider (asked v p) item (λ n row r. right-among r (master_wanted v p n row) (asked v p n row)) (among-asks item there)

      to : (w : Wants v (wanted v p) item) → Among w.request (master_wanted v p w.number w.row) ⊎ Among w.request (asked v p w.number w.row) → Among (item_for v w.row w.request) (items_for s label)
      to w (inl there) = left-among (item_for v w.row w.request) (masters_for s label) (asks_for s label) (master-among w.number w.row w.found w.request there)
      to w (inr there) = right-among (item_for v w.row w.request) (masters_for s label) (asks_for s label) (asked-among w.number w.row w.found w.request there)
