-- What is listed of the requests of a leaf is what there is to see of them.
use Rattle.std.proofs.Common.{◌≡◌, ◌≤◌, ℕ, zero, suc, ◌+◌, Bool, true, false, not, ◌&&◌, cond, nat_eq, List, [], ◌∷◌, ◌++◌, length, map, filter, flat_map, take_all, slice_get, Some, refl, sym, ap, subst, ◌∙◌, arith}
use Rattle.std.specs.Map.{lookup}
use Rattle.std.proofs.lemmas.Bool.Decides.{nat_tests}
use Rattle.std.proofs.lemmas.List.{map-append}
use Rattle.ynl_resource.specs.Names.{root, way_to}
use Rattle.ynl_resource.specs.declared.amounts.Resource.{Resource}
use Rattle.ynl_resource.specs.declared.labels.Label.{Label}
use Rattle.ynl_resource.specs.declared.paths.Path.{Path}
use Rattle.ynl_model.specs.declared.proposals.What.{What}
use Rattle.ynl_model.specs.declared.proposals.What.TheVariants.{Master, Ask as Asked}
use Rattle.ynl_model.specs.Cluster.{State, user_used}
use Rattle.ynl_model.specs.Service.{Item, key, place_in_leaf, rank, standing}
use Rattle.ynl_laws.proofs.Lists.{map-map}
use Rattle.ynl_queues.proofs.Prefixes.{way_end}
use Rattle.ynl_tables.specs.declared.apps.asks.Ask.{Ask}
use Rattle.ynl_inventory.specs.Rows.{AppRow}
use Rattle.ynl_inventory.specs.Apps.{runs_at}
use Rattle.ynl_inventory.specs.Meaning.{app_of}
use Rattle.ynl_inventory.specs.Sound.{HasPartition, IsLeaf, IsSound}
use Rattle.ynl_inventory.proofs.Submitted.{app-submission}
use Rattle.ynl_cluster.specs.requests.Laws.{in_leaf}
use Rattle.ynl_cluster.specs.requests.Requests.{Request, ask_request, asked, item_for, master_request, master_wanted}
use Rattle.ynl_cluster.specs.seating.Seating.{user_use}
use Rattle.ynl_cluster.proofs.seating.UserUse.{is-user_use}
use Rattle.ynl_cluster.specs.Cluster.{ClusterView, label_of, maxima_in, path_of, state_in, stops_in}
use Rattle.ynl_sights.specs.declared.rows.Margin.{Margin}
use Rattle.ynl_sights.specs.declared.rows.QueueSight.{QueueSight}
use Rattle.ynl_sights.specs.declared.rows.Limits.{Limits}
use Rattle.ynl_sights.specs.declared.rows.LeafList.{LeafList}
use Rattle.ynl_sights.specs.declared.rows.Wanted.{Wanted}
use Rattle.ynl_sights.specs.declared.rows.Offered.{Offered}
use Rattle.ynl_sights.specs.Sights.{Offer, offer_of, reach_of}
use Rattle.ynl_sights.specs.Rows.{leaf_of, offer_by, reach_in, reach_of_queue, shown, standing_in}
use Rattle.ynl_sights.specs.Copying.{asked_shown, asks_shown, master_shown, offers_at, one_by_one, shown_as, wanted_as, AreAllTo, AreLimitsOf}
use Rattle.ynl_sights.specs.Lists.{IsListOf}
use Rattle.ynl_sights.proofs.Listed.{map-flat}
use Rattle.ynl_sights.proofs.Places.{own-at, place-at}

-- ---- of applications one after another

-- what is made of all is made of one after another
met : {X Y : Type 0} (g : X → Y) (each : ℕ → ℕ → AppRow → List X) (made : ℕ × AppRow → List Y) (P : ℕ → ℕ × AppRow → Type 0) → ((k : ℕ) (e : ℕ × AppRow) → P k e → map g (each k e.0 e.1) ≡ made e)
    → (k : ℕ) (apps : List (ℕ × AppRow)) → ((i : ℕ) (e : ℕ × AppRow) → slice_get apps i ≡ Some e → P (k + i) e) → map g (one_by_one each k apps) ≡ flat_map made apps
met g each made P same k [] at = refl
met g each made P same k (e ∷ apps) at =
    let here : k + zero ≡ k = omega arith in
    map-append g (each k e.0 e.1) (one_by_one each (k + 1) apps)
    ∙ (λ j. same k e (subst (λ n. P n e) here (at zero e refl)) j ++ met g each made P same (k + 1) apps (λ i f there. let next : k + suc i ≡ k + 1 + i = omega arith in subst (λ n. P n f) next (at (suc i) f there)) j)

module _ (w : ClusterView) (sound : IsSound w.rows) (p : ℕ) (has : HasPartition w.rows p) (q : ℕ) where
  abbrev s : State
  s = state_in w

  abbrev label : Label
  label = label_of w p

  abbrev path : Path
  path = path_of w q

  -- an application of the leaf stands in this place there
  record StandsAt (k : ℕ) (e : ℕ × AppRow) : Type 0 where
    found : lookup (nat_eq e.0) w.rows.apps ≡ Some e.1
    own : e.1.leaf ≡ q
    place : place_in_leaf s path (app_of w.rows e).name ≡ k

  leaf-is : (n : ℕ) (row : AppRow) → lookup (nat_eq n) w.rows.apps ≡ Some row → row.leaf ≡ q → IsLeaf w.rows q
  leaf-is n row found own = let s = app-submission w.rows sound n row found in subst (IsLeaf w.rows) own (record { there = s.there; none_below = s.leaf })

  stands : (i : ℕ) (e : ℕ × AppRow) → slice_get (in_leaf q w.rows.apps) i ≡ Some e → StandsAt i e
  stands i e there =
      let is = own-at w.rows sound q i e there in
      record { found = is.found; own = is.own; place = place-at w.rows sound q (stops_in w) (maxima_in w) (leaf-is e.0 e.1 is.found is.own) i e there }

  from-first : (i : ℕ) (e : ℕ × AppRow) → slice_get (in_leaf q w.rows.apps) i ≡ Some e → StandsAt (0 + i) e
  from-first i e there = let here : i ≡ 0 + i = omega arith in subst (λ k. StandsAt k e) here (stands i e there)

  -- ---- what is wanted on the partition, with this way and these limits

  module _ (top : Margin) (above : reach_in top ≡ reach_of s label root) (way : List QueueSight) (is : AreAllTo w p q way) (limits : Limits) (are : AreLimitsOf w p q limits) where
    whole : length path ≤ length path
    whole = omega arith

    way-leaf : leaf_of way ≡ path
    way-leaf = is.names ∙ take_all (length path) path whole

    way-stands : map standing_in way ≡ map (standing w.config s label) (way_to path)
    way-stands = is.stand ∙ ap (map (standing w.config s label)) (way_end path (length path) whole)

    way-reaches : map reach_of_queue way ≡ map (reach_of s label) (way_to path)
    way-reaches = is.reach ∙ ap (map (reach_of s label)) (way_end path (length path) whole)

    -- the request of a row that is listed so
    abbrev item_at : Path → What → Wanted → Item
    item_at leaf what wanted = record { leaf = leaf; app = wanted.app; user = wanted.user; what = what; size = wanted.size }

    abbrev show : (Wanted → What) → Resource × Wanted → Offer
    show what one = offer_by top way limits (what one.1) one

    abbrev see : Item → Offer
    see = offer_of w.config s label

    offer-seen : (k : ℕ) (e : ℕ × AppRow) → StandsAt k e → (what : Wanted → What) (size : Resource) (priority : ℕ)
        → show what (shown_as w.rows p k e.1 size priority) ≡ see (item_at (path_of w e.1.leaf) (what (wanted_as w.rows k e.1 size priority)) (wanted_as w.rows k e.1 size priority))
    unfolding key
    offer-seen k e at what size priority =
        (λ i. record {
          bid = record {
            item = item_at (way-leaf i) (what one) one;
            key = record { standings = way-stands i; turn = sym at.place i ∷ rank (what one) };
          };
          tests = record {
            way = above i ∷ way-reaches i;
            user_used = used i;
            user_limit = are.user_limit size i;
            masters_used = are.masters i;
            master_limit = are.master_limit i;
            no_master = are.no_master i;
          };
        })
        ∙ ap (λ path. see (item_at path (what one) one)) (ap (path_of w) (sym at.own))
      where
        one : Wanted
        one = wanted_as w.rows k e.1 size priority

        used : user_use w.rows p e.1.leaf e.1.user ≡ user_used s path one.user label
        used =
            ap (λ l. user_use w.rows p l e.1.user) at.own
            ∙ sym (is-user_use w.rows sound p q e.1.user has (leaf-is e.0 e.1 at.found at.own) (sound.apps e.0 e.1 at.found).user (stops_in w) (maxima_in w))

    -- what is made of the requests of an application's leaf, one application after another
    all-seen : (what : Wanted → What) (each : ℕ → ℕ → AppRow → List (Resource × Wanted)) (among : ℕ → AppRow → List Request)
        → ((k : ℕ) (e : ℕ × AppRow) → StandsAt k e → map (show what) (each k e.0 e.1) ≡ map see (map (item_for w.rows e.1) (among e.0 e.1)))
        → (list : List Offered) → map shown list ≡ one_by_one each 0 (in_leaf q w.rows.apps) → map (λ o. show what (shown o)) list ≡ offers_at w p among q
    all-seen what each among one list listed =
        sym (map-map (show what) shown list)
        ∙ ap (map (show what)) listed
        ∙ met (show what) each (λ e. map see (map (item_for w.rows e.1) (among e.0 e.1))) StandsAt one 0 (in_leaf q w.rows.apps) from-first
        ∙ sym (map-flat see (λ (e : ℕ × AppRow). map (item_for w.rows e.1) (among e.0 e.1)) (in_leaf q w.rows.apps))

    -- ---- masters

    abbrev as_master : Wanted → What
    as_master one = Master

    master-one : (k : ℕ) (e : ℕ × AppRow) → StandsAt k e → map (show as_master) (master_shown w.rows p k e.0 e.1) ≡ map see (map (item_for w.rows e.1) (master_wanted w.rows p e.0 e.1))
    master-one k e at = go (not (runs_at w.rows e.0 e.1) && nat_eq e.1.home p)
      where
        go : (b : Bool) → map (show as_master) (cond b (shown_as w.rows p k e.1 e.1.master 0 ∷ []) []) ≡ map see (map (item_for w.rows e.1) (cond b (master_request e.1 ∷ []) []))
        go true = ap (λ offer. offer ∷ []) (offer-seen k e at as_master e.1.master 0)
        go false = refl

    pub masters-seen : (list : LeafList) → IsListOf w.rows p q list → map (λ o. show as_master (shown o)) list.masters.items ≡ offers_at w p (master_wanted w.rows p) q
    masters-seen list listed = all-seen as_master (master_shown w.rows p) (master_wanted w.rows p) master-one list.masters.items listed.masters

    -- ---- asks

    abbrev as_ask : Wanted → What
    as_ask one = Asked label one.priority

    asks-one : (k : ℕ) (e : ℕ × AppRow) → StandsAt k e → (asks : List Ask)
        → map (show as_ask) (asks_shown w.rows p k e.1 asks) ≡ map see (map (item_for w.rows e.1) (map ask_request (filter (λ ask. nat_eq ask.partition p) asks)))
    asks-one k e at [] = refl
    asks-one k e at (ask ∷ asks) = go (nat_eq ask.partition p) refl (asks-one k e at asks)
      where
        others : List Ask
        others = filter (λ ask. nat_eq ask.partition p) asks

        go : (b : Bool) → nat_eq ask.partition p ≡ b → map (show as_ask) (asks_shown w.rows p k e.1 asks) ≡ map see (map (item_for w.rows e.1) (map ask_request others))
            → map (show as_ask) (map (λ ask. shown_as w.rows p k e.1 ask.size ask.priority) (cond b (ask ∷ others) others)) ≡ map see (map (item_for w.rows e.1) (map ask_request (cond b (ask ∷ others) others)))
        go true own rest =
            let there : p ≡ ask.partition = grind (arith, nat_tests, own) in
            λ i.
            (offer-seen k e at as_ask ask.size ask.priority
            ∙ ap (λ n. see (item_at (path_of w e.1.leaf) (Asked (label_of w n) ask.priority) (wanted_as w.rows k e.1 ask.size ask.priority))) there) i
            ∷ rest i
        go false own rest = rest

    asked-one : (k : ℕ) (e : ℕ × AppRow) → StandsAt k e → map (show as_ask) (asked_shown w.rows p k e.0 e.1) ≡ map see (map (item_for w.rows e.1) (asked w.rows p e.0 e.1))
    asked-one k e at = go (runs_at w.rows e.0 e.1)
      where
        go : (b : Bool) → map (show as_ask) (cond b (asks_shown w.rows p k e.1 e.1.asks) [])
            ≡ map see (map (item_for w.rows e.1) (cond b (map ask_request (filter (λ ask. nat_eq ask.partition p) e.1.asks)) []))
        go true = asks-one k e at e.1.asks
        go false = refl

    pub asks-seen : (list : LeafList) → IsListOf w.rows p q list → map (λ o. show as_ask (shown o)) list.asks.items ≡ offers_at w p (asked w.rows p) q
    asks-seen list listed = all-seen as_ask (asked_shown w.rows p) (asked w.rows p) asked-one list.asks.items listed.asks
