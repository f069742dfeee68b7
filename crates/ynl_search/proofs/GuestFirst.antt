-- The first guest that is found in a leaf is the model's.
use Rattle.std.proofs.Common.{◌≡◌, ◌≤◌, ◌⊎◌, ℕ, Bool, true, false, cond, nat_eq, List, [], ◌∷◌, map, filter, Option, None, Some, IsSome, is_some, option_map, inl, inr, refl, sym, ap, subst, ◌∙◌, arith, true≢false}
use Rattle.std.specs.Cmp.Lexicographic.{slice_cmp}
use Rattle.std.specs.Prelude.{IfSome}
use Rattle.std.specs.Map.{lookup}
use Rattle.std.specs.Option.{option_and_then, option_map_or}
use Rattle.std.specs.Ordering.{is_gt, nat_cmp}
use Rattle.std.proofs.lemmas.Bool.{and_from, and_parts}
use Rattle.std.proofs.lemmas.Bool.Decides.{nat_tests}
use Rattle.std.proofs.lemmas.Option.{none-some, same_Some}
use Rattle.ynl_resource.specs.Amounts.{IsSize, fits_in}
use Rattle.ynl_resource.specs.declared.amounts.Resource.{Resource}
use Rattle.ynl_resource.specs.declared.labels.Label.{Label}
use Rattle.ynl_resource.specs.declared.labels.Label.TheVariants.{Unlabelled}
use Rattle.ynl_model.specs.Cluster.{State, free}
use Rattle.ynl_model.specs.Queues.{Config}
use Rattle.ynl_model.specs.Service.{Item, asks_for, has_room, key}
use Rattle.ynl_model.specs.declared.nodes.Node.{Node}
use Rattle.ynl_model.specs.declared.queues.StopRow.{StopRow}
use Rattle.ynl_model.specs.declared.queues.MaximumRow.{MaximumRow}
use Rattle.ynl_laws.specs.Descent.{IsBelow}
use Rattle.ynl_laws.specs.First.{IsFirst, is_later}
use Rattle.ynl_inventory.specs.layout.Paths.{path_at}
use Rattle.ynl_tables.specs.declared.apps.asks.Ask.{Ask}
use Rattle.ynl_lanes.specs.lows.Lows.{no_size}
use Rattle.ynl_lanes.specs.lane.Kinds.{of_kind}
use Rattle.ynl_lanes.specs.declared.lane.kinds.Kind.TheVariants as kind
use Rattle.ynl_lanes.specs.lane.Seats.{Seat, first_given, given, is_waiting}
use Rattle.ynl_inventory.specs.Rows.{Rows, AppRow}
use Rattle.ynl_inventory.specs.Meaning.{item_of, label_at, state_of}
use Rattle.ynl_inventory.specs.Sound.{IsLeaf, IsSound}
use Rattle.ynl_inventory.specs.Apps.{runs_at}
use Rattle.ynl_cluster.specs.seating.Seating.{figures_of, least_asked, seat_of, seats_of, sits}
use Rattle.ynl_cluster.proofs.seating.Leasts.{are-met}
use Rattle.ynl_cluster.specs.requests.First.{Asker, IsFirstPassing, IsNotAfter, IsPassing, item_by, ranks_after}
use Rattle.ynl_cluster.specs.requests.Requests.{Request, ask_request, asked, item_for}
use Rattle.ynl_cluster.proofs.requests.First.{first-means}
use Rattle.ynl_cluster.proofs.requests.Members.{Among, among-contained, among-filter, among-map, contained-among, each-among, filter-among, map-among}
use Rattle.ynl_cluster.proofs.requests.Order.{Precedes, precedes-place}
use Rattle.ynl_cluster.proofs.requests.Wanted.{asked-means}
use Rattle.ynl_search.specs.declared.found.Found.{Found}
use Rattle.ynl_search.specs.Guests.{FirstGuestIsModel, IsGuestAsked, first_guest, gives_guest, is_guest_for}
use Rattle.ynl_search.specs.notes.Lanes.{IsLaneOf}
use Rattle.ynl_search.specs.InLeaf.{found_ask}
use Rattle.ynl_search.specs.Laws.{is_asked, item_found, no_item}
use Rattle.ynl_search.specs.Lowest.{lowest}
use Rattle.ynl_search.proofs.FirstIn.{found_by}
use Rattle.ynl_search.proofs.FirstOver.{IsFirstAt, first-none, first-some}
use Rattle.ynl_search.proofs.notes.Listed.{listed}
use Rattle.ynl_search.proofs.LowestAsk.{IsLowest, lowest-is, lowest-none}
use Rattle.ynl_search.proofs.notes.Found.{among-found, found-among}
use Rattle.ynl_search.proofs.SeatGiven.{none-waits, waits-are}
use Rattle.ynl_search.proofs.Wanted.{guest-asked}

-- in a list under a condition
conditional : {X : Type 0} (x : X) (b : Bool) (xs : List X) → Among x (cond b xs []) → (b ≡ true) × Among x xs
conditional x true xs there = (refl, there)
conditional x false xs there = absurd there

module _ (v : Rows) (q : ℕ) (seats : List (ℕ × Seat)) (is : IsLaneOf v 0 q seats) (room : Resource) (test : Item → Bool)
    (tell : (n : ℕ) (row : AppRow) (ask : Ask) → test (item_for v row (ask_request ask)) ≡ fits_in ask.size room) where
  abbrev Passing : Asker → Type 0
  Passing = IsPassing v (asked v 0) test q

  abbrev keep : ℕ × AppRow → Bool
  keep e = sits 0 q e.1

  abbrev seat : ℕ × AppRow → ℕ × Seat
  seat = seat_of (figures_of v) 0 q

  abbrev guests : Seat → Option Found
  guests = given kind.Ask (gives_guest v room)

  module _ (n : ℕ) (row : AppRow) (found : lookup (nat_eq n) v.apps ≡ Some row) where
    guest-is : gives_guest v room n ≡ option_map (found_ask n) (lowest (is_guest_for room) row.asks)
    guest-is = ap (option_and_then (λ r. option_map (found_ask n) (lowest (is_guest_for room) r.asks))) found

    -- its seat is given a guest just where it runs
    guest-here : guests (seat (n, row)).1 ≡ cond (runs_at v n row) (option_map (found_ask n) (lowest (is_guest_for room) row.asks)) None
    guest-here = go (runs_at v n row) refl (lowest (is_guest_for room) row.asks) refl ∙ ap (λ o. cond (runs_at v n row) o None) guest-is
      where
        go : (runs : Bool) → runs_at v n row ≡ runs → (o : Option Ask) → lowest (is_guest_for room) row.asks ≡ o
            → cond (is_waiting kind.Ask (seat (n, row)).1) (gives_guest v room n) None ≡ cond runs (gives_guest v room n) None
        go false r o e =
            ap (λ b. cond b (gives_guest v room n) None)
            (none-waits kind.Ask (seat (n, row)).1 (ap (of_kind kind.Ask) (waits-are v 0 q n row found) ∙ ap (λ b. cond b (least_asked 0 row.asks) no_size) r))
        go true r (Some best) e =
            let low : IsLowest (is_guest_for room) row.asks best = lowest-is (is_guest_for room) row.asks best e in
            let parts = and_parts (nat_eq best.partition 0) (fits_in best.size room) low.passes in
            let default : best.partition ≡ 0 = grind (arith, nat_tests, parts.0) in
            let sized = each-among (λ ask. IsSize ask.size) best row.asks (is.sized n row found).asks low.there in
            ap (λ b. cond b (gives_guest v room n) None)
            (each-among (λ ask. ask.partition ≡ 0 → IsSize ask.size → is_waiting kind.Ask (seat (n, row)).1 ≡ true) best row.asks
            (are-met.ask v n row 0 r (seat (n, row)).1 (waits-are v 0 q n row found)) low.there default sized)
        go true r None e =
            ap (cond (is_waiting kind.Ask (seat (n, row)).1) (gives_guest v room n)) (sym nothing) ∙ same (is_waiting kind.Ask (seat (n, row)).1) (gives_guest v room n)
          where
            nothing : gives_guest v room n ≡ None
            nothing = guest-is ∙ ap (option_map (found_ask n)) e

            same : (b : Bool) (o : Option Found) → cond b o o ≡ o
            same true o = refl
            same false o = refl

    -- a request that passes is an ask of one that runs, and is open
    record IsOpenAsk (r : Request) : Type 0 where
      runs : runs_at v n row ≡ true
      ask : Ask
      there : Among ask row.asks
      is_ask : r ≡ ask_request ask
      opens : is_guest_for room ask ≡ true

    of-passing : (r : Request) → Passing (record { number = n; row = row; request = r }) → IsOpenAsk r
    of-passing r pass =
        let here = conditional r (runs_at v n row) (map ask_request (filter (λ ask. nat_eq ask.partition 0) row.asks)) (among-contained r (asked v 0 n row) pass.there) in
        let own = among-map ask_request r (filter (λ ask. nat_eq ask.partition 0) row.asks) here.1 in
        let for_default = among-filter (λ ask. nat_eq ask.partition 0) own.0 row.asks own.1 in
        record {
          runs = here.0;
          ask = own.0;
          there = for_default.0;
          is_ask = sym own.2;
          opens =
              and_from (nat_eq own.0.partition 0) (fits_in own.0.size room) for_default.1
              (sym (tell n row own.0) ∙ ap (λ r. test (item_for v row r)) own.2 ∙ pass.passes);
        }

    ask-passing : row.leaf ≡ q → runs_at v n row ≡ true → (ask : Ask) → Among ask row.asks → is_guest_for room ask ≡ true → Passing (record { number = n; row = row; request = ask_request ask })
    ask-passing own runs ask there opens =
        let parts = and_parts (nat_eq ask.partition 0) (fits_in ask.size room) opens in
        record {
          found = found;
          own = own;
          there =
              contained-among (ask_request ask) (asked v 0 n row)
              (subst (λ b. Among (ask_request ask) (cond b (map ask_request (filter (λ ask. nat_eq ask.partition 0) row.asks)) [])) (sym runs)
              (map-among ask_request ask (filter (λ ask. nat_eq ask.partition 0) row.asks) (filter-among (λ ask. nat_eq ask.partition 0) ask row.asks parts.0 there)));
          passes = tell n row ask ∙ parts.1;
        }

    passing-given : (r : Request) → Passing (record { number = n; row = row; request = r }) → IsSome (guests (seat (n, row)).1)
    passing-given r pass = at (of-passing r pass) (lowest (is_guest_for room) row.asks) refl
      where
        at : IsOpenAsk r → (o : Option Ask) → lowest (is_guest_for room) row.asks ≡ o → IsSome (guests (seat (n, row)).1)
        at open_ask None e =
            absurd (true≢false (sym open_ask.opens ∙ each-among (λ ask. is_guest_for room ask ≡ false) open_ask.ask row.asks (lowest-none (is_guest_for room) row.asks e) open_ask.there))
        at open_ask (Some best) e = ap is_some (guest-here ∙ (λ i. cond (open_ask.runs i) (option_map (found_ask n) (e i)) None))

    -- what is given is a request that passes, and ranks after none that does
    record IsGiven (x : Found) : Type 0 where
      request : Request
      is_found : x ≡ found_by (record { number = n; row = row; request = request })
      passing : Passing (record { number = n; row = row; request = request })
      first : (other : Request) → Passing (record { number = n; row = row; request = other }) → ranks_after request other ≡ false

    given-passing : row.leaf ≡ q → (x : Found) → guests (seat (n, row)).1 ≡ Some x → IsGiven x
    given-passing own x is_given = go (runs_at v n row) refl (lowest (is_guest_for room) row.asks) refl
      where
        go : (runs : Bool) → runs_at v n row ≡ runs → (o : Option Ask) → lowest (is_guest_for room) row.asks ≡ o → IsGiven x
        go false runs o low = absurd (none-some x (sym (guest-here ∙ ap (λ b. cond b (option_map (found_ask n) (lowest (is_guest_for room) row.asks)) None) runs) ∙ is_given))
        go true runs None low = absurd (none-some x (sym (guest-here ∙ (λ i. cond (runs i) (option_map (found_ask n) (low i)) None)) ∙ is_given))
        go true runs (Some best) low =
            let its : IsLowest (is_guest_for room) row.asks best = lowest-is (is_guest_for room) row.asks best low in
            record {
              request = ask_request best;
              is_found = sym (same_Some (found_ask n best) x (sym (guest-here ∙ (λ i. cond (runs i) (option_map (found_ask n) (low i)) None)) ∙ is_given));
              passing = ask-passing own runs best its.there its.passes;
              first = λ other pass. ranked other (of-passing other pass);
            }
          where
            ranked : (other : Request) → IsOpenAsk other → ranks_after (ask_request best) other ≡ false
            ranked other open_ask =
                ap (ranks_after (ask_request best)) open_ask.is_ask
                ∙ behind best.priority open_ask.ask.priority
                (each-among (λ ask. is_guest_for room ask ≡ true → best.priority ≤ ask.priority) open_ask.ask row.asks (lowest-is (is_guest_for room) row.asks best low).no_lower open_ask.there open_ask.opens)
              where
                behind : (a b : ℕ) → a ≤ b → is_gt (slice_cmp nat_cmp (1 ∷ a ∷ []) (1 ∷ b ∷ [])) ≡ false
                behind a b h = grind (arith, nat_tests, h)

  sits-own : (row : AppRow) → sits 0 q row ≡ true → row.leaf ≡ q
  sits-own row s = let parts = and_parts (nat_eq row.leaf q) true s in grind (arith, nat_tests, parts.0)

  own-sits : (row : AppRow) → row.leaf ≡ q → sits 0 q row ≡ true
  own-sits row own = and_from (nat_eq row.leaf q) true (grind (arith, nat_tests, own)) refl

  over : (o : Option (ℕ × Found)) → first_given guests (seats_of (figures_of v) 0 q v.apps) ≡ o
      → (a : Option Asker) × IsFirstPassing v (asked v 0) test q a × (option_map found_by a ≡ option_map (λ (e : ℕ × Found). e.1) o)
  over None none = (None, λ other pass. nothing other pass, refl)
    where
      nothing : (other : Asker) → Passing other → ⊥
      nothing other pass =
          true≢false
          (sym (passing-given other.number other.row pass.found other.request pass)
          ∙ ap is_some (first-none keep seat guests v.apps none (other.number, other.row) (among-found other.number other.row v.apps pass.found) (own-sits other.row pass.own)))
  over (Some found) some =
      let at = first-some keep seat guests v.apps found some in
      let first : IsFirstAt keep seat guests v.apps found at.0 = at.1 in
      let there = found-among at.0 v.apps is.numbers first.there in
      let its : IsGiven at.0.0 at.0.1 there found.1 = given-passing at.0.0 at.0.1 there (sits-own at.0.1 first.kept) found.1 first.given in (
        Some (record { number = at.0.0; row = at.0.1; request = its.request }),
        (
          its.passing,
          λ other pass.
              not-after at.0 first its other pass
              (first.before (other.number, other.row) (among-found other.number other.row v.apps pass.found) (own-sits other.row pass.own) (passing-given other.number other.row pass.found other.request pass)),
        ),
        ap (λ x. Some x) (sym its.is_found),
      )
    where
      not-after : (e : ℕ × AppRow) (first : IsFirstAt keep seat guests v.apps found e) (its : IsGiven e.0 e.1 (found-among e v.apps is.numbers first.there) found.1) (other : Asker) → Passing other
          → ((other.number, other.row) ≡ e) ⊎ Precedes e.0 other.number v.apps → IsNotAfter v (asked v 0) test q (record { number = e.0; row = e.1; request = its.request }) other
      not-after e first its other pass (inr before) = inl (precedes-place e.0 other.number v.apps is.numbers before)
      not-after e first its other pass (inl same) =
          inr (
            ap (λ (o : ℕ × AppRow). o.0) same,
            its.first other.request (subst (λ (o : ℕ × AppRow). Passing (record { number = o.0; row = o.1; request = other.request })) same pass),
          )

  first-guest : (a : Option Asker) × IsFirstPassing v (asked v 0) test q a × (option_map found_by a ≡ first_guest v seats room)
  first-guest =
      let found = over (first_given guests (seats_of (figures_of v) 0 q v.apps)) refl in
      (found.0, found.1, found.2 ∙ ap (λ ss. option_map (λ (e : ℕ × Found). e.1) (first_given guests ss)) (sym is.seats_are))

-- ---- the model

module _ (v : Rows) (sound : IsSound v) (stops : List StopRow) (maxima : List MaximumRow) (q : ℕ) (leaf : IsLeaf v q) (seats : List (ℕ × Seat)) (lane : IsLaneOf v 0 q seats)
    (c : Config) (node : Node) where
  abbrev s : State
  s = state_of v stops maxima

  abbrev test : Item → Bool
  test item = has_room s node item.size

  item-is : (a : Option Asker) → IsFirstPassing v (asked v 0) test q a → option_map (item_found v) (option_map found_by a) ≡ option_map (item_by v) a
  item-is None first = refl
  item-is (Some a) first = ap (λ o. Some (option_map_or (λ (row : AppRow). item_of v row a.request.role a.request.size) o no_item)) first.0.found

  guest-first : IsFirst (is_later (key c s Unlabelled)) (IsBelow (filter test (asks_for s Unlabelled)) (path_at v.paths q)) (option_map (item_found v) (first_guest v seats (free s node)))
  guest-first =
      let found = first-guest v q seats lane (free s node) test (λ n row ask. refl) in
      subst (λ (label : Label). IsFirst (is_later (key c s Unlabelled)) (IsBelow (filter test (asks_for s label)) (path_at v.paths q)) (option_map (item_found v) (first_guest v seats (free s node)))) sound.default
      (subst (IsFirst (is_later (key c s Unlabelled)) (IsBelow (filter test (asks_for s (label_at v.partitions 0))) (path_at v.paths q)))
      (sym (item-is found.0 found.1) ∙ ap (option_map (item_found v)) found.2)
      (first-means v sound stops maxima q leaf (listed v sound stops maxima q leaf) (asked v 0) (asks_for s (label_at v.partitions 0)) (λ item. (asked-means v sound stops maxima 0 sound.some item).0) (λ item. (asked-means v sound stops maxima 0 sound.some item).1)
      test found.0 found.1 c Unlabelled))

  found-asked : IfSome (first_guest v seats (free s node)) (λ found. is_asked v 0 found ≡ true)
  found-asked =
      let found = first-guest v q seats lane (free s node) test (λ n row ask. refl) in
      subst (λ o. IfSome o (λ found. is_asked v 0 found ≡ true)) found.2 (guest-asked v 0 test q found.0 found.1)

pub guest-is-asked : IsGuestAsked
guest-is-asked v sound stops maxima q leaf seats lane c node = found-asked v sound stops maxima q leaf seats lane c node

pub guest-means : FirstGuestIsModel
guest-means v sound stops maxima q leaf seats lane c node = guest-first v sound stops maxima q leaf seats lane c node
