-- What a seat of a leaf's lane is given.
use Rattle.std.proofs.Common.{◌≡◌, ℕ, min, Bool, true, false, not, ◌&&◌, cond, nat_eq, nat_le, List, filter, Option, None, Some, IsSome, unwrap_or, option_map, refl, sym, ap, subst, ◌∙◌, arith, true≢false}
use Rattle.std.specs.Map.{lookup}
use Rattle.std.specs.Option.{option_and_then, option_map_or}
use Rattle.std.proofs.lemmas.Bool.{and_from, and_parts, not-true}
use Rattle.std.proofs.lemmas.Bool.Decides.{nat_tests}
use Rattle.ynl_resource.specs.Amounts.{IsSize, amount, fits_in, plus, smaller_of}
use Rattle.ynl_resource.specs.declared.amounts.Resource.{Resource}
use Rattle.ynl_slots.specs.Slots.{HasDistinctNumbers}
use Rattle.ynl_tables.specs.declared.apps.asks.Ask.{Ask}
use Rattle.ynl_lanes.specs.lows.Lows.{IsBelow, no_size}
use Rattle.ynl_search.specs.limits.Limits.{limit_of}
use Rattle.ynl_search.specs.declared.limits.limits.Limits.{Limits}
use Rattle.ynl_lanes.specs.declared.lane.kinds.Kind.{Kind}
use Rattle.ynl_lanes.specs.declared.lane.kinds.Kind.TheVariants as kind
use Rattle.ynl_lanes.specs.lane.Kinds.{of_kind}
use Rattle.ynl_lanes.specs.lane.Seats.{Seat, given, is_waiting, nothing_waits}
use Rattle.ynl_lanes.specs.lane.Waiting.{IsWaiting}
use Rattle.ynl_inventory.specs.Rows.{Rows, AppRow}
use Rattle.ynl_inventory.specs.Apps.{runs_at}
use Rattle.ynl_cluster.specs.seating.Seating.{figures_of, least_asked, seat_of, seats_of, sits, ticket_on, user_use, waits_at}
use Rattle.ynl_cluster.proofs.seating.Leasts.{are-leasts, are-met}
use Rattle.ynl_cluster.proofs.requests.Members.{Among, each-among, filter-among, map-among}
use Rattle.ynl_search.specs.notes.Lanes.{IsSizedRow}
use Rattle.ynl_search.proofs.notes.Found.{among-found, found-among}
use Rattle.ynl_search.specs.declared.found.Found.{Found}
use Rattle.ynl_search.specs.declared.leaf.LeafTests.{LeafTests}
use Rattle.ynl_search.specs.InLeaf.{found_ask, found_master, gives_ask, gives_master, is_open_to, used_on}
use Rattle.ynl_search.specs.Leaves.{passes_ask, passes_master}
use Rattle.ynl_search.specs.declared.user_limits.UserLimits.{UserLimits}
use Rattle.ynl_search.specs.UserTests.{IsTestOf, IsWithinLimits}
use Rattle.ynl_search.specs.Lowest.{lowest}
use Rattle.ynl_search.specs.Places.{allows}
use Rattle.ynl_search.proofs.LowestAsk.{IsLowest, lowest-is}

-- ---- what can be placed may wait

-- a size that fits in a room fits in what of it a request may ask for
within-largest : (room size : Resource) → IsSize size → fits_in size room ≡ true → fits_in size (smaller_of room (amount 0xffff_ffff 0xffff_ffff)) ≡ true
within-largest room size is fits =
    let parts = and_parts (nat_le size.memory room.memory) (nat_le size.vcores room.vcores) fits in
    let memory = is.memory in
    let vcores = is.vcores in
    and_from (nat_le size.memory (min room.memory 0xffff_ffff)) (nat_le size.vcores (min room.vcores 0xffff_ffff))
    (grind (arith, nat_tests, parts.0, memory)) (grind (arith, nat_tests, parts.1, vcores))

-- what passes fits in the room of the test of users, and keeps the limit
pub bounds : (tests : LeafTests) (test : UserLimits) → IsTestOf tests test → (used size : Resource) → IsSize size → passes_ask tests used size ≡ true → IsWithinLimits test used size
bounds tests test is used size sized passes =
    let parts = and_parts (allows tests.headroom size) (fits_in (plus used size) (limit_of tests.limits size)) passes in
    let fits = (and_parts tests.headroom.is_open (fits_in size tests.headroom.room) parts.0).1 in
    record {
      fits = ap (fits_in size) is.room ∙ within-largest tests.headroom.room size sized fits;
      keeps = ap (λ (limits : Limits). fits_in (plus used size) (limit_of limits size)) is.limits ∙ parts.1;
    }

-- where the least is that of no sizes nothing waits
pub none-waits : (k : Kind) (seat : Seat) → of_kind k seat.waits ≡ no_size → is_waiting k seat ≡ false
none-waits k seat is = ap (λ low. not (fits_in no_size low)) is

-- ---- what waits of an application

module _ (v : Rows) (p q n : ℕ) (row : AppRow) (found : lookup (nat_eq n) v.apps ≡ Some row) where
  abbrev pub its : ℕ × Seat
  its = seat_of (figures_of v) p q (n, row)

  pub waits-are : its.1.waits ≡ waits_at v p n row
  waits-are = ap (λ o. option_map_or (waits_at v p n) o nothing_waits) found

  -- where a master waits, it is the application's
  pub master-waits : IsWaiting (of_kind kind.Master its.1.waits) → of_kind kind.Master its.1.waits ≡ row.master
  master-waits waiting = go (not (runs_at v n row) && nat_eq row.home p) refl
    where
      go : (b : Bool) → (not (runs_at v n row) && nat_eq row.home p) ≡ b → of_kind kind.Master its.1.waits ≡ row.master
      go true w = ap (of_kind kind.Master) waits-are ∙ ap (λ b. cond b row.master no_size) w
      go false w = absurd (waiting (ap (fits_in no_size) (ap (of_kind kind.Master) waits-are ∙ ap (λ b. cond b row.master no_size) w)))

  -- and where asks wait, the least is below each for the partition
  pub ask-waits : IsWaiting (of_kind kind.Ask its.1.waits) → (ask : Ask) → Among ask row.asks → ask.partition ≡ p → IsBelow (of_kind kind.Ask its.1.waits) ask.size
  ask-waits waiting ask there for_p = go (runs_at v n row) refl
    where
      go : (b : Bool) → runs_at v n row ≡ b → IsBelow (of_kind kind.Ask its.1.waits) ask.size
      go true r =
          ap (λ low. fits_in low ask.size) (ap (of_kind kind.Ask) waits-are ∙ ap (λ b. cond b (least_asked p row.asks) no_size) r)
          ∙ each-among (λ a. a.partition ≡ p → IsBelow (least_asked p row.asks) a.size) ask row.asks (are-leasts.below p row.asks) there for_p
      go false r = absurd (waiting (ap (fits_in no_size) (ap (of_kind kind.Ask) waits-are ∙ ap (λ b. cond b (least_asked p row.asks) no_size) r)))

-- ---- the seat of an application

module _ (v : Rows) (p q : ℕ) (seats : List (ℕ × Seat)) (are : seats ≡ seats_of (figures_of v) p q v.apps) (distinct : HasDistinctNumbers seats)
    (n : ℕ) (row : AppRow) (found : lookup (nat_eq n) v.apps ≡ Some row) (sitting : sits p q row ≡ true) (ticket : IsSome (ticket_on p row)) where
  abbrev seat : ℕ × Seat
  seat = seat_of (figures_of v) p q (n, row)

  there : Among seat seats
  there = subst (Among seat) (sym are) (map-among (seat_of (figures_of v) p q) (n, row) (filter (λ (e : ℕ × AppRow). sits p q e.1) v.apps) (filter-among (λ (e : ℕ × AppRow). sits p q e.1) (n, row) v.apps sitting (among-found n row v.apps found)))

  ticket-is : ticket_on p row ≡ Some seat.0
  ticket-is = go (ticket_on p row) ticket
    where
      go : (o : Option ℕ) → IsSome o → o ≡ Some (unwrap_or o 0)
      go None some = absurd (true≢false (sym some))
      go (Some t) some = refl

  -- it shows what the user uses
  pub seat-used : used_on seats p row ≡ Some (user_use v p q row.user)
  seat-used =
      ap (option_and_then (λ ticket. option_map (λ (seat : Seat). seat.used) (lookup (nat_eq ticket) seats))) ticket-is
      ∙ ap (option_map (λ (seat : Seat). seat.used)) (found-among seat seats distinct there)

module _ (v : Rows) (p q : ℕ) (seats : List (ℕ × Seat)) (are : seats ≡ seats_of (figures_of v) p q v.apps) (distinct : HasDistinctNumbers seats) (tests : LeafTests)
    (n : ℕ) (row : AppRow) (found : lookup (nat_eq n) v.apps ≡ Some row) (sitting : sits p q row ≡ true) (ticket : IsSome (ticket_on p row)) (sized : IsSizedRow row) where
  -- what the user uses
  abbrev pub used : Resource
  used = user_use v p q row.user

  used-is : used_on seats p row ≡ Some used
  used-is = seat-used v p q seats are distinct n row found sitting ticket

  pub master-is : gives_master v seats p tests n ≡ cond (passes_master tests used row.master) (Some (found_master n row)) None
  master-is =
      ap (option_and_then (λ r. option_and_then (λ used. cond (passes_master tests used r.master) (Some (found_master n r)) None) (used_on seats p r))) found
      ∙ ap (option_and_then (λ used. cond (passes_master tests used row.master) (Some (found_master n row)) None)) used-is

  pub ask-is : gives_ask v seats p tests n ≡ option_map (found_ask n) (lowest (is_open_to v seats p tests used) row.asks)
  ask-is =
      ap (option_and_then (λ r. option_and_then (λ used. option_map (found_ask n) (lowest (is_open_to v seats p tests used) r.asks)) (used_on seats p r))) found
      ∙ ap (option_and_then (λ used. option_map (found_ask n) (lowest (is_open_to v seats p tests used) row.asks))) used-is

  -- its seat is given the master just where that waits
  pub master-given : given kind.Master (gives_master v seats p tests) (its v p q n row found).1 ≡ cond (not (runs_at v n row) && nat_eq row.home p) (gives_master v seats p tests n) None
  master-given = ap (λ b. cond b (gives_master v seats p tests n) None) (go (not (runs_at v n row) && nat_eq row.home p) refl)
    where
      go : (waits : Bool) → (not (runs_at v n row) && nat_eq row.home p) ≡ waits → is_waiting kind.Master (its v p q n row found).1 ≡ (not (runs_at v n row) && nat_eq row.home p)
      go false w =
          none-waits kind.Master (its v p q n row found).1 (ap (of_kind kind.Master) (waits-are v p q n row found) ∙ ap (λ b. cond b row.master no_size) w)
          ∙ sym w
      go true w =
          let both = and_parts (not (runs_at v n row)) (nat_eq row.home p) w in
          let home : p ≡ row.home = grind (arith, nat_tests, both.1) in
          are-met.master v n row (not-true (runs_at v n row) both.0) (its v p q n row found).1 (waits-are v p q n row found ∙ ap (λ home. waits_at v home n row) home) sized.master
          ∙ sym w

  -- and the first ask that passes just where it runs
  pub ask-given : given kind.Ask (gives_ask v seats p tests) (its v p q n row found).1 ≡ cond (runs_at v n row) (gives_ask v seats p tests n) None
  ask-given = go (runs_at v n row) refl (lowest (is_open_to v seats p tests used) row.asks) refl
    where
      go : (runs : Bool) → runs_at v n row ≡ runs → (o : Option Ask) → lowest (is_open_to v seats p tests used) row.asks ≡ o
          → cond (is_waiting kind.Ask (its v p q n row found).1) (gives_ask v seats p tests n) None ≡ cond runs (gives_ask v seats p tests n) None
      go false r o e =
          ap (λ b. cond b (gives_ask v seats p tests n) None)
          (none-waits kind.Ask (its v p q n row found).1 (ap (of_kind kind.Ask) (waits-are v p q n row found) ∙ ap (λ b. cond b (least_asked p row.asks) no_size) r))
      go true r (Some best) e =
          let is : IsLowest (is_open_to v seats p tests used) row.asks best = lowest-is (is_open_to v seats p tests used) row.asks best e in
          let parts = and_parts (nat_eq best.partition p) (passes_ask tests used best.size) is.passes in
          let for_p : best.partition ≡ p = grind (arith, nat_tests, parts.0) in
          let sized_ask = each-among (λ ask. IsSize ask.size) best row.asks sized.asks is.there in
          ap (λ b. cond b (gives_ask v seats p tests n) None)
          (each-among (λ ask. ask.partition ≡ p → IsSize ask.size → is_waiting kind.Ask (its v p q n row found).1 ≡ true) best row.asks
          (are-met.ask v n row p r (its v p q n row found).1 (waits-are v p q n row found)) is.there for_p sized_ask)
      go true r None e =
          ap (cond (is_waiting kind.Ask (its v p q n row found).1) (gives_ask v seats p tests n)) (sym nothing) ∙ same (is_waiting kind.Ask (its v p q n row found).1) (gives_ask v seats p tests n)
        where
          nothing : gives_ask v seats p tests n ≡ None
          nothing = ask-is ∙ ap (option_map (found_ask n)) e

          same : (b : Bool) (o : Option Found) → cond b o o ≡ o
          same true o = refl
          same false o = refl
