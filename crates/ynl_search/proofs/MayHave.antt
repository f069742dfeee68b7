-- Whatever a seat of a leaf's lane is given passes the test of its user.
use Rattle.std.proofs.Common.{◌≡◌, ℕ, Bool, true, false, cond, nat_eq, List, filter, Option, None, Some, IsSome, is_some, option_map, refl, sym, ap, subst, ◌∙◌, arith, true≢false}
use Rattle.std.specs.Prelude.{IsTrue}
use Rattle.std.specs.Map.{lookup}
use Rattle.std.specs.Option.{option_and_then}
use Rattle.std.proofs.lemmas.Bool.{and_parts}
use Rattle.std.proofs.lemmas.Bool.Decides.{nat_tests}
use Rattle.ynl_resource.specs.Amounts.{IsSize, fits_in}
use Rattle.ynl_resource.specs.declared.amounts.Resource.{Resource}
use Rattle.ynl_laws.proofs.Amounts.{fits-trans}
use Rattle.ynl_tables.specs.declared.apps.asks.Ask.{Ask}
use Rattle.ynl_lanes.specs.lows.Order.{below-refl}
use Rattle.ynl_lanes.specs.declared.lane.kinds.Kind.TheVariants as kind
use Rattle.ynl_lanes.specs.lane.Kinds.{of_kind}
use Rattle.ynl_lanes.specs.lane.Seats.{PassesGiven, Seat}
use Rattle.ynl_lanes.specs.lane.Waiting.{IsWaiting}
use Rattle.ynl_inventory.specs.Rows.{Rows, AppRow}
use Rattle.ynl_cluster.specs.seating.Seating.{figures_of, seat_of, shares, sits}
use Rattle.ynl_cluster.proofs.requests.Members.{Among, among-filter, among-map, each-among}
use Rattle.ynl_search.specs.declared.leaf.LeafTests.{LeafTests}
use Rattle.ynl_search.specs.declared.user_limits.UserLimits.{UserLimits}
use Rattle.ynl_search.specs.Guests.{gives_guest, is_guest_for}
use Rattle.ynl_search.specs.InLeaf.{found_ask, found_master, gives_ask, gives_master, is_open_to}
use Rattle.ynl_search.specs.Leaves.{passes_ask, passes_master}
use Rattle.ynl_search.specs.Lowest.{lowest}
use Rattle.ynl_search.specs.UserTests.{IsTestOf, IsWithinLimits}
use Rattle.ynl_search.specs.notes.Lanes.{IsLaneOf}
use Rattle.ynl_search.specs.limits.Raised.{within_limits-below}
use Rattle.ynl_search.proofs.LowestAsk.{IsLowest, lowest-is}
use Rattle.ynl_search.proofs.notes.Found.{among-found, found-among}
use Rattle.ynl_search.proofs.SeatGiven.{ask-is, ask-waits, bounds, its, master-is, master-waits}

module _ (v : Rows) (p q : ℕ) (seats : List (ℕ × Seat)) (is : IsLaneOf v p q seats) where
  -- each seat is that of an application that sits there
  record IsSeatOf (ticket : ℕ) (seat : Seat) : Type 0 where
    number : ℕ
    row : AppRow
    found : lookup (nat_eq number) v.apps ≡ Some row
    sitting : sits p q row ≡ true
    same : (seat_of (figures_of v) p q (number, row)).1 ≡ seat

  seat-is : (ticket : ℕ) (seat : Seat) → lookup (nat_eq ticket) seats ≡ Some seat → IsSeatOf ticket seat
  seat-is ticket seat there =
      let own =
      among-map (seat_of (figures_of v) p q) (ticket, seat) (filter (λ (e : ℕ × AppRow). sits p q e.1) v.apps)
      (subst (λ ss. Among (ticket, seat) ss) is.seats_are (among-found ticket seat seats there)) in
      let kept = among-filter (λ (e : ℕ × AppRow). sits p q e.1) own.0 v.apps own.1 in
      record {
        number = own.0.0;
        row = own.0.1;
        found = found-among own.0 v.apps is.numbers kept.0;
        sitting = kept.1;
        same = ap (λ (e : ℕ × Seat). e.1) own.2;
      }

  share-of : (row : AppRow) → sits p q row ≡ true → shares p row ≡ true
  share-of row s = (and_parts (nat_eq row.leaf q) (shares p row) s).1

  module _ (tests : LeafTests) (test : UserLimits) (of : IsTestOf tests test) where
    master-may : (n : ℕ) (row : AppRow) (found : lookup (nat_eq n) v.apps ≡ Some row) → sits p q row ≡ true → IsWaiting (of_kind kind.Master (its v p q n row found).1.waits)
        → IsSome (gives_master v seats p tests n) → IsWithinLimits test (its v p q n row found).1.used (of_kind kind.Master (its v p q n row found).1.waits)
    master-may n row found sitting waiting some = go (passes_master tests (its v p q n row found).1.used row.master) refl
      where
        go : (b : Bool) → passes_master tests (its v p q n row found).1.used row.master ≡ b → IsWithinLimits test (its v p q n row found).1.used (of_kind kind.Master (its v p q n row found).1.waits)
        go true e =
            subst (IsWithinLimits test (its v p q n row found).1.used) (sym (master-waits v p q n row found waiting))
            (bounds tests test of (its v p q n row found).1.used row.master (is.sized n row found).master
            (and_parts (passes_ask tests (its v p q n row found).1.used row.master) _ e).0)
        go false e =
            absurd
            (true≢false
            (sym some
            ∙ ap is_some
            (master-is v p q seats is.seats_are is.distinct tests n row found sitting (is.tickets n row found (share-of row sitting)) (is.sized n row found)
            ∙ ap (λ b. cond b (Some (found_master n row)) None) e)))

    abbrev opens : Resource → Ask → Bool
    opens used = is_open_to v seats p tests used

    ask-may : (n : ℕ) (row : AppRow) (found : lookup (nat_eq n) v.apps ≡ Some row) → sits p q row ≡ true → IsWaiting (of_kind kind.Ask (its v p q n row found).1.waits)
        → IsSome (gives_ask v seats p tests n) → IsWithinLimits test (its v p q n row found).1.used (of_kind kind.Ask (its v p q n row found).1.waits)
    ask-may n row found sitting waiting some = go (lowest (opens (its v p q n row found).1.used) row.asks) refl
      where
        go : (o : Option Ask) → lowest (opens (its v p q n row found).1.used) row.asks ≡ o → IsWithinLimits test (its v p q n row found).1.used (of_kind kind.Ask (its v p q n row found).1.waits)
        go (Some best) e =
            let low : IsLowest (opens (its v p q n row found).1.used) row.asks best = lowest-is (opens (its v p q n row found).1.used) row.asks best e in
            let parts = and_parts (nat_eq best.partition p) (passes_ask tests (its v p q n row found).1.used best.size) low.passes in
            let for_p : best.partition ≡ p = grind (arith, nat_tests, parts.0) in
            let sized = each-among (λ ask. IsSize ask.size) best row.asks (is.sized n row found).asks low.there in
            within_limits-below test (record { low = of_kind kind.Ask (its v p q n row found).1.waits; used = (its v p q n row found).1.used })
            (record { low = best.size; used = (its v p q n row found).1.used })
            (record { low = ask-waits v p q n row found waiting best low.there for_p; used = below-refl (its v p q n row found).1.used })
            (bounds tests test of (its v p q n row found).1.used best.size sized parts.1)
        go None e =
            absurd
            (true≢false
            (sym some
            ∙ ap is_some
            (ask-is v p q seats is.seats_are is.distinct tests n row found sitting (is.tickets n row found (share-of row sitting)) (is.sized n row found)
            ∙ ap (option_map (found_ask n)) e)))

    pub masters-may : PassesGiven kind.Master (IsWithinLimits test) (gives_master v seats p tests) seats
    masters-may ticket seat there waiting some =
        let own = seat-is ticket seat there in
        subst (λ (s : Seat). IsWithinLimits test s.used (of_kind kind.Master s.waits)) own.same
        (master-may own.number own.row own.found own.sitting (subst (λ (s : Seat). IsWaiting (of_kind kind.Master s.waits)) (sym own.same) waiting)
        (subst (λ (s : Seat). IsSome (gives_master v seats p tests s.app)) (sym own.same) some))

    pub asks-may : PassesGiven kind.Ask (IsWithinLimits test) (gives_ask v seats p tests) seats
    asks-may ticket seat there waiting some =
        let own = seat-is ticket seat there in
        subst (λ (s : Seat). IsWithinLimits test s.used (of_kind kind.Ask s.waits)) own.same
        (ask-may own.number own.row own.found own.sitting (subst (λ (s : Seat). IsWaiting (of_kind kind.Ask s.waits)) (sym own.same) waiting)
        (subst (λ (s : Seat). IsSome (gives_ask v seats p tests s.app)) (sym own.same) some))

-- a guest fits in the room
module _ (v : Rows) (q : ℕ) (seats : List (ℕ × Seat)) (is : IsLaneOf v 0 q seats) (room : Resource) where
  guest-may : (n : ℕ) (row : AppRow) (found : lookup (nat_eq n) v.apps ≡ Some row) → IsWaiting (of_kind kind.Ask (its v 0 q n row found).1.waits)
      → IsSome (gives_guest v room n) → IsTrue (fits_in (of_kind kind.Ask (its v 0 q n row found).1.waits) room)
  guest-may n row found waiting some = go (lowest (is_guest_for room) row.asks) refl
    where
      go : (o : Option Ask) → lowest (is_guest_for room) row.asks ≡ o → IsTrue (fits_in (of_kind kind.Ask (its v 0 q n row found).1.waits) room)
      go (Some best) e =
          let low : IsLowest (is_guest_for room) row.asks best = lowest-is (is_guest_for room) row.asks best e in
          let parts = and_parts (nat_eq best.partition 0) (fits_in best.size room) low.passes in
          let default : best.partition ≡ 0 = grind (arith, nat_tests, parts.0) in
          fits-trans (of_kind kind.Ask (its v 0 q n row found).1.waits) best.size room (ask-waits v 0 q n row found waiting best low.there default) parts.1
      go None e =
          absurd
          (true≢false
          (sym some
          ∙ ap is_some
          (ap (option_and_then (λ r. option_map (found_ask n) (lowest (is_guest_for room) r.asks))) found ∙ ap (option_map (found_ask n)) e)))

  pub guests-may : PassesGiven kind.Ask (λ used size. IsTrue (fits_in size room)) (gives_guest v room) seats
  guests-may ticket seat there waiting some =
      let own = seat-is v 0 q seats is ticket seat there in
      subst (λ (s : Seat). IsTrue (fits_in (of_kind kind.Ask s.waits) room)) own.same
      (guest-may own.number own.row own.found (subst (λ (s : Seat). IsWaiting (of_kind kind.Ask s.waits)) (sym own.same) waiting)
      (subst (λ (s : Seat). IsSome (gives_guest v room s.app)) (sym own.same) some))
