-- The first request that is found in a leaf's lane is the first in the rows that may be placed.
use Rattle.std.proofs.Common.{◌≡◌, ◌≤◌, ◌⊎◌, ℕ, Bool, true, false, not, ◌&&◌, cond, nat_eq, List, [], ◌∷◌, map, filter, Option, None, Some, IsSome, is_some, option_map, inl, inr, refl, sym, ap, subst, ◌∙◌, arith, true≢false}
use Rattle.std.specs.Cmp.Lexicographic.{slice_cmp}
use Rattle.std.specs.Map.{lookup}
use Rattle.std.specs.Option.{option_or}
use Rattle.std.specs.Ordering.{is_gt, nat_cmp}
use Rattle.std.proofs.lemmas.Bool.{and_from, and_parts, or_right}
use Rattle.std.proofs.lemmas.Bool.Decides.{nat_tests}
use Rattle.std.proofs.lemmas.Option.{none-some, same_Some}
use Rattle.ynl_resource.specs.declared.amounts.Resource.{Resource}
use Rattle.ynl_model.specs.Service.{Item}
use Rattle.ynl_tables.specs.declared.apps.asks.Ask.{Ask}
use Rattle.ynl_lanes.specs.declared.lane.kinds.Kind.TheVariants as kind
use Rattle.ynl_lanes.specs.lane.Seats.{Seat, first_given, given}
use Rattle.ynl_inventory.specs.Rows.{Rows, AppRow}
use Rattle.ynl_inventory.specs.Apps.{is_master_role, runs_at}
use Rattle.ynl_cluster.specs.seating.Seating.{figures_of, seat_of, seats_of, shares, sits, user_use}
use Rattle.ynl_cluster.specs.requests.First.{Asker, IsFirstPassing, IsNotAfter, IsPassing, ranks_after}
use Rattle.ynl_cluster.specs.requests.Requests.{Request, ask_request, asked, item_for, master_request, master_wanted, wanted}
use Rattle.ynl_cluster.proofs.requests.Members.{Among, among-contained, among-either, among-filter, among-map, contained-among, each-among, filter-among, left-among, map-among, right-among}
use Rattle.ynl_cluster.proofs.requests.Order.{Precedes, precedes-place}
use Rattle.ynl_search.specs.declared.found.Found.{Found}
use Rattle.ynl_search.specs.declared.leaf.LeafTests.{LeafTests}
use Rattle.ynl_search.specs.notes.Lanes.{IsLaneOf}
use Rattle.ynl_search.specs.InLeaf.{first_own, found_ask, found_master, gives_ask, gives_master, is_open_to}
use Rattle.ynl_search.specs.Leaves.{passes_ask, passes_master}
use Rattle.ynl_search.specs.Lowest.{lowest}
use Rattle.ynl_search.proofs.FirstOver.{AreExclusive, IsFirstAt, either, first-either, first-none, first-some, found_of}
use Rattle.ynl_search.proofs.LowestAsk.{IsLowest, lowest-is, lowest-none}
use Rattle.ynl_search.proofs.notes.Found.{found-among, among-found}
use Rattle.ynl_search.proofs.SeatGiven.{ask-given, ask-is, master-given, master-is}

-- what is found of an asker
abbrev pub found_by : Asker → Found
found_by a = record { app = a.number; role = a.request.role; size = a.request.size }

-- in a list under a condition
conditional : {X : Type 0} (x : X) (b : Bool) (xs : List X) → Among x (cond b xs []) → (b ≡ true) × Among x xs
conditional x true xs there = (refl, there)
conditional x false xs there = absurd there

module _ (v : Rows) (p q : ℕ) (seats : List (ℕ × Seat)) (is : IsLaneOf v p q seats) (tests : LeafTests) (test : Item → Bool)
    (tell : (n : ℕ) (row : AppRow) → lookup (nat_eq n) v.apps ≡ Some row → row.leaf ≡ q → (r : Request)
    → test (item_for v row r) ≡ cond (is_master_role r.role) (passes_master tests (user_use v p q row.user) r.size) (passes_ask tests (user_use v p q row.user) r.size)) where
  -- which requests pass
  abbrev Passing : Asker → Type 0
  Passing = IsPassing v (wanted v p) test q

  abbrev keep : ℕ × AppRow → Bool
  keep e = sits p q e.1

  abbrev seat : ℕ × AppRow → ℕ × Seat
  seat = seat_of (figures_of v) p q

  -- ---- what sits there

  sits-parts : (row : AppRow) → sits p q row ≡ true → (row.leaf ≡ q) × (shares p row ≡ true)
  sits-parts row s = let parts = and_parts (nat_eq row.leaf q) (shares p row) s in (grind (arith, nat_tests, parts.0), parts.1)

  -- a passing request's application sits there
  passing-sits : (a : Asker) → Passing a → sits p q a.row ≡ true
  passing-sits a pass = and_from (nat_eq a.row.leaf q) (shares p a.row) (let own = pass.own in grind (arith, nat_tests, own)) (from (among-either a.request (master_wanted v p a.number a.row) (asked v p a.number a.row) (among-contained a.request (wanted v p a.number a.row) pass.there)))
    where
      from : Among a.request (master_wanted v p a.number a.row) ⊎ Among a.request (asked v p a.number a.row) → shares p a.row ≡ true
      from (inl there) =
          let here = conditional a.request (not (runs_at v a.number a.row) && nat_eq a.row.home p) (master_request a.row ∷ []) there in
          or_right (nat_eq p 0) (nat_eq a.row.home p) (and_parts (not (runs_at v a.number a.row)) (nat_eq a.row.home p) here.0).1
      from (inr there) =
          let here = conditional a.request (runs_at v a.number a.row) (map ask_request (filter (λ ask. nat_eq ask.partition p) a.row.asks)) there in
          let own = among-map ask_request a.request (filter (λ ask. nat_eq ask.partition p) a.row.asks) here.1 in
          let for_p = among-filter (λ ask. nat_eq ask.partition p) own.0 a.row.asks own.1 in
          each-among (λ ask. ask.partition ≡ p → shares p a.row ≡ true) own.0 a.row.asks (is.sharing a.number a.row pass.found) for_p.0 (let e = for_p.1 in grind (arith, nat_tests, e))

  -- ---- what is given

  abbrev masters : Seat → Option Found
  masters = given kind.Master (gives_master v seats p tests)

  abbrev asks : Seat → Option Found
  asks = given kind.Ask (gives_ask v seats p tests)

  module _ (n : ℕ) (row : AppRow) (found : lookup (nat_eq n) v.apps ≡ Some row) (sitting : sits p q row ≡ true) where
    abbrev used : Resource
    used = user_use v p q row.user

    master-here : masters (seat (n, row)).1 ≡ cond (not (runs_at v n row) && nat_eq row.home p) (cond (passes_master tests used row.master) (Some (found_master n row)) None) None
    master-here =
        master-given v p q seats is.seats_are is.distinct tests n row found sitting (is.tickets n row found (sits-parts row sitting).1) (is.sized n row found)
        ∙ ap (λ o. cond (not (runs_at v n row) && nat_eq row.home p) o None)
        (master-is v p q seats is.seats_are is.distinct tests n row found sitting (is.tickets n row found (sits-parts row sitting).1) (is.sized n row found))

    ask-here : asks (seat (n, row)).1 ≡ cond (runs_at v n row) (option_map (found_ask n) (lowest (is_open_to v seats p tests used) row.asks)) None
    ask-here =
        ask-given v p q seats is.seats_are is.distinct tests n row found sitting (is.tickets n row found (sits-parts row sitting).1) (is.sized n row found)
        ∙ ap (λ o. cond (runs_at v n row) o None)
        (ask-is v p q seats is.seats_are is.distinct tests n row found sitting (is.tickets n row found (sits-parts row sitting).1) (is.sized n row found))

    -- whose master is given is given no ask
    apart : IsSome (masters (seat (n, row)).1) → asks (seat (n, row)).1 ≡ None
    apart some = go (runs_at v n row) refl
      where
        go : (b : Bool) → runs_at v n row ≡ b → asks (seat (n, row)).1 ≡ None
        go false e = ask-here ∙ ap (λ b. cond b (option_map (found_ask n) (lowest (is_open_to v seats p tests used) row.asks)) None) e
        go true e =
            absurd
            (true≢false
            (sym some ∙ ap is_some (master-here ∙ ap (λ b. cond (not b && nat_eq row.home p) (cond (passes_master tests used row.master) (Some (found_master n row)) None) None) e)))

    -- what is given there is one of the application's requests, which passes and ranks after none that does
    pub record IsGiven (x : Found) : Type 0 where
      pub request : Request
      pub is_found : x ≡ found_by (record { number = n; row = row; request = request })
      pub passing : Passing (record { number = n; row = row; request = request })
      pub first : (other : Request) → Passing (record { number = n; row = row; request = other }) → ranks_after request other ≡ false

    master-passing : (not (runs_at v n row) && nat_eq row.home p) ≡ true → passes_master tests used row.master ≡ true → Passing (record { number = n; row = row; request = master_request row })
    master-passing waits passes = record {
      found = found;
      own = (sits-parts row sitting).0;
      there =
          contained-among (master_request row) (wanted v p n row)
          (left-among (master_request row) (master_wanted v p n row) (asked v p n row) (subst (λ b. Among (master_request row) (cond b (master_request row ∷ []) [])) (sym waits) (inl refl)));
      passes = tell n row found (sits-parts row sitting).0 (master_request row) ∙ passes;
    }

    ask-passing : runs_at v n row ≡ true → (ask : Ask) → Among ask row.asks → is_open_to v seats p tests used ask ≡ true → Passing (record { number = n; row = row; request = ask_request ask })
    ask-passing runs ask there opens =
        let parts = and_parts (nat_eq ask.partition p) (passes_ask tests used ask.size) opens in
        record {
          found = found;
          own = (sits-parts row sitting).0;
          there =
              contained-among (ask_request ask) (wanted v p n row)
              (right-among (ask_request ask) (master_wanted v p n row) (asked v p n row)
              (subst (λ b. Among (ask_request ask) (cond b (map ask_request (filter (λ ask. nat_eq ask.partition p) row.asks)) [])) (sym runs)
              (map-among ask_request ask (filter (λ ask. nat_eq ask.partition p) row.asks) (filter-among (λ ask. nat_eq ask.partition p) ask row.asks parts.0 there))));
          passes = tell n row found (sits-parts row sitting).0 (ask_request ask) ∙ parts.1;
        }

    -- a request is the master that waits, and passes, or an ask of one that runs, and is open
    abbrev IsMasterOrAsk : Request → Type 0
    IsMasterOrAsk r =
        (((not (runs_at v n row) && nat_eq row.home p) ≡ true) × (r ≡ master_request row) × (passes_master tests used row.master ≡ true))
        ⊎ ((runs_at v n row ≡ true) × ((ask : Ask) × Among ask row.asks × (r ≡ ask_request ask) × (is_open_to v seats p tests used ask ≡ true)))

    -- so is each request that passes
    of-passing : (r : Request) → Passing (record { number = n; row = row; request = r })
        → IsMasterOrAsk r
    of-passing r pass = from (among-either r (master_wanted v p n row) (asked v p n row) (among-contained r (wanted v p n row) pass.there))
      where
        tested : cond (is_master_role r.role) (passes_master tests used r.size) (passes_ask tests used r.size) ≡ true
        tested = sym (tell n row found (sits-parts row sitting).0 r) ∙ pass.passes

        from : Among r (master_wanted v p n row) ⊎ Among r (asked v p n row)
            → IsMasterOrAsk r
        from (inl there) = at (conditional r (not (runs_at v n row) && nat_eq row.home p) (master_request row ∷ []) there)
          where
            at : ((not (runs_at v n row) && nat_eq row.home p) ≡ true) × Among r (master_request row ∷ [])
                → IsMasterOrAsk r
            at (holds, inr none) = absurd none
            at (holds, inl same) =
                inl (holds, sym same, ap (λ (r : Request). cond (is_master_role r.role) (passes_master tests used r.size) (passes_ask tests used r.size)) same ∙ tested)
        from (inr there) =
            let here = conditional r (runs_at v n row) (map ask_request (filter (λ ask. nat_eq ask.partition p) row.asks)) there in
            let own = among-map ask_request r (filter (λ ask. nat_eq ask.partition p) row.asks) here.1 in
            let for_p = among-filter (λ ask. nat_eq ask.partition p) own.0 row.asks own.1 in
            inr (
              here.0,
              (
                own.0,
                for_p.0,
                sym own.2,
                and_from (nat_eq own.0.partition p) (passes_ask tests used own.0.size) for_p.1
                    (ap (λ (r : Request). cond (is_master_role r.role) (passes_master tests used r.size) (passes_ask tests used r.size)) own.2 ∙ tested),
              ),
            )

    -- a request that passes leads to something given
    passing-given : (r : Request) → Passing (record { number = n; row = row; request = r }) → IsSome (either masters asks (seat (n, row)).1)
    passing-given r pass = from (of-passing r pass)
      where
        from : IsMasterOrAsk r
            → IsSome (either masters asks (seat (n, row)).1)
        from (inl (waits, same, passes)) =
            let given_master : masters (seat (n, row)).1 ≡ Some (found_master n row) =
            master-here ∙ (λ i. cond (waits i) (cond (passes i) (Some (found_master n row)) None) None) in
            ap is_some (λ i. option_or (apart (ap is_some given_master) i) (given_master i))
        from (inr (runs, (ask, there, same, opens))) = at (lowest (is_open_to v seats p tests used) row.asks) refl
          where
            at : (o : Option Ask) → lowest (is_open_to v seats p tests used) row.asks ≡ o → IsSome (either masters asks (seat (n, row)).1)
            at None e = absurd (true≢false (sym opens ∙ each-among (λ ask. is_open_to v seats p tests used ask ≡ false) ask row.asks (lowest-none (is_open_to v seats p tests used) row.asks e) there))
            at (Some best) e =
                let given_ask : asks (seat (n, row)).1 ≡ Some (found_ask n best) =
                ask-here ∙ (λ i. cond (runs i) (option_map (found_ask n) (e i)) None) in
                ap is_some (ap (λ o. option_or o (masters (seat (n, row)).1)) given_ask)

    -- and what is given is one that passes
    given-passing : (x : Found) → either masters asks (seat (n, row)).1 ≡ Some x → IsGiven x
    given-passing x is_given = go (runs_at v n row) refl (lowest (is_open_to v seats p tests used) row.asks) refl (not (runs_at v n row) && nat_eq row.home p) refl (passes_master tests used row.master) refl
      where
        go : (runs : Bool) → runs_at v n row ≡ runs → (o : Option Ask) → lowest (is_open_to v seats p tests used) row.asks ≡ o
            → (waits : Bool) → (not (runs_at v n row) && nat_eq row.home p) ≡ waits → (passes : Bool) → passes_master tests used row.master ≡ passes → IsGiven x
        go true runs (Some best) low waits w passes m =
            let its : IsLowest (is_open_to v seats p tests used) row.asks best = lowest-is (is_open_to v seats p tests used) row.asks best low in
            let same : found_ask n best ≡ x =
            same_Some (found_ask n best) x
            (sym (ap (λ o. option_or o (masters (seat (n, row)).1)) (ask-here ∙ (λ i. cond (runs i) (option_map (found_ask n) (low i)) None))) ∙ is_given) in
            record {
              request = ask_request best;
              is_found = sym same;
              passing = ask-passing runs best its.there its.passes;
              first = λ other pass. ranked other (of-passing other pass);
            }
          where
            ranked : (other : Request)
                → IsMasterOrAsk other
                → ranks_after (ask_request best) other ≡ false
            ranked other (inl (waiting, same, passing)) = absurd (true≢false (sym waiting ∙ ap (λ b. not b && nat_eq row.home p) runs))
            ranked other (inr (running, (ask, there, same, opens))) =
                ap (ranks_after (ask_request best)) same
                ∙ behind best.priority ask.priority
                (each-among (λ ask. is_open_to v seats p tests used ask ≡ true → best.priority ≤ ask.priority) ask row.asks (lowest-is (is_open_to v seats p tests used) row.asks best low).no_lower there opens)
              where
                behind : (a b : ℕ) → a ≤ b → is_gt (slice_cmp nat_cmp (1 ∷ a ∷ []) (1 ∷ b ∷ [])) ≡ false
                behind a b h = grind (arith, nat_tests, h)
        go true runs None low waits w passes m =
            absurd
            (none-some x
            (sym
            (λ i. option_or ((ask-here ∙ (λ j. cond (runs j) (option_map (found_ask n) (low j)) None)) i)
            ((master-here ∙ ap (λ b. cond (not b && nat_eq row.home p) (cond (passes_master tests used row.master) (Some (found_master n row)) None) None) runs) i))
            ∙ is_given))
        go false runs o low true w true m =
            let same : found_master n row ≡ x =
            same_Some (found_master n row) x
            (sym
            (λ i. option_or ((ask-here ∙ ap (λ b. cond b (option_map (found_ask n) (lowest (is_open_to v seats p tests used) row.asks)) None) runs) i)
            ((master-here ∙ (λ j. cond (w j) (cond (m j) (Some (found_master n row)) None) None)) i))
            ∙ is_given) in
            record {
              request = master_request row;
              is_found = sym same;
              passing = master-passing w m;
              first = λ other pass. ranked other (of-passing other pass);
            }
          where
            ranked : (other : Request)
                → IsMasterOrAsk other
                → ranks_after (master_request row) other ≡ false
            ranked other (inl (waiting, same, passing)) = ap (ranks_after (master_request row)) same
            ranked other (inr (running, rest)) = absurd (true≢false (sym running ∙ runs))
        go false runs o low true w false m =
            absurd
            (none-some x
            (sym
            (λ i. option_or ((ask-here ∙ ap (λ b. cond b (option_map (found_ask n) (lowest (is_open_to v seats p tests used) row.asks)) None) runs) i)
            ((master-here ∙ (λ j. cond (w j) (cond (m j) (Some (found_master n row)) None) None)) i))
            ∙ is_given))
        go false runs o low false w passes m =
            absurd
            (none-some x
            (sym
            (λ i. option_or ((ask-here ∙ ap (λ b. cond b (option_map (found_ask n) (lowest (is_open_to v seats p tests used) row.asks)) None) runs) i)
            ((master-here ∙ ap (λ b. cond b (cond (passes_master tests used row.master) (Some (found_master n row)) None) None) w) i))
            ∙ is_given))

  -- ---- over all

  exclusive : AreExclusive masters asks seats
  exclusive = subst (AreExclusive masters asks) (sym is.seats_are) (each v.apps (λ e there. there))
    where
      each : (es : List (ℕ × AppRow)) → ((e : ℕ × AppRow) → Among e es → Among e v.apps) → AreExclusive masters asks (seats_of (figures_of v) p q es)
      each [] within = tt
      each (e ∷ es) within = go (sits p q e.1) refl (each es (λ other there. within other (inr there)))
        where
          go : (b : Bool) → sits p q e.1 ≡ b → AreExclusive masters asks (seats_of (figures_of v) p q es) → AreExclusive masters asks (map seat (cond b (e ∷ filter keep es) (filter keep es)))
          go false s rest = rest
          go true s rest = (apart e.0 e.1 (found-among e v.apps is.numbers (within e (inl refl))) s, rest)

  -- what is found over the entries is the first that passes
  over : (o : Option (ℕ × Found)) → first_given (either masters asks) (seats_of (figures_of v) p q v.apps) ≡ o
      → (a : Option Asker) × IsFirstPassing v (wanted v p) test q a × (option_map found_by a ≡ found_of masters asks o)
  over None none = (None, λ other pass. nothing other pass, refl)
    where
      nothing : (other : Asker) → Passing other → ⊥
      nothing other pass =
          true≢false
          (sym (passing-given other.number other.row pass.found (passing-sits other pass) other.request pass)
          ∙ ap is_some
          (first-none keep seat (either masters asks) v.apps none (other.number, other.row) (among-found other.number other.row v.apps pass.found) (passing-sits other pass)))
  over (Some found) some =
      let at = first-some keep seat (either masters asks) v.apps found some in
      let first : IsFirstAt keep seat (either masters asks) v.apps found at.0 = at.1 in
      let there = found-among at.0 v.apps is.numbers first.there in
      let its : IsGiven at.0.0 at.0.1 there first.kept found.1 = given-passing at.0.0 at.0.1 there first.kept found.1 first.given in (
        Some (record { number = at.0.0; row = at.0.1; request = its.request }),
        (
          its.passing,
          λ other pass.
              not-after at.0 first its other pass
              (first.before (other.number, other.row) (among-found other.number other.row v.apps pass.found) (passing-sits other pass)
              (passing-given other.number other.row pass.found (passing-sits other pass) other.request pass)),
        ),
        ap (λ x. Some x) (sym its.is_found),
      )
    where
      not-after : (e : ℕ × AppRow) (first : IsFirstAt keep seat (either masters asks) v.apps found e)
          → (its : IsGiven e.0 e.1 (found-among e v.apps is.numbers first.there) first.kept found.1) (other : Asker) → Passing other → ((other.number, other.row) ≡ e) ⊎ Precedes e.0 other.number v.apps
          → IsNotAfter v (wanted v p) test q (record { number = e.0; row = e.1; request = its.request }) other
      not-after e first its other pass (inr before) = inl (precedes-place e.0 other.number v.apps is.numbers before)
      not-after e first its other pass (inl same) =
          inr (
            ap (λ (o : ℕ × AppRow). o.0) same,
            its.first other.request (subst (λ (o : ℕ × AppRow). Passing (record { number = o.0; row = o.1; request = other.request })) same pass),
          )

  -- what is found in the leaf is the first request that passes
  pub first-in : (a : Option Asker) × IsFirstPassing v (wanted v p) test q a × (option_map found_by a ≡ first_own v seats p tests)
  first-in =
      let found = over (first_given (either masters asks) (seats_of (figures_of v) p q v.apps)) refl in (
        found.0,
        found.1,
        found.2
            ∙ ap (λ ss. found_of masters asks (first_given (either masters asks) ss)) (sym is.seats_are)
            ∙ sym (first-either masters asks seats is.distinct exclusive),
      )
