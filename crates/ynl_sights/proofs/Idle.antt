-- Where nothing waits in the lane of a leaf nothing is wanted of the leaf.
use Rattle.std.proofs.Common.{◌≡◌, ℕ, Bool, true, false, not, ◌&&◌, cond, nat_eq, List, [], ◌∷◌, ◌++◌, map, filter, flat_map, Some, unwrap_or, refl, sym, ap, subst, ◌∙◌, arith, true≢false}
use Rattle.std.specs.List.{AllByRecursion}
use Rattle.std.specs.Map.{lookup}
use Rattle.std.proofs.lemmas.Bool.{and_parts, or_right}
use Rattle.std.proofs.lemmas.Bool.Decides.{nat_tests}
use Rattle.ynl_resource.specs.Amounts.{IsSize, fits_in}
use Rattle.ynl_resource.specs.declared.amounts.Resource.{Resource}
use Rattle.ynl_tables.specs.declared.apps.asks.Ask.{Ask}
use Rattle.ynl_lanes.specs.lows.Lows.{IsBelow, no_size}
use Rattle.ynl_lanes.specs.lows.Order.{below-trans}
use Rattle.ynl_lanes.specs.declared.lane.kinds.Kind.{Kind}
use Rattle.ynl_lanes.specs.declared.lane.kinds.Kind.TheVariants as kind
use Rattle.ynl_lanes.specs.lane.Kinds.{of_kind}
use Rattle.ynl_lanes.specs.lane.Seats.{Seat, Seats}
use Rattle.ynl_lanes.specs.table.Lanes.{lane_at}
use Rattle.ynl_lanes.specs.lane.Waiting.{IsWaiting}
use Rattle.ynl_inventory.specs.Rows.{Rows, AppRow}
use Rattle.ynl_inventory.specs.Apps.{runs_at}
use Rattle.ynl_inventory.specs.Sound.{IsSound}
use Rattle.ynl_inventory.proofs.Used.{fits-parts}
use Rattle.ynl_cluster.specs.requests.Laws.{in_leaf}
use Rattle.ynl_cluster.specs.requests.Requests.{Request, ask_request, asked, item_for, master_request, master_wanted}
use Rattle.ynl_cluster.specs.seating.Seating.{least_asked, shares, ticket_on, user_use, waits_at}
use Rattle.ynl_cluster.proofs.seating.Leasts.{are-leasts}
use Rattle.ynl_cluster.proofs.seating.Starting.{are-found}
use Rattle.ynl_cluster.specs.Cluster.{AskSizes, ClusterView, IsCell, IsLaneIn}
use Rattle.ynl_search.specs.notes.Lanes.{IsLaneOf}
use Rattle.ynl_search.proofs.notes.LaneOf.{lane-is}
use Rattle.ynl_sights.specs.Copying.{items_in, kind_wanted}
use Rattle.ynl_sights.proofs.Places.{each-own, IsOwn}

-- nothing of a kind waits in a leaf's lane on a partition
abbrev WaitsForNone : Rows → ℕ → ℕ → Kind → Type 0
WaitsForNone v p q k = (n : ℕ) (row : AppRow) → lookup (nat_eq n) v.apps ≡ Some row → row.leaf ≡ q → shares p row ≡ true → IsBelow no_size (of_kind k (waits_at v p n row))

-- where the least of all that waits is that of no sizes nothing waits
none-waits : (w : ClusterView) (p q : ℕ) (lane : Seats) → IsLaneIn w p q lane → (k : Kind) (low : Resource)
    → ((ticket : ℕ) (seat : Seat) → lookup (nat_eq ticket) lane.seats ≡ Some seat → IsWaiting (of_kind k seat.waits) → IsBelow low (of_kind k seat.waits)) → IsBelow no_size low
    → WaitsForNone w.rows p q k
none-waits w p q lane there k low least none n row found own shared = go (fits_in no_size waits) refl
  where
    waits : Resource
    waits = of_kind k (waits_at w.rows p n row)

    at : lookup (nat_eq (unwrap_or (ticket_on p row) 0)) lane.seats ≡ Some (record { app = n; user = row.user; used = user_use w.rows p row.leaf row.user; waits = waits_at w.rows p n row })
    at =
        ap (λ (l : Seats). lookup (nat_eq (unwrap_or (ticket_on p row) 0)) l.seats) (there.own ∙ ap (λ q. lane_at p q there.lanes) (sym own))
        ∙ are-found w.rows there.lanes there.seated n row found p shared

    go : (b : Bool) → fits_in no_size waits ≡ b → fits_in no_size waits ≡ true
    go true is = is
    go false is =
        below-trans no_size low waits none
        (least (unwrap_or (ticket_on p row) 0) (record { app = n; user = row.user; used = user_use w.rows p row.leaf row.user; waits = waits_at w.rows p n row }) at
        (λ below. true≢false (sym below ∙ is)))

size-waits : (size : Resource) → IsSize size → IsBelow no_size size → ⊥
size-waits size is all = let parts = fits-parts no_size size all in omega (arith, parts.1, is.vcores)

module _ (w : ClusterView) (sound : IsSound w.rows) (sizes : AskSizes w.rows) (p q : ℕ) (cell : IsCell w p q) (lane : Seats) (there : IsLaneIn w p q lane) where
  its : IsLaneOf w.rows p q lane.seats
  its = lane-is w p q cell lane there sound sizes

  all-none : (among : ℕ → AppRow → List Request) → ((e : ℕ × AppRow) → lookup (nat_eq e.0) w.rows.apps ≡ Some e.1 → e.1.leaf ≡ q → among e.0 e.1 ≡ []) → items_in w.rows among q ≡ []
  all-none among none = each (in_leaf q w.rows.apps) (each-own w.rows sound q)
    where
      each : (es : List (ℕ × AppRow)) → AllByRecursion (IsOwn w.rows sound q) es → flat_map (λ e. map (item_for w.rows e.1) (among e.0 e.1)) es ≡ []
      each [] all = refl
      each (e ∷ es) all = λ i. map (item_for w.rows e.1) (none e all.0.found all.0.own i) ++ each es all.1 i

  -- so no master is wanted
  no-masters : WaitsForNone w.rows p q kind.Master → items_in w.rows (master_wanted w.rows p) q ≡ []
  no-masters none = all-none (master_wanted w.rows p) one
    where
      one : (e : ℕ × AppRow) → lookup (nat_eq e.0) w.rows.apps ≡ Some e.1 → e.1.leaf ≡ q → master_wanted w.rows p e.0 e.1 ≡ []
      one e found own = go (not (runs_at w.rows e.0 e.1) && nat_eq e.1.home p) refl
        where
          go : (b : Bool) → (not (runs_at w.rows e.0 e.1) && nat_eq e.1.home p) ≡ b → cond b (master_request e.1 ∷ []) [] ≡ []
          go false is = refl
          go true is =
              let shared : shares p e.1 ≡ true = or_right (nat_eq p 0) (nat_eq e.1.home p) (and_parts (not (runs_at w.rows e.0 e.1)) (nat_eq e.1.home p) is).1 in
              absurd
              (size-waits e.1.master (its.sized e.0 e.1 found).master
              (subst (IsBelow no_size) (ap (λ b. cond b e.1.master no_size) is) (none e.0 e.1 found own shared)))

  -- and nothing is asked for
  no-asks : WaitsForNone w.rows p q kind.Ask → items_in w.rows (asked w.rows p) q ≡ []
  no-asks none = all-none (asked w.rows p) one
    where
      one : (e : ℕ × AppRow) → lookup (nat_eq e.0) w.rows.apps ≡ Some e.1 → e.1.leaf ≡ q → asked w.rows p e.0 e.1 ≡ []
      one e found own = go (runs_at w.rows e.0 e.1) refl
        where
          others : List Ask → List Ask
          others asks = filter (λ ask. nat_eq ask.partition p) asks

          -- each ask is for another partition
          apart : (runs_at w.rows e.0 e.1 ≡ true) → (asks : List Ask) → AllByRecursion (λ ask. ask.partition ≡ p → shares p e.1 ≡ true) asks → AllByRecursion (λ ask. IsSize ask.size) asks
              → AllByRecursion (λ ask. ask.partition ≡ p → IsSize ask.size → IsWaiting (least_asked p e.1.asks)) asks → others asks ≡ []
          apart runs [] share sized waiting = refl
          apart runs (ask ∷ asks) share sized waiting = step (nat_eq ask.partition p) refl (apart runs asks share.1 sized.1 waiting.1)
            where
              step : (b : Bool) → nat_eq ask.partition p ≡ b → others asks ≡ [] → cond b (ask ∷ others asks) (others asks) ≡ []
              step false is rest = rest
              step true is rest =
                  let at : ask.partition ≡ p = grind (arith, nat_tests, is) in
                  absurd (waiting.0 at sized.0 (subst (IsBelow no_size) (ap (λ b. cond b (least_asked p e.1.asks) no_size) runs) (none e.0 e.1 found own (share.0 at))))

          go : (b : Bool) → runs_at w.rows e.0 e.1 ≡ b → cond b (map ask_request (others e.1.asks)) [] ≡ []
          go false is = refl
          go true is = ap (map ask_request) (apart is e.1.asks (its.sharing e.0 e.1 found) (its.sized e.0 e.1 found).asks (are-leasts.waiting p e.1.asks))

  -- so nothing of the kind is wanted
  none-wanted : (k : Kind) → WaitsForNone w.rows p q k → items_in w.rows (kind_wanted k w.rows p) q ≡ []
  none-wanted kind.Master none = no-masters none
  none-wanted kind.Ask none = no-asks none

  pub idle : (k : Kind) (low : Resource)
      → ((ticket : ℕ) (seat : Seat) → lookup (nat_eq ticket) lane.seats ≡ Some seat → IsWaiting (of_kind k seat.waits) → IsBelow low (of_kind k seat.waits)) → IsBelow no_size low
      → items_in w.rows (kind_wanted k w.rows p) q ≡ []
  idle k low least none = none-wanted k (none-waits w p q lane there k low least none)
