-- The least that waits in a leaf: no request of the leaf is for less.
use Rattle.std.proofs.Common.{◌≡◌, ◌⊎◌, ℕ, Bool, true, false, not, ◌&&◌, cond, nat_eq, List, [], ◌∷◌, map, filter, None, Some, Contains, inl, inr, refl, sym, ap, subst, ◌∙◌, arith, true≢false}
use Rattle.std.specs.Map.{lookup}
use Rattle.std.proofs.lemmas.Bool.{and_from, and_parts, or_right}
use Rattle.std.proofs.lemmas.Bool.Decides.{nat_tests}
use Rattle.ynl_resource.specs.Amounts.{IsSize, fits_in}
use Rattle.ynl_resource.specs.declared.amounts.Resource.{Resource}
use Rattle.ynl_resource.specs.declared.labels.Label.{Label}
use Rattle.ynl_resource.specs.declared.labels.Label.TheVariants.{Unlabelled}
use Rattle.ynl_model.specs.Service.{Item, asks_for, items_for}
use Rattle.ynl_laws.specs.Descent.{IsBelow}
use Rattle.ynl_laws.proofs.Amounts.{fits-refl, fits-trans}
use Rattle.ynl_lanes.specs.lows.Lows.{IsBelow as IsAtMost}
use Rattle.ynl_lanes.specs.declared.lane.kinds.Kind.{Kind}
use Rattle.ynl_lanes.specs.declared.lane.kinds.Kind.TheVariants as kind
use Rattle.ynl_lanes.specs.lane.Kinds.{of_kind}
use Rattle.ynl_lanes.specs.lane.Seats.{Seat, is_waiting}
use Rattle.ynl_lanes.specs.lane.Waiting.{IsWaiting}
use Rattle.ynl_inventory.specs.Rows.{Rows, AppRow}
use Rattle.ynl_inventory.specs.Apps.{runs_at}
use Rattle.ynl_inventory.specs.Sound.{IsLeaf, IsSound}
use Rattle.ynl_inventory.proofs.Finding.{not-true}
use Rattle.ynl_cluster.specs.seating.Seating.{figures_of, seat_of, shares, sits, waits_at}
use Rattle.ynl_cluster.proofs.seating.Leasts.{are-met}
use Rattle.ynl_cluster.specs.requests.First.{IsFirstPassing}
use Rattle.ynl_cluster.specs.requests.Requests.{Request, ask_request, asked, master_request, master_wanted, wanted}
use Rattle.ynl_cluster.proofs.requests.First.{first-means}
use Rattle.ynl_cluster.proofs.requests.Members.{Among, among-contained, among-either, among-filter, among-map, contained-among, each-among, filter-among, map-among}
use Rattle.ynl_cluster.proofs.requests.Wanted.{asked-means, wanted-means}
use Rattle.ynl_cluster.specs.Cluster.{ClusterView, IsCell, label_of, maxima_in, path_of, state_in, stops_in}
use Rattle.ynl_search.specs.notes.Lanes.{IsLaneOf}
use Rattle.ynl_search.specs.notes.Shut.{AreAtLeast}
use Rattle.ynl_search.proofs.notes.Found.{among-found, found-among}
use Rattle.ynl_search.proofs.notes.Listed.{listed}
use Rattle.ynl_search.proofs.SeatGiven.{ask-waits, its, master-waits, waits-are}

-- in a list under a condition
conditional : {X : Type 0} (x : X) (b : Bool) (xs : List X) → Among x (cond b xs []) → (b ≡ true) × Among x xs
conditional x true xs there = (refl, there)
conditional x false xs there = absurd there

-- what waits of a kind at each seat is at least so much
abbrev pub AreAbove : Kind → List (ℕ × Seat) → Resource → Type 0
AreAbove k seats low = (ticket : ℕ) (seat : Seat) → lookup (nat_eq ticket) seats ≡ Some seat → IsWaiting (of_kind k seat.waits) → IsAtMost low (of_kind k seat.waits)

-- and what it is at least does not fit in a room
pub record AreTooLarge (k : Kind) (seats : List (ℕ × Seat)) (room : Resource) : Type 0 where
  pub low : Resource
  pub above : AreAbove k seats low
  pub misfit : fits_in low room ≡ false

module _ (v : Rows) (p q : ℕ) (seats : List (ℕ × Seat)) (is : IsLaneOf v p q seats) (room : Resource) where
  abbrev fits : Item → Bool
  fits item = fits_in item.size room

  module _ (n : ℕ) (row : AppRow) (found : lookup (nat_eq n) v.apps ≡ Some row) (own : row.leaf ≡ q) (share : shares p row ≡ true) where
    abbrev seat : ℕ × Seat
    seat = seat_of (figures_of v) p q (n, row)

    sitting : sits p q row ≡ true
    sitting = and_from (nat_eq row.leaf q) (shares p row) (grind (arith, nat_tests, own)) share

    seat-there : lookup (nat_eq seat.0) seats ≡ Some seat.1
    seat-there =
        found-among seat seats is.distinct
        (subst (Among seat) (sym is.seats_are) (map-among (seat_of (figures_of v) p q) (n, row) (filter (λ (e : ℕ × AppRow). sits p q e.1) v.apps) (filter-among (λ (e : ℕ × AppRow). sits p q e.1) (n, row) v.apps sitting (among-found n row v.apps found))))

    too-large : (k : Kind) → AreTooLarge k seats room → (size : Resource) → is_waiting k seat.1 ≡ true → (IsWaiting (of_kind k seat.1.waits) → IsAtMost (of_kind k seat.1.waits) size)
        → fits_in size room ≡ true → ⊥
    too-large k large size waits below fits =
        let waiting : IsWaiting (of_kind k seat.1.waits) = λ all. true≢false (sym waits ∙ ap not all) in
        let low : fits_in large.low (of_kind k seat.1.waits) ≡ true = large.above seat.0 seat.1 seat-there waiting in
        true≢false (sym (fits-trans large.low (of_kind k seat.1.waits) room low (fits-trans (of_kind k seat.1.waits) size room (below waiting) fits)) ∙ large.misfit)

  -- an ask of one that runs
  no-ask : AreTooLarge kind.Ask seats room → (n : ℕ) (row : AppRow) → lookup (nat_eq n) v.apps ≡ Some row → row.leaf ≡ q
      → (r : Request) → Among r (asked v p n row) → fits_in r.size room ≡ true → ⊥
  no-ask large n row found own r there fit =
      let here = conditional r (runs_at v n row) (map ask_request (filter (λ ask. nat_eq ask.partition p) row.asks)) there in
      let from = among-map ask_request r (filter (λ ask. nat_eq ask.partition p) row.asks) here.1 in
      let for_p = among-filter (λ ask. nat_eq ask.partition p) from.0 row.asks from.1 in
      let ask = from.0 in
      let on : ask.partition ≡ p = let e = for_p.1 in grind (arith, nat_tests, e) in
      let sized = each-among (λ ask. IsSize ask.size) ask row.asks (is.sized n row found).asks for_p.0 in
      let share = each-among (λ ask. ask.partition ≡ p → shares p row ≡ true) ask row.asks (is.sharing n row found) for_p.0 on in
      too-large n row found own share kind.Ask large ask.size
      (each-among (λ a. a.partition ≡ p → IsSize a.size → is_waiting kind.Ask (its v p q n row found).1 ≡ true) ask row.asks
      (are-met.ask v n row p here.0 (its v p q n row found).1 (waits-are v p q n row found)) for_p.0 on sized)
      (λ waiting. ask-waits v p q n row found waiting ask for_p.0 on) (ap (λ (x : Request). fits_in x.size room) from.2 ∙ fit)

  -- a master that waits
  no-master : AreTooLarge kind.Master seats room → (n : ℕ) (row : AppRow) → lookup (nat_eq n) v.apps ≡ Some row → row.leaf ≡ q
      → (r : Request) → Among r (master_wanted v p n row) → fits_in r.size room ≡ true → ⊥
  no-master large n row found own r there fit =
      let here = conditional r (not (runs_at v n row) && nat_eq row.home p) (master_request row ∷ []) there in
      let both = and_parts (not (runs_at v n row)) (nat_eq row.home p) here.0 in
      let home : p ≡ row.home = let e = both.1 in grind (arith, nat_tests, e) in
      let share : shares p row ≡ true = or_right (nat_eq p 0) (nat_eq row.home p) both.1 in
      too-large n row found own share kind.Master large row.master
      (are-met.master v n row (stands (runs_at v n row) both.0) (its v p q n row found).1 (waits-are v p q n row found ∙ ap (λ home. waits_at v home n row) home) (is.sized n row found).master)
      (λ waiting. ap (λ low. fits_in low row.master) (master-waits v p q n row found waiting) ∙ fits-refl row.master) (same here.1)
    where
      stands : (b : Bool) → not b ≡ true → b ≡ false
      stands true h = absurd (true≢false (sym h))
      stands false h = refl

      same : Among r (master_request row ∷ []) → fits_in row.master room ≡ true
      same (inl is) = ap (λ (x : Request). fits_in x.size room) is ∙ fit
      same (inr none) = absurd none

  pub none-fits : AreTooLarge kind.Ask seats room → AreTooLarge kind.Master seats room → IsFirstPassing v (wanted v p) (λ item. fits_in item.size room) q None
  none-fits asks masters other pass =
      go (among-either other.request (master_wanted v p other.number other.row) (asked v p other.number other.row) (among-contained other.request (wanted v p other.number other.row) pass.there))
    where
      go : Among other.request (master_wanted v p other.number other.row) ⊎ Among other.request (asked v p other.number other.row) → ⊥
      go (inl there) = no-master masters other.number other.row pass.found pass.own other.request there pass.passes
      go (inr there) = no-ask asks other.number other.row pass.found pass.own other.request there pass.passes

  pub no-guest-fits : AreTooLarge kind.Ask seats room → IsFirstPassing v (asked v p) (λ item. fits_in item.size room) q None
  no-guest-fits asks other pass = no-ask asks other.number other.row pass.found pass.own other.request (among-contained other.request (asked v p other.number other.row) pass.there) pass.passes

-- so it is of the model's requests below the leaf
pub least-none : (w : ClusterView) → IsSound w.rows → (p q : ℕ) → IsCell w p q → IsLeaf w.rows q → (seats : List (ℕ × Seat)) → IsLaneOf w.rows p q seats → (room : Resource)
    → AreTooLarge kind.Ask seats room → AreTooLarge kind.Master seats room
    → (item : Item) → IsBelow (items_for (state_in w) (label_of w p)) (path_of w q) item → fits_in item.size room ≡ false
least-none w sound p q cell leaf seats lane room asks masters item h =
    let test : Item → Bool = λ item. fits_in item.size room in
    let items = items_for (state_in w) (label_of w p) in
    let means = wanted-means w.rows sound (stops_in w) (maxima_in w) p cell.partition in
    not-true (fits_in item.size room)
    (λ fits.
    first-means w.rows sound (stops_in w) (maxima_in w) q leaf (listed w.rows sound (stops_in w) (maxima_in w) q leaf) (wanted w.rows p) items (λ item. (means item).0) (λ item. (means item).1)
    (λ item. fits_in item.size room) None (none-fits w.rows p q seats lane room asks masters) w.config (label_of w p) item
    (record { among = contained-among item (filter (λ item. fits_in item.size room) items) (filter-among (λ item. fits_in item.size room) item items fits (among-contained item items h.among)); within = h.within }))

-- and of its asks for DEFAULT
pub least-guestless : (w : ClusterView) → IsSound w.rows → (q : ℕ) → IsLeaf w.rows q → (seats : List (ℕ × Seat)) → IsLaneOf w.rows 0 q seats → (room : Resource)
    → AreTooLarge kind.Ask seats room → (item : Item) → IsBelow (asks_for (state_in w) Unlabelled) (path_of w q) item → fits_in item.size room ≡ false
least-guestless w sound q leaf seats lane room asks item h =
    let means = asked-means w.rows sound (stops_in w) (maxima_in w) 0 sound.some in
    let there : Contains (asks_for (state_in w) (label_of w 0)) item = subst (λ (label : Label). Contains (asks_for (state_in w) label) item) (sym sound.default) h.among in
    not-true (fits_in item.size room)
    (λ fits.
    first-means w.rows sound (stops_in w) (maxima_in w) q leaf (listed w.rows sound (stops_in w) (maxima_in w) q leaf) (asked w.rows 0) (asks_for (state_in w) (label_of w 0)) (λ item. (means item).0) (λ item. (means item).1)
    (λ item. fits_in item.size room) None (no-guest-fits w.rows 0 q seats lane room asks) w.config (label_of w 0) item
    (record {
      among =
          contained-among item (filter (λ item. fits_in item.size room) (asks_for (state_in w) (label_of w 0)))
          (filter-among (λ item. fits_in item.size room) item (asks_for (state_in w) (label_of w 0)) fits (among-contained item (asks_for (state_in w) (label_of w 0)) there));
      within = h.within;
    }))

-- ---- so each is for so much at least

-- what does not fit in more does not fit in less
misfit-more : (low more room : Resource) → fits_in low more ≡ true → fits_in low room ≡ false → fits_in more room ≡ false
misfit-more low more room less misfit = not-true (fits_in more room) (λ fits. true≢false (sym (fits-trans low more room less fits) ∙ misfit))

module _ (w : ClusterView) (sound : IsSound w.rows) (q : ℕ) (leaf : IsLeaf w.rows q) where
  -- of all requests, by the least of the masters and of the asks
  pub least-is : (p : ℕ) → IsCell w p q → (seats : List (ℕ × Seat)) → IsLaneOf w.rows p q seats → (masters asks low : Resource) → AreAbove kind.Master seats masters → AreAbove kind.Ask seats asks
      → fits_in low masters ≡ true → fits_in low asks ≡ true → AreAtLeast (items_for (state_in w) (label_of w p)) (path_of w q) low
  least-is p cell seats lane masters asks low above-masters above-asks less-masters less-asks item below = go (fits_in low item.size) refl
    where
      go : (b : Bool) → fits_in low item.size ≡ b → b ≡ true
      go true e = refl
      go false e =
          absurd
          (true≢false
          (sym (fits-refl item.size)
          ∙ least-none w sound p q cell leaf seats lane item.size (record { low = asks; above = above-asks; misfit = misfit-more low asks item.size less-asks e })
          (record { low = masters; above = above-masters; misfit = misfit-more low masters item.size less-masters e }) item below))

  -- of the asks for DEFAULT
  pub least-asked-is : (seats : List (ℕ × Seat)) → IsLaneOf w.rows 0 q seats → (asks : Resource) → AreAbove kind.Ask seats asks → AreAtLeast (asks_for (state_in w) Unlabelled) (path_of w q) asks
  least-asked-is seats lane asks above item below = go (fits_in asks item.size) refl
    where
      go : (b : Bool) → fits_in asks item.size ≡ b → b ≡ true
      go true e = refl
      go false e = absurd (true≢false (sym (fits-refl item.size) ∙ least-guestless w sound q leaf seats lane item.size (record { low = asks; above = above; misfit = e }) item below))
