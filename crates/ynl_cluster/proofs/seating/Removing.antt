-- An application without containers is live no more, and its seats go.
use Rattle.std.proofs.Common.{◌≡◌, ◌≢◌, ℕ, Bool, true, false, cond, not, ◌&&◌, ◌||◌, List, [], slice_get, Option, Some, None, nat_eq, refl, sym, ap, subst, ◌∙◌, inl, inr, true≢false}
use Rattle.std.specs.Prelude.{IfSome, unwrap_or}
use Rattle.std.specs.List.{AllByRecursion}
use Rattle.std.specs.Map.{lookup}
use Rattle.std.specs.Option.{option_map_or}
use Rattle.std.proofs.lemmas.Bool.{and_from, cases_eq, eqb-true}
use Rattle.std.proofs.lemmas.Option.{none-some}
use Rattle.ynl_resource.specs.Amounts.{total_of}
use Rattle.ynl_laws.proofs.Lists.{Each-with, filter-agree}
use Rattle.ynl_slots.specs.Slots.{HasDistinctNumbers, without}
use Rattle.ynl_slots.proofs.Entries.{distinct_without, itself, lookup-without-other}
use Rattle.ynl_slots.proofs.Lookups.{lookup-without}
use Rattle.ynl_tables.specs.declared.containers.container.Container.{Container}
use Rattle.ynl_lanes.specs.lane.Seats.{Seats, nothing_waits}
use Rattle.ynl_lanes.specs.table.Lanes.{Changes, Removes, lane_at}
use Rattle.ynl_inventory.specs.Rows.{Rows, PartitionRow, AppRow}
use Rattle.ynl_inventory.specs.Changes.{with_app_gone}
use Rattle.ynl_inventory.specs.Parts.{containers_of}
use Rattle.ynl_inventory.specs.Apps.{is_guest_role}
use Rattle.ynl_inventory.specs.Sound.{OwnsNoContainers}
use Rattle.ynl_cluster.specs.seating.Seating.{AreLanes, AreSeated, Figures, HasSeats, IsSeated, counts, figures_of, is_of, is_shared, seats_of, shares, sits, ticket_on, user_use, waits_at, waits_of}
use Rattle.ynl_cluster.proofs.seating.Entered.{default-shared, home-shared}
use Rattle.ynl_cluster.proofs.seating.OneSeat.{leaf-there, partition-there}
use Rattle.ynl_cluster.proofs.seating.Lanes.{lifted, other-ready, seated-as}
use Rattle.ynl_cluster.proofs.seating.SeatLists.{other-leaf, other-partition, seats-left, seats-stay, seats-without}
use Rattle.ynl_cluster.proofs.seating.Sums.{size_of}

module _ (app : ℕ) (v : Rows) (row : AppRow) (found : lookup (nat_eq app) v.apps ≡ Some row) (none : OwnsNoContainers v app) (lanes : List (List Seats)) (seated : AreSeated v lanes) where
  abbrev after : Rows
  after = with_app_gone app row.tenant row.turn v

  abbrev f : Figures
  f = figures_of v

  -- ---- nothing of the others changes

  none-own : (p : ℕ) → AllByRecursion (λ e. e.1.app ≢ app) (containers_of v p)
  none-own p = go (slice_get v.partitions p) refl
    where
      go : (o : Option PartitionRow) → slice_get v.partitions p ≡ o → AllByRecursion (λ e. e.1.app ≢ app) (option_map_or (λ row. row.containers) o [])
      go None is = tt
      go (Some part) is = none p part is

  found-same : (n : ℕ) → n ≢ app → lookup (nat_eq n) after.apps ≡ lookup (nat_eq n) v.apps
  found-same n apart = lookup-without-other n app v.apps apart

  not-gone : (n : ℕ) (r : AppRow) → lookup (nat_eq n) after.apps ≡ Some r → n ≢ app
  not-gone n r at same =
      none-some r (sym (ap (λ k. lookup (nat_eq k) after.apps) same ∙ lookup-without app app v.apps ∙ ap (λ b. cond b None (lookup (nat_eq app) v.apps)) (itself app)) ∙ at)

  use-same : (p q user : ℕ) → user_use after p q user ≡ user_use v p q user
  use-same p q user =
      ap (total_of size_of)
      (filter-agree (λ e. e.1.app ≢ app) (counts after p q user) (counts v p q user)
      (λ e apart. ap (λ o. not (is_guest_role p e.1.role) && option_map_or (is_of q user) o false) (found-same e.1.app apart)) (containers_of v p) (none-own p))

  waits-same : (p n : ℕ) → n ≢ app → waits_of after p n ≡ waits_of v p n
  waits-same p n apart = ap (λ o. option_map_or (waits_at v p n) o nothing_waits) (found-same n apart)

  shared-still : (p : ℕ) → AllByRecursion (λ e. is_shared after.apps p e ≡ true) (containers_of after p)
  shared-still p =
      Each-with (λ (e : ℕ × Container). e.1.app ≢ app) (λ e. is_shared v.apps p e ≡ true) (λ e. is_shared after.apps p e ≡ true)
      (λ e apart is. ap (λ o. is_guest_role p e.1.role || option_map_or (shares p) o false) (found-same e.1.app apart) ∙ is) (containers_of v p) (none-own p) (seated.shared p)

  -- the figures stay for those who still sit
  same-figures : (p q : ℕ) → seats_of (figures_of after) p q after.apps ≡ seats_of f p q after.apps
  same-figures p q =
      seats-stay p q f (figures_of after) after.apps (distinct_without app v.apps seated.numbers)
      (λ n r at sat. (use-same p q r.user, waits-same p n (not-gone n r at)))

  -- ---- the seats go

  abbrev lane : (p : ℕ) → shares p row ≡ true → IsSeated f v.apps p row.leaf lanes
  lane p sat = seated.seats p row.leaf (partition-there f v lanes seated app row found p sat) (leaf-there f v lanes seated app row found p sat)

  module _ (p : ℕ) (sat : shares p row ≡ true) (old next : Seats) (is : old.seats ≡ seats_of f p row.leaf v.apps) (removes : Removes (unwrap_or (ticket_on p row) 0) old next) where
    own-seats : next.seats ≡ seats_of f p row.leaf after.apps
    own-seats =
        removes.0 ∙ ap (without (unwrap_or (ticket_on p row) 0)) is
        ∙ sym (seats-without p row.leaf f v.apps seated.numbers (lane p sat).distinct app row found (and_from _ _ (itself row.leaf) sat))

    own-distinct : HasDistinctNumbers (seats_of f p row.leaf after.apps)
    own-distinct =
        subst HasDistinctNumbers (sym (seats-without p row.leaf f v.apps seated.numbers (lane p sat).distinct app row found (and_from _ _ (itself row.leaf) sat)))
        (distinct_without (unwrap_or (ticket_on p row) 0) (seats_of f p row.leaf v.apps) (lane p sat).distinct)

  left : (p q : ℕ) → sits p q row ≡ false → seats_of f p q after.apps ≡ seats_of f p q v.apps
  left p q off = seats-left p q f v.apps seated.numbers app row found off

  -- once the seat at home is gone
  abbrev half : ℕ → List (ℕ × AppRow)
  half p = cond (nat_eq p row.home) after.apps v.apps

  module _ (mid : List (List Seats)) (first : Changes row.home row.leaf (Removes (unwrap_or (ticket_on row.home row) 0)) lanes mid) where
    half-home : half row.home ≡ after.apps
    half-home = ap (λ b. cond b after.apps v.apps) (itself row.home)

    pub lanes-half : AreLanes f half v mid
    lanes-half =
        lifted f f (λ p. v.apps) half v row.home row.leaf (Removes (unwrap_or (ticket_on row.home row) 0)) lanes mid first
        (partition-there f v lanes seated app row found row.home (home-shared row)) (leaf-there f v lanes seated app row found row.home (home-shared row)) seated.seats
        (own-seats row.home (home-shared row) (lane_at row.home row.leaf lanes) first.next (lane row.home (home-shared row)).seats first.changes
        ∙ sym (ap (seats_of f row.home row.leaf) half-home))
        (subst (λ es. HasDistinctNumbers (seats_of f row.home row.leaf es)) (sym half-home)
        (own-distinct row.home (home-shared row) (lane_at row.home row.leaf lanes) first.next (lane row.home (home-shared row)).seats first.changes))
        (λ p q apart has number. others p q apart (nat_eq p row.home) refl)
      where
        others : (p q : ℕ) → (p ≡ row.home → q ≢ row.leaf) → (b : Bool) → nat_eq p row.home ≡ b → seats_of f p q (cond b after.apps v.apps) ≡ seats_of f p q v.apps
        others p q apart true same = left p q (other-leaf p q row (apart (eqb-true p row.home same)))
        others p q apart false far = refl

    emptied : (p q : ℕ) → (p ≢ row.home → sits p q row ≡ false) → (b : Bool) → nat_eq p row.home ≡ b → seats_of f p q after.apps ≡ seats_of f p q (cond b after.apps v.apps)
    emptied p q off true same = refl
    emptied p q off false far = left p q (off (λ same. true≢false (sym (ap (λ k. nat_eq k row.home) same ∙ itself row.home) ∙ far)))

    lanes-once : row.home ≡ 0 → AreLanes f (λ p. after.apps) v mid
    lanes-once zero p q has number = seated-as f f (half p) after.apps p q mid same (lanes-half p q has number)
      where
        same : seats_of f p q after.apps ≡ seats_of f p q (half p)
        same = emptied p q (λ apart. other-partition p q row (λ is. apart (is ∙ sym zero)) apart) (nat_eq p row.home) refl

    -- the lane of DEFAULT is as it was, where home is another
    pub still-default : row.home ≢ 0 → lane_at 0 row.leaf mid ≡ lane_at 0 row.leaf lanes
    still-default apart =
        other-ready f f (λ p. v.apps) half v row.home row.leaf (Removes (unwrap_or (ticket_on row.home row) 0)) lanes mid first
        (partition-there f v lanes seated app row found row.home (home-shared row)) (leaf-there f v lanes seated app row found row.home (home-shared row)) seated.seats
        0 row.leaf (λ is. absurd (apart (sym is)))

    lanes-twice : row.home ≢ 0 → (new : List (List Seats)) → Changes 0 row.leaf (Removes (unwrap_or (ticket_on 0 row) 0)) mid new → AreLanes f (λ p. after.apps) v new
    lanes-twice apart new second =
        lifted f f half (λ p. after.apps) v 0 row.leaf (Removes (unwrap_or (ticket_on 0 row) 0)) mid new second seated.default
        (leaf-there f v lanes seated app row found row.home (home-shared row)) lanes-half
        (own-seats 0 (default-shared row) (lane_at 0 row.leaf mid) second.next seats second.changes)
        (own-distinct 0 (default-shared row) (lane_at 0 row.leaf mid) second.next seats second.changes)
        (λ p q far has number. emptied p q (off p q far) (nat_eq p row.home) refl)
      where
        seats : (lane_at 0 row.leaf mid).seats ≡ seats_of f 0 row.leaf v.apps
        seats = ap (λ (l : Seats). l.seats) (still-default apart) ∙ (lane 0 (default-shared row)).seats

        off : (p q : ℕ) → (p ≡ 0 → q ≢ row.leaf) → p ≢ row.home → sits p q row ≡ false
        off p q far away =
            elim (cases_eq p 0) [
              | inl is ↦ other-leaf p q row (far is)
              | inr past ↦ other-partition p q row past away
            ]

  -- the lanes are then those of the rows
  gone : (new : List (List Seats)) → AreLanes f (λ p. after.apps) v new → AreSeated after new
  gone new seats = record {
    numbers = distinct_without app v.apps seated.numbers;
    default = seated.default;
    shared = shared-still;
    apps = λ n r at. was (seated.apps n r (sym (found-same n (not-gone n r at)) ∙ at));
    seats = λ p q has number. seated-as f (figures_of after) after.apps after.apps p q new (same-figures p q) (seats p q has number);
  }
    where
      was : {r : AppRow} → HasSeats v r → HasSeats after r
      was is = record { home = is.home; leaf = is.leaf; tickets = is.tickets }

  abbrev Gone : List (List Seats) → Type 0
  Gone new = IfSome (lookup (nat_eq app) v.apps) (λ r. AreSeated (with_app_gone app r.tenant r.turn v) new)

  pub gone-once : (mid : List (List Seats)) → Changes row.home row.leaf (Removes (unwrap_or (ticket_on row.home row) 0)) lanes mid → row.home ≡ 0 → Gone mid
  gone-once mid first zero = subst (λ o. IfSome o (λ (r : AppRow). AreSeated (with_app_gone app r.tenant r.turn v) mid)) (sym found) (gone mid (lanes-once mid first zero))

  pub gone-twice : (mid : List (List Seats)) → Changes row.home row.leaf (Removes (unwrap_or (ticket_on row.home row) 0)) lanes mid → row.home ≢ 0
      → (new : List (List Seats)) → Changes 0 row.leaf (Removes (unwrap_or (ticket_on 0 row) 0)) mid new → Gone new
  gone-twice mid first apart new second =
      subst (λ o. IfSome o (λ (r : AppRow). AreSeated (with_app_gone app r.tenant r.turn v) new)) (sym found) (gone new (lanes-twice mid first apart new second))
