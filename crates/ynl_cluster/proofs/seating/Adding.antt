-- A new application gets its seats.
use Rattle.std.proofs.Common.{◌≡◌, ◌≢◌, ◌<◌, ℕ, Bool, true, false, cond, List, [], ◌∷◌, ◌++◌, length, Some, nat_eq, refl, sym, ap, subst, ◌∙◌, inl, inr, true≢false}
use mathlib.Core.Logic.{◌⊎◌}
use Rattle.std.specs.Prelude.{IfSome, IsSome, unwrap_or}
use Rattle.std.specs.Map.{lookup}
use Rattle.std.proofs.lemmas.Bool.{and_from, cases_eq, eqb-true}
use Rattle.std.proofs.lemmas.Option.{same_Some}
use Rattle.ynl_slots.specs.Slots.{HasDistinctNumbers}
use Rattle.ynl_slots.proofs.Entries.{distinct_push, itself, other}
use Rattle.ynl_tables.specs.declared.apps.app.Tickets.{Tickets}
use Rattle.ynl_inventory.specs.layout.Paths.{HasNumber}
use Rattle.ynl_lanes.specs.lane.Seats.{Adds, Seat, Seats, nothing_waits, used_at}
use Rattle.ynl_lanes.specs.table.Lanes.{AddsOne, Changes, lane_at}
use Rattle.ynl_inventory.specs.Rows.{Rows, AppRow}
use Rattle.ynl_inventory.specs.Sound.{HasPartition}
use Rattle.ynl_cluster.specs.seating.Seating.{AreLanes, Figures, HasSeats, IsSeated, figures_of, seat_of, seats_of, shares, sits, sitting, ticket_on, waits_of}
use Rattle.ynl_cluster.specs.seating.Steps.{AreSeatedBut, IsUnseated}
use Rattle.ynl_cluster.proofs.seating.Entered.{default-shared, home-shared}
use Rattle.ynl_cluster.proofs.seating.Lanes.{lifted, other-ready, seated-as}
use Rattle.ynl_cluster.proofs.seating.Newcomer.{added, added-others, apps-are, newcomer, none-used, old-found, old-seats, own-found, seats-same, shared-still, u, use-same}
use Rattle.ynl_cluster.proofs.seating.SeatLists.{other-leaf, other-partition, seats-pushed, used-first}

module _ (app : ℕ) (w : Rows) (lanes : List (List Seats)) (start : IsUnseated app w lanes) (t : Tickets) where
  abbrev v : Rows
  v = start.before

  abbrev row : AppRow
  row = newcomer app w lanes start t

  abbrev after : Rows
  after = u app w lanes start t

  abbrev F : Figures
  F = added app w lanes start t

  -- ---- one seat

  module _ (p : ℕ) (sat : shares p row ≡ true) (ticket : ℕ) (is : ticket_on p row ≡ Some ticket) (old next : Seats)
      (lane : old.seats ≡ seats_of (figures_of v) p row.leaf v.apps) (distinct : HasDistinctNumbers (seats_of (figures_of v) p row.leaf v.apps))
      (ready : old.ready ≡ Some row.user) (adds : AddsOne app ticket old next) where
    seat-added : Adds app ticket row.user old.seats next.seats
    seat-added = subst (λ o. IfSome o (λ user. Adds app ticket user old.seats next.seats)) ready adds.0

    abbrev fresh : Seat
    fresh = record { app = app; user = row.user; used = used_at row.user old.seats; waits = nothing_waits }

    used-is : used_at row.user old.seats ≡ F.used p row.leaf row.user
    used-is =
        ap (used_at row.user) lane
        ∙ used-first p row.leaf (figures_of v) row.user (sitting p row.leaf v.apps) (none-used app w lanes start t p row.leaf row.user)
        ∙ sym (use-same app w lanes start t p row.leaf row.user)

    own-seats : next.seats ≡ seats_of F p row.leaf after.apps
    own-seats =
        seat-added.seats ∙ (λ i. (lane ∙ sym (old-seats app w lanes start t p row.leaf)) i ++ seat i ∷ [])
        ∙ sym (ap (seats_of F p row.leaf) (apps-are app w lanes start t) ∙ seats-pushed p row.leaf F v.apps app row (and_from _ _ (itself row.leaf) sat))
      where
        seat : ◌≡◌ {A = ℕ × Seat} (ticket, fresh) (seat_of F p row.leaf (app, row))
        seat = λ i. (
          sym (ap (λ o. unwrap_or o 0) is) i,
          record { app = app; user = row.user; used = used-is i; waits = sym (ap (λ b. cond b nothing_waits (waits_of after p app)) (itself app)) i },
        )

    own-distinct : HasDistinctNumbers (seats_of F p row.leaf after.apps)
    own-distinct =
        subst HasDistinctNumbers own-seats
        (subst HasDistinctNumbers (sym seat-added.seats)
        (distinct_push ticket fresh old.seats seat-added.unused
        (subst HasDistinctNumbers (sym lane) distinct)))

  -- ---- both

  pub lanes-before : AreLanes (figures_of v) (λ p. v.apps) after lanes
  lanes-before p q has number = start.seated.seats p q (subst (λ ps. p < length ps) start.partitions has) (subst (λ ps. HasNumber ps q) start.paths number)

  pub default-there : HasPartition after 0
  default-there = subst (λ ps. 0 < length ps) (sym start.partitions) start.seated.default

  -- once the seat at home is added
  abbrev half : ℕ → List (ℕ × AppRow)
  half p = cond (nat_eq p row.home) after.apps v.apps

  module _ (ticket : ℕ) (is : t.home ≡ Some ticket) (mid : List (List Seats)) (first : Changes row.home row.leaf (AddsOne app ticket) lanes mid) where
    home-ticket : ticket_on row.home row ≡ Some ticket
    home-ticket = ap (λ b. cond b t.home t.default) (itself row.home) ∙ is

    half-home : half row.home ≡ after.apps
    half-home = ap (λ b. cond b after.apps v.apps) (itself row.home)

    pub lanes-half : AreLanes F half after mid
    lanes-half =
        lifted (figures_of v) F (λ p. v.apps) half after row.home row.leaf (AddsOne app ticket) lanes mid first start.home start.leaf lanes-before
        (own-seats row.home (home-shared row) ticket home-ticket (lane_at row.home row.leaf lanes) first.next at.seats at.distinct (start.room row.home (home-shared row)) first.changes
        ∙ sym (ap (seats_of F row.home row.leaf) half-home))
        (subst (λ es. HasDistinctNumbers (seats_of F row.home row.leaf es)) (sym half-home)
        (own-distinct row.home (home-shared row) ticket home-ticket (lane_at row.home row.leaf lanes) first.next at.seats at.distinct (start.room row.home (home-shared row)) first.changes))
        (λ p q apart has number. others p q apart (nat_eq p row.home) refl)
      where
        at : IsSeated (figures_of v) v.apps row.home row.leaf lanes
        at = lanes-before row.home row.leaf start.home start.leaf

        others : (p q : ℕ) → (p ≡ row.home → q ≢ row.leaf) → (b : Bool) → nat_eq p row.home ≡ b → seats_of F p q (cond b after.apps v.apps) ≡ seats_of (figures_of v) p q v.apps
        others p q apart true same =
            seats-same app w lanes start t p q (other-leaf p q row (apart (eqb-true p row.home same))) ∙ old-seats app w lanes start t p q
        others p q apart false far = old-seats app w lanes start t p q

    -- where the new application has all seats that it should
    filled : (p q : ℕ) → (p ≢ row.home → sits p q row ≡ false) → (b : Bool) → nat_eq p row.home ≡ b → seats_of F p q after.apps ≡ seats_of F p q (cond b after.apps v.apps)
    filled p q off true same = refl
    filled p q off false far = seats-same app w lanes start t p q (off (λ same. true≢false (sym (ap (λ k. nat_eq k row.home) same ∙ itself row.home) ∙ far)))

    -- that is all where home is DEFAULT
    pub lanes-once : row.home ≡ 0 → AreLanes F (λ p. after.apps) after mid
    lanes-once zero p q has number = seated-as F F (half p) after.apps p q mid same (lanes-half p q has number)
      where
        same : seats_of F p q after.apps ≡ seats_of F p q (half p)
        same = filled p q (λ apart. other-partition p q row (λ is. apart (is ∙ sym zero)) apart) (nat_eq p row.home) refl

    -- the lane of DEFAULT is as it was, where home is another
    pub still-default : row.home ≢ 0 → lane_at 0 row.leaf mid ≡ lane_at 0 row.leaf lanes
    still-default apart =
        other-ready (figures_of v) F (λ p. v.apps) half after row.home row.leaf (AddsOne app ticket) lanes mid first start.home start.leaf lanes-before 0 row.leaf (λ is. absurd (apart (sym is)))

    -- and else the seat on DEFAULT is added too
    pub lanes-twice : row.home ≢ 0 → (second : ℕ) → t.default ≡ Some second → (new : List (List Seats)) → Changes 0 row.leaf (AddsOne app second) mid new → AreLanes F (λ p. after.apps) after new
    lanes-twice apart second is-second new changes =
        lifted F F half (λ p. after.apps) after 0 row.leaf (AddsOne app second) mid new changes default-there start.leaf lanes-half
        (own-seats 0 (default-shared row) second default-ticket (lane_at 0 row.leaf mid) changes.next seats at.distinct ready changes.changes)
        (own-distinct 0 (default-shared row) second default-ticket (lane_at 0 row.leaf mid) changes.next seats at.distinct ready changes.changes)
        (λ p q far has number. filled p q (off p q far) (nat_eq p row.home) refl)
      where
        default-ticket : ticket_on 0 row ≡ Some second
        default-ticket = ap (λ b. cond b t.home t.default) (other row.home 0 apart) ∙ is-second

        at : IsSeated (figures_of v) v.apps 0 row.leaf lanes
        at = lanes-before 0 row.leaf default-there start.leaf

        seats : (lane_at 0 row.leaf mid).seats ≡ seats_of (figures_of v) 0 row.leaf v.apps
        seats = ap (λ (l : Seats). l.seats) (still-default apart) ∙ at.seats

        ready : (lane_at 0 row.leaf mid).ready ≡ Some row.user
        ready = ap (λ (l : Seats). l.ready) (still-default apart) ∙ start.room 0 (default-shared row)

        off : (p q : ℕ) → (p ≡ 0 → q ≢ row.leaf) → p ≢ row.home → sits p q row ≡ false
        off p q far away =
            elim (cases_eq p 0) [
              | inl is ↦ other-leaf p q row (far is)
              | inr other ↦ other-partition p q row other away
            ]

  -- the lanes are those of the rows, but for what waits of the new application
  pub seated-but : (new : List (List Seats)) → AreLanes F (λ p. after.apps) after new → ((p : ℕ) → shares p row ≡ true → IsSome (ticket_on p row)) → AreSeatedBut app after new
  seated-but new seats tickets = record {
    waits = F.waits;
    others = added-others app w lanes start t;
    seated = record {
      numbers = subst HasDistinctNumbers (sym (apps-are app w lanes start t)) (distinct_push app row v.apps start.unused start.seated.numbers);
      default = default-there;
      shared = shared-still app w lanes start t;
      apps = λ n r found. each n r found (cases_eq n app);
      seats = seats;
    };
  }
    where
      each : (n : ℕ) (r : AppRow) → lookup (nat_eq n) after.apps ≡ Some r → (n ≡ app) ⊎ (n ≢ app) → HasSeats after r
      each n r found (inl same) =
          let is : r ≡ row = same_Some r row (sym found ∙ ap (λ k. lookup (nat_eq k) after.apps) same ∙ own-found app w lanes start t) in
          subst (HasSeats after) (sym is) (record { home = start.home; leaf = start.leaf; tickets = tickets })
      each n r found (inr apart) =
          let was : HasSeats v r = start.seated.apps n r (sym (old-found app w lanes start t n apart) ∙ found) in
          record {
            home = subst (λ ps. r.home < length ps) (sym start.partitions) was.home;
            leaf = subst (λ ps. HasNumber ps r.leaf) (sym start.paths) was.leaf;
            tickets = was.tickets;
          }
