-- The seats of a lane, and what they show: as figures change, and as applications come and go.
use Rattle.std.proofs.Common.{◌≡◌, ◌≢◌, ℕ, Bool, true, false, cond, not, ◌&&◌, ◌||◌, List, [], ◌∷◌, ◌++◌, map, Some, nat_eq, refl, sym, ap, ◌∙◌, true≢false}
use Rattle.std.specs.Prelude.{unwrap_or}
use Rattle.std.specs.List.{AllByRecursion}
use Rattle.std.specs.Map.{lookup}
use Rattle.std.proofs.lemmas.Bool.{eqb-true}
use Rattle.std.proofs.lemmas.List.{map-append, append-nil}
use Rattle.std.proofs.lemmas.List.Elements.{filter-append}
use Rattle.std.proofs.lemmas.Option.{same_Some}
use Rattle.ynl_resource.specs.Amounts.{nothing}
use Rattle.ynl_resource.specs.declared.amounts.Resource.{Resource}
use Rattle.ynl_laws.proofs.Lists.{Each-weaker, filter-swap, map-map}
use Rattle.ynl_laws.proofs.Logic.{and-false}
use Rattle.ynl_slots.specs.Slots.{HasDistinctNumbers, without}
use Rattle.ynl_slots.proofs.Entries.{distinct_alike, itself, other, without-unused}
use Rattle.ynl_tables.specs.apps.Apps.{with_change}
use Rattle.ynl_lanes.specs.lane.Seats.{Seat, with_used, with_waits, used_at}
use Rattle.ynl_lanes.proofs.lane.Showing.{map_as, map_any}
use Rattle.ynl_inventory.specs.Rows.{AppRow}
use Rattle.ynl_inventory.proofs.Updates.{each-number}
use Rattle.ynl_inventory.proofs.Filters.{filter-distinct, filter-lookup}
use Rattle.ynl_cluster.specs.seating.Seating.{Figures, shares, sits, sitting, ticket_on, seat_of, seats_of}
use Rattle.ynl_cluster.proofs.seating.Tickets.{kept-found, found-mapped, tells, Tells, without-mapped}

-- a change of an application that leaves its seats
pub record KeepsSeats (change : AppRow → AppRow) : Type 0 where
  pub leaf : (row : AppRow) → (change row).leaf ≡ row.leaf
  pub user : (row : AppRow) → (change row).user ≡ row.user
  pub home : (row : AppRow) → (change row).home ≡ row.home
  pub tickets : (row : AppRow) → (change row).tickets ≡ row.tickets

-- ---- who sits

module _ (p q : ℕ) where
  abbrev test : ℕ × AppRow → Bool
  test e = sits p q e.1

  -- what holds of each application that shares holds of those that sit
  pub sitting-each : (P : ℕ → AppRow → Type 0) (apps : List (ℕ × AppRow)) → HasDistinctNumbers apps
      → ((n : ℕ) (row : AppRow) → lookup (nat_eq n) apps ≡ Some row → sits p q row ≡ true → P n row) → AllByRecursion (λ e. P e.0 e.1) (sitting p q apps)
  sitting-each P apps d h =
      each-number P (sitting p q apps) (filter-distinct test apps d) (λ n row found. let is = filter-lookup test n row apps d found in h n row is.0 is.1)

  pub sitting-found : (apps : List (ℕ × AppRow)) (n : ℕ) (row : AppRow) → lookup (nat_eq n) apps ≡ Some row → sits p q row ≡ true → lookup (nat_eq n) (sitting p q apps) ≡ Some row
  sitting-found apps n row found sat = kept-found test apps n row found sat

  -- ---- the figures change

  -- the tickets stay
  pub tickets-stay : (f g : Figures) (apps : List (ℕ × AppRow)) → map (λ e. e.0) (seats_of g p q apps) ≡ map (λ (e : ℕ × Seat). e.0) (seats_of f p q apps)
  tickets-stay f g apps = map-map (λ (e : ℕ × Seat). e.0) (seat_of g p q) (sitting p q apps) ∙ sym (map-map (λ (e : ℕ × Seat). e.0) (seat_of f p q) (sitting p q apps))

  pub tickets-apart : (f g : Figures) (apps : List (ℕ × AppRow)) → HasDistinctNumbers (seats_of f p q apps) → HasDistinctNumbers (seats_of g p q apps)
  tickets-apart f g apps d = distinct_alike (seats_of g p q apps) (seats_of f p q apps) (tickets-stay f g apps) d

  -- a seat shows what the figures have of its user and its application
  pub seat-shows : (f g : Figures) (n : ℕ) (row : AppRow) → g.used p q row.user ≡ f.used p q row.user → g.waits p n ≡ f.waits p n → seat_of g p q (n, row) ≡ seat_of f p q (n, row)
  seat-shows f g n row amounts waits = λ i. (unwrap_or (ticket_on p row) 0, record { app = n; user = row.user; used = amounts i; waits = waits i })

  -- seats stay where the figures of those who sit there do
  pub seats-stay : (f g : Figures) (apps : List (ℕ × AppRow)) → HasDistinctNumbers apps
      → ((n : ℕ) (row : AppRow) → lookup (nat_eq n) apps ≡ Some row → sits p q row ≡ true → (g.used p q row.user ≡ f.used p q row.user) × (g.waits p n ≡ f.waits p n))
      → seats_of g p q apps ≡ seats_of f p q apps
  seats-stay f g apps d same =
      map_as (seat_of g p q) (seat_of f p q) (sitting p q apps)
      (sitting-each (λ n row. seat_of g p q (n, row) ≡ seat_of f p q (n, row)) apps d (λ n row found sat. let is = same n row found sat in seat-shows f g n row is.0 is.1))

  -- a user uses another amount
  pub seats-used : (f g : Figures) (user : ℕ) (used : Resource) (apps : List (ℕ × AppRow)) → ((n : ℕ) → g.waits p n ≡ f.waits p n)
      → ((u : ℕ) → g.used p q u ≡ cond (nat_eq user u) used (f.used p q u)) → seats_of g p q apps ≡ with_used user used (seats_of f p q apps)
  seats-used f g user used apps waits amounts =
      map_any (seat_of g p q) (λ e. change (seat_of f p q e)) one (sitting p q apps) ∙ sym (map-map change (seat_of f p q) (sitting p q apps))
    where
      change : ℕ × Seat → ℕ × Seat
      change e = cond (nat_eq user e.1.user) (e.0, record e.1 { used = used }) e

      by : (b : Bool) (e : ℕ × AppRow) → ◌≡◌ {A = ℕ × Seat} (unwrap_or (ticket_on p e.1) 0, record { app = e.0; user = e.1.user; used = cond b used (f.used p q e.1.user); waits = f.waits p e.0 })
          (cond b ((seat_of f p q e).0, record (seat_of f p q e).1 { used = used }) (seat_of f p q e))
      by true e = refl
      by false e = refl

      one : (e : ℕ × AppRow) → seat_of g p q e ≡ cond (nat_eq user e.1.user) ((seat_of f p q e).0, record (seat_of f p q e).1 { used = used }) (seat_of f p q e)
      one e = (λ i. (unwrap_or (ticket_on p e.1) 0, record { app = e.0; user = e.1.user; used = amounts e.1.user i; waits = waits e.0 i })) ∙ by (nat_eq user e.1.user) e

  -- ---- one application that sits there

  module _ (f : Figures) (apps : List (ℕ × AppRow)) (d : HasDistinctNumbers apps) (t : HasDistinctNumbers (seats_of f p q apps))
      (n : ℕ) (row : AppRow) (found : lookup (nat_eq n) apps ≡ Some row) (sat : sits p q row ≡ true) where
    told : AllByRecursion (Tells (seat_of f p q) n row) (sitting p q apps)
    told = tells (seat_of f p q) n row (sitting p q apps) (filter-distinct test apps d) t (sitting-found apps n row found sat)

    -- its seat is found by its ticket
    pub seat-found : lookup (nat_eq (seat_of f p q (n, row)).0) (seats_of f p q apps) ≡ Some (seat_of f p q (n, row)).1
    seat-found = found-mapped (seat_of f p q) n row (sitting p q apps) t (sitting-found apps n row found sat)

    -- something else waits at its seat
    pub seats-entered : (g : Figures) → ((u : ℕ) → g.used p q u ≡ f.used p q u) → ((m : ℕ) → m ≢ n → g.waits p m ≡ f.waits p m)
        → seats_of g p q apps ≡ with_waits (seat_of f p q (n, row)).0 (g.waits p n) (seats_of f p q apps)
    seats-entered g amounts others =
        map_as (seat_of g p q) (λ e. change (seat_of f p q e)) (sitting p q apps) (Each-weaker (Tells (seat_of f p q) n row) (λ e. seat_of g p q e ≡ change (seat_of f p q e)) one (sitting p q apps) told)
        ∙ sym (map-map change (seat_of f p q) (sitting p q apps))
      where
        change : ℕ × Seat → ℕ × Seat
        change e = cond (nat_eq (seat_of f p q (n, row)).0 e.0) (e.0, record e.1 { waits = g.waits p n }) e

        put : ℕ × AppRow → Bool → ℕ × Seat
        put e b = cond b ((seat_of f p q e).0, record (seat_of f p q e).1 { waits = g.waits p n }) (seat_of f p q e)

        one : (e : ℕ × AppRow) → Tells (seat_of f p q) n row e → seat_of g p q e ≡ put e (nat_eq (seat_of f p q (n, row)).0 (seat_of f p q e).0)
        one e is = by (nat_eq n e.0) refl ∙ ap (put e) (sym is.0)
          where
            by : (b : Bool) → nat_eq n e.0 ≡ b → seat_of g p q e ≡ put e b
            by true is_n =
                λ i. (unwrap_or (ticket_on p e.1) 0, record { app = e.0; user = e.1.user; used = amounts e.1.user i; waits = g.waits p ((is.1 is_n i).0) })
            by false off = seat-shows f g e.0 e.1 (amounts e.1.user) (others e.0 (λ same. true≢false (sym (ap (nat_eq n) same ∙ itself n) ∙ off)))

    -- its seat goes
    pub seats-without : seats_of f p q (without n apps) ≡ without (seat_of f p q (n, row)).0 (seats_of f p q apps)
    seats-without =
        ap (map (seat_of f p q)) (filter-swap (λ (e : ℕ × AppRow). not (nat_eq n e.0)) test apps) ∙ without-mapped (seat_of f p q) n row (sitting p q apps) told

  -- ---- applications come and go

  -- none sits in a lane of another leaf
  pub other-leaf : (row : AppRow) → q ≢ row.leaf → sits p q row ≡ false
  other-leaf row apart = ap (λ b. b && shares p row) (other row.leaf q (λ same. apart (sym same)))

  -- nor on a partition that it does not share
  pub other-partition : (row : AppRow) → p ≢ 0 → p ≢ row.home → sits p q row ≡ false
  other-partition row far away =
      (λ i. nat_eq row.leaf q && (other p 0 far i || other row.home p (λ same. away (sym same)) i)) ∙ and-false (nat_eq row.leaf q)

  -- one that does not sit there goes
  pub seats-left : (f : Figures) (apps : List (ℕ × AppRow)) → HasDistinctNumbers apps → (n : ℕ) (row : AppRow) → lookup (nat_eq n) apps ≡ Some row → sits p q row ≡ false
      → seats_of f p q (without n apps) ≡ seats_of f p q apps
  seats-left f apps d n row found off =
      ap (map (seat_of f p q))
      (filter-swap (λ (e : ℕ × AppRow). not (nat_eq n e.0)) test apps ∙ without-unused n (sitting p q apps) (sitting-each (λ m r. m ≢ n) apps d other))
    where
      other : (m : ℕ) (r : AppRow) → lookup (nat_eq m) apps ≡ Some r → sits p q r ≡ true → m ≢ n
      other m r at sat same =
          let is : r ≡ row = same_Some r row (sym at ∙ ap (λ k. lookup (nat_eq k) apps) same ∙ found) in
          true≢false (sym sat ∙ ap (sits p q) is ∙ off)

  -- one comes last that sits there
  pub seats-pushed : (f : Figures) (apps : List (ℕ × AppRow)) (n : ℕ) (row : AppRow) → sits p q row ≡ true → seats_of f p q (apps ++ (n, row) ∷ []) ≡ seats_of f p q apps ++ seat_of f p q (n, row) ∷ []
  seats-pushed f apps n row sat =
      ap (map (seat_of f p q)) (filter-append test apps ((n, row) ∷ []) ∙ ap (λ b. sitting p q apps ++ cond b ((n, row) ∷ []) []) sat)
      ∙ map-append (seat_of f p q) (sitting p q apps) ((n, row) ∷ [])

  -- one that does not
  pub seats-passed : (f : Figures) (apps : List (ℕ × AppRow)) (n : ℕ) (row : AppRow) → sits p q row ≡ false → seats_of f p q (apps ++ (n, row) ∷ []) ≡ seats_of f p q apps
  seats-passed f apps n row off =
      ap (map (seat_of f p q))
      (filter-append test apps ((n, row) ∷ []) ∙ ap (λ b. sitting p q apps ++ cond b ((n, row) ∷ []) []) off ∙ append-nil (sitting p q apps))

  -- what the user's first seat has is what the figures have
  pub used-first : (f : Figures) (user : ℕ) (es : List (ℕ × AppRow)) → (AllByRecursion (λ e. nat_eq user e.1.user ≡ false) es → f.used p q user ≡ nothing)
      → used_at user (map (seat_of f p q) es) ≡ f.used p q user
  used-first f user [] none = sym (none tt)
  used-first f user (e ∷ es) none = go (nat_eq user e.1.user) refl (λ h. used-first f user es h)
    where
      go : (b : Bool) → nat_eq user e.1.user ≡ b → ((AllByRecursion (λ e. nat_eq user e.1.user ≡ false) es → f.used p q user ≡ nothing) → used_at user (map (seat_of f p q) es) ≡ f.used p q user)
          → cond b (f.used p q e.1.user) (used_at user (map (seat_of f p q) es)) ≡ f.used p q user
      go true is rest = ap (f.used p q) (sym (eqb-true user e.1.user is))
      go false off rest = rest (λ h. none (off, h))

  -- a change that leaves an application's seats leaves all
  pub seats-touched : (f : Figures) (n : ℕ) (touch : AppRow → AppRow) → KeepsSeats touch → (apps : List (ℕ × AppRow)) → seats_of f p q (with_change n touch apps) ≡ seats_of f p q apps
  seats-touched f n touch keeps [] = refl
  seats-touched f n touch keeps (e ∷ es) = ap after (same-sits (nat_eq n e.0)) ∙ step (sits p q e.1) (seats-touched f n touch keeps es)
    where
      one : Bool → ℕ × AppRow
      one b = cond b (e.0, touch e.1) e

      same-sits : (b : Bool) → sits p q (one b).1 ≡ sits p q e.1
      same-sits true = λ i. nat_eq (keeps.leaf e.1 i) q && (nat_eq p 0 || nat_eq (keeps.home e.1 i) p)
      same-sits false = refl

      same-seat : (b : Bool) → seat_of f p q (one b) ≡ seat_of f p q e
      same-seat true = λ i. (
        unwrap_or (cond (nat_eq (keeps.home e.1 i) p) (keeps.tickets e.1 i).home (keeps.tickets e.1 i).default) 0,
        record { app = e.0; user = keeps.user e.1 i; used = f.used p q (keeps.user e.1 i); waits = f.waits p e.0 },
      )
      same-seat false = refl

      after : Bool → List (ℕ × Seat)
      after b = map (seat_of f p q) (cond b (one (nat_eq n e.0) ∷ sitting p q (with_change n touch es)) (sitting p q (with_change n touch es)))

      step : (b : Bool) → seats_of f p q (with_change n touch es) ≡ seats_of f p q es → after b ≡ map (seat_of f p q) (cond b (e ∷ sitting p q es) (sitting p q es))
      step true rest = λ i. same-seat (nat_eq n e.0) i ∷ rest i
      step false rest = rest
