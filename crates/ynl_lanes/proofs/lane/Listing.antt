-- The applications of a lane's seats, slot by slot.
use Rattle.std.proofs.Common.{◌≡◌, ◌≢◌, ℕ, ◌+◌, ◌<◌, ◌≤◌, Bool, true, false, cond, List, [], ◌∷◌, ◌++◌, length, map, filter, nat_eq, nat_lt, Some, refl, sym, ap, ◌∙◌, arith}
use Rattle.std.specs.List.{AllByRecursion}
use Rattle.std.specs.Map.{lookup}
use Rattle.std.proofs.lemmas.Bool.Decides.{nat_tests}
use Rattle.std.proofs.lemmas.Option.{same_Some, none-some, slice_get_within}
use Rattle.ynl_lanes.specs.declared.lane.levels.Level.TheVariants.{Lane}
use Rattle.ynl_lanes.specs.declared.lane.rows.SeatRow.{SeatRow}
use Rattle.ynl_lanes.specs.declared.lane.rows.Rows.{Rows}
use Rattle.ynl_lanes.specs.declared.lane.rows.UserRow.{UserRow}
use Rattle.ynl_lanes.specs.lane.Apps.{apps_before}
use Rattle.ynl_lanes.specs.lane.Fields.{seat_of}
use Rattle.ynl_lanes.specs.lane.Found.{EachSeat, IsSeatAt}
use Rattle.ynl_lanes.specs.lane.Levels.{slot_in, IsBefore, AreOrdered}
use Rattle.ynl_lanes.specs.lane.Rows.{IsSeated}
use Rattle.ynl_lanes.specs.lane.Seats.{Seat}
use Rattle.ynl_lanes.proofs.lane.Lists.{all_lookup, all_then}
use Rattle.ynl_lanes.proofs.lane.Found.{all_from_each, in_line-at}

abbrev Entry : Type 0
Entry = ℕ × SeatRow

-- a seat before the slot is among those before it, and one that is not before it is not
before : (slot : ℕ) (e : Entry) (es : List Entry) → e.1.slot < slot → apps_before slot (e ∷ es) ≡ e.1.app ∷ apps_before slot es
before slot e es lt =
    let is : nat_lt e.1.slot slot ≡ true = grind (arith, nat_tests, lt) in
    ap (λ b. map (λ (e : Entry). e.1.app) (cond b (e ∷ filter (λ (e : Entry). nat_lt e.1.slot slot) es) (filter (λ (e : Entry). nat_lt e.1.slot slot) es))) is

behind : (slot : ℕ) (e : Entry) (es : List Entry) → slot ≤ e.1.slot → apps_before slot (e ∷ es) ≡ apps_before slot es
behind slot e es le =
    let is : nat_lt e.1.slot slot ≡ false = grind (arith, nat_tests, le) in
    ap (λ b. map (λ (e : Entry). e.1.app) (cond b (e ∷ filter (λ (e : Entry). nat_lt e.1.slot slot) es) (filter (λ (e : Entry). nat_lt e.1.slot slot) es))) is

all-behind : (slot : ℕ) (es : List Entry) → AllByRecursion (λ e. slot ≤ e.1.slot) es → apps_before slot es ≡ []
all-behind slot [] h = refl
all-behind slot (e ∷ es) h = behind slot e es h.0 ∙ all-behind slot es h.1

all-before : (slot : ℕ) (es : List Entry) → AllByRecursion (λ e. e.1.slot < slot) es → apps_before slot es ≡ map (λ e. e.1.app) es
all-before slot [] h = refl
all-before slot (e ∷ es) h = before slot e es h.0 ∙ ap (λ apps. e.1.app ∷ apps) (all-before slot es h.1)

-- no seat stands in the slot
none-more : (slot : ℕ) (es : List Entry) → AllByRecursion (λ e. e.1.slot ≢ slot) es → apps_before (slot + 1) es ≡ apps_before slot es
none-more slot [] h = refl
none-more slot (e ∷ es) h = go (nat_lt e.1.slot slot) refl (none-more slot es h.1)
  where
    apart : e.1.slot ≢ slot
    apart = h.0

    go : (b : Bool) → nat_lt e.1.slot slot ≡ b → apps_before (slot + 1) es ≡ apps_before slot es → apps_before (slot + 1) (e ∷ es) ≡ apps_before slot (e ∷ es)
    go true is rest =
        let lt : e.1.slot < slot = grind (arith, nat_tests, is) in
        before (slot + 1) e es (omega (arith, lt)) ∙ ap (λ apps. e.1.app ∷ apps) rest ∙ sym (before slot e es lt)
    go false is rest =
        let le : slot ≤ e.1.slot = grind (arith, nat_tests, is) in
        behind (slot + 1) e es (omega (arith, le, apart)) ∙ rest ∙ sym (behind slot e es le)

-- the seat of a ticket stands there
one-more : (slot ticket : ℕ) (row : SeatRow) (es : List Entry) → AreOrdered (IsBefore Lane) es → lookup (nat_eq ticket) es ≡ Some row → row.slot ≡ slot → apps_before (slot + 1) es ≡ apps_before slot es ++ row.app ∷ []
one-more slot ticket row [] ordered found at = absurd (none-some row found)
one-more slot ticket row (e ∷ es) ordered found at = go (nat_eq ticket e.0) refl found (λ there. one-more slot ticket row es ordered.1 there at)
  where
    go : (b : Bool) → nat_eq ticket e.0 ≡ b → cond b (Some e.1) (lookup (nat_eq ticket) es) ≡ Some row
        → (lookup (nat_eq ticket) es ≡ Some row → apps_before (slot + 1) es ≡ apps_before slot es ++ row.app ∷ []) → apps_before (slot + 1) (e ∷ es) ≡ apps_before slot (e ∷ es) ++ row.app ∷ []
    go true is there later =
        let same : e.1 ≡ row = same_Some e.1 row there in
        let here : e.1.slot ≡ slot = ap (λ (r : SeatRow). r.slot) same ∙ at in
        let rest : AllByRecursion (λ (f : Entry). e.1.slot < f.1.slot) es = all_then (IsBefore Lane e) (λ (f : Entry). e.1.slot < f.1.slot) (λ f lt. lt e.1.slot f.1.slot refl refl) es ordered.0 in
        before (slot + 1) e es (omega (arith, here))
        ∙ ap (λ apps. e.1.app ∷ apps) (all-behind (slot + 1) es (all_then (λ (f : Entry). e.1.slot < f.1.slot) (λ (f : Entry). slot + 1 ≤ f.1.slot) (λ f lt. omega (arith, lt, here)) es rest))
        ∙ ap (λ (r : SeatRow). r.app ∷ []) same
        ∙ ap (λ apps. apps ++ row.app ∷ []) (sym (behind slot e es (omega (arith, here)) ∙ all-behind slot es (all_then (λ (f : Entry). e.1.slot < f.1.slot) (λ (f : Entry). slot ≤ f.1.slot) (λ f lt. omega (arith, lt, here)) es rest)))
    go false is there later =
        let lt : e.1.slot < row.slot = all_lookup (IsBefore Lane e) ticket row es ordered.0 there e.1.slot row.slot refl refl in
        before (slot + 1) e es (omega (arith, lt, at))
        ∙ ap (λ apps. e.1.app ∷ apps) (later there)
        ∙ ap (λ apps. apps ++ row.app ∷ []) (sym (before slot e es (omega (arith, lt, at))))

module _ (rows : Rows) (seated : IsSeated rows) where
  -- one slot further
  pub seat-comes : (slot ticket : ℕ) (row : SeatRow) → IsSeatAt Lane slot rows.seats.entries ticket row → apps_before (slot + 1) rows.seats.entries ≡ apps_before slot rows.seats.entries ++ row.app ∷ []
  seat-comes slot ticket row is = one-more slot ticket row rows.seats.entries (seated.lines Lane).ordered is.found (same_Some row.slot slot is.at)

  pub none-comes : (slot : ℕ) → EachSeat (λ _ row. ¬ (slot_in Lane row ≡ Some slot)) rows.seats.entries → apps_before (slot + 1) rows.seats.entries ≡ apps_before slot rows.seats.entries
  none-comes slot none = none-more slot rows.seats.entries (all_from_each (λ e. e.1.slot ≢ slot) rows.seats.entries seated.distinct (λ n row found same. none n row found (ap Some same)))

  -- before the first slot there is none, and before the end there are all
  pub first-none : apps_before 0 rows.seats.entries ≡ []
  first-none = all-behind 0 rows.seats.entries (all_from_each (λ e. 0 ≤ e.1.slot) rows.seats.entries seated.distinct (λ n row found. omega arith))

  pub end-all : (slot : ℕ) → length rows.line.tickets ≤ slot → apps_before slot rows.seats.entries ≡ map (λ e. e.1.app) rows.seats.entries
  end-all slot end = all-before slot rows.seats.entries
      (all_from_each (λ e. e.1.slot < slot) rows.seats.entries seated.distinct
      (λ n row found. (let inside = slice_get_within rows.line.tickets row.slot n (in_line-at Lane rows.line.tickets rows.seats.entries n row.slot row (seated.lines Lane) found refl) in omega (arith, inside, end))))

-- the seats that a contract sees have the same applications
pub apps-shown : (users : List (ℕ × UserRow)) (es : List Entry) → map (λ (e : ℕ × Seat). e.1.app) (map (seat_of users) es) ≡ map (λ e. e.1.app) es
apps-shown users [] = refl
apps-shown users (e ∷ es) = ap (λ apps. e.1.app ∷ apps) (apps-shown users es)
