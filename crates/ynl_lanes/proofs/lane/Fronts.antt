-- The first seat that is given something, as a list of seats tells it.
use Rattle.std.proofs.Common.{◌≡◌, ℕ, ◌<◌, ◌≤◌, Bool, true, false, cond, not, List, [], ◌∷◌, map, length, Option, Some, None, IsSome, option_map, nat_eq, refl, sym, ap, subst, ◌∙◌, arith, true≢false}
use Rattle.std.specs.List.{AllByRecursion}
use Rattle.std.specs.Map.{lookup}
use Rattle.std.proofs.lemmas.Bool.Decides.{nat_tests}
use Rattle.std.proofs.lemmas.Option.{same_Some, none-some, slice_get_within}
use Rattle.ynl_resource.specs.declared.amounts.Resource.{Resource}
use Rattle.ynl_resource.specs.Amounts.{fits_in}
use Rattle.ynl_lanes.specs.lows.Lows.{no_size}
use Rattle.ynl_lanes.specs.declared.lane.kinds.Kind.{Kind}
use Rattle.ynl_lanes.specs.declared.lane.levels.Level.TheVariants.{Lane}
use Rattle.ynl_lanes.specs.declared.lane.rows.SeatRow.{SeatRow}
use Rattle.ynl_lanes.specs.declared.lane.rows.UserRow.{UserRow}
use Rattle.ynl_lanes.specs.declared.lane.rows.Rows.{Rows}
use Rattle.ynl_lanes.specs.declared.lane.search.Found.{Found}
use Rattle.ynl_lanes.specs.lane.Fields.{both_in, seat_of}
use Rattle.ynl_lanes.specs.lane.Kinds.{of_kind}
use Rattle.ynl_lanes.specs.lane.Levels.{IsBefore, AreOrdered}
use Rattle.ynl_lanes.specs.lane.Rows.{used_by, IsKept}
use Rattle.ynl_lanes.specs.lane.Search.{NoneBefore, IsFirstGiven, MayHaveGiven, WaitsAt}
use Rattle.ynl_lanes.specs.lane.Waiting.{IsWaiting}
use Rattle.ynl_lanes.specs.lane.Seats.{Seat, is_waiting, given, given_or, first_given, seats_before, seats_up_to, PassesGiven}
use Rattle.ynl_lanes.proofs.lane.Lists.{all_lookup, all_both}
use Rattle.ynl_lanes.proofs.lane.Found.{all_from_each, in_line-at}
use Rattle.ynl_lanes.proofs.lane.Views.{of_both, seat_found}

-- the entries before that of a ticket
abbrev entries_before : ℕ → List (ℕ × SeatRow) → List (ℕ × SeatRow)
entries_before ticket [] = []
entries_before ticket (e ∷ es) = cond (nat_eq ticket e.0) [] (e ∷ entries_before ticket es)

before_shown : (users : List (ℕ × UserRow)) (ticket : ℕ) (es : List (ℕ × SeatRow)) → seats_before ticket (map (seat_of users) es) ≡ map (seat_of users) (entries_before ticket es)
before_shown users ticket [] = refl
before_shown users ticket (e ∷ es) = go (nat_eq ticket e.0) (before_shown users ticket es)
  where
    go : (b : Bool) → seats_before ticket (map (seat_of users) es) ≡ map (seat_of users) (entries_before ticket es)
        → cond b [] (seat_of users e ∷ seats_before ticket (map (seat_of users) es)) ≡ map (seat_of users) (cond b [] (e ∷ entries_before ticket es))
    go true k = refl
    go false k = ap (λ r. seat_of users e ∷ r) k

all_before : (P : ℕ × SeatRow → Type 0) (ticket : ℕ) (es : List (ℕ × SeatRow)) → AllByRecursion P es → AllByRecursion P (entries_before ticket es)
all_before P ticket [] h = tt
all_before P ticket (e ∷ es) h = go (nat_eq ticket e.0) (all_before P ticket es h.1)
  where
    go : (b : Bool) → AllByRecursion P (entries_before ticket es) → AllByRecursion P (cond b [] (e ∷ entries_before ticket es))
    go true k = tt
    go false k = (h.0, k)

ordered_before : (R : ℕ × SeatRow → ℕ × SeatRow → Type 0) (ticket : ℕ) (es : List (ℕ × SeatRow)) → AreOrdered R es → AreOrdered R (entries_before ticket es)
ordered_before R ticket [] h = tt
ordered_before R ticket (e ∷ es) h = go (nat_eq ticket e.0) (ordered_before R ticket es h.1)
  where
    go : (b : Bool) → AreOrdered R (entries_before ticket es) → AreOrdered R (cond b [] (e ∷ entries_before ticket es))
    go true k = tt
    go false k = (all_before (R e) ticket es h.0, k)

-- they stand before its slot
slots_before : (ticket : ℕ) (row : SeatRow) (es : List (ℕ × SeatRow)) → AreOrdered (IsBefore Lane) es → lookup (nat_eq ticket) es ≡ Some row → AllByRecursion (λ e. e.1.slot < row.slot) (entries_before ticket es)
slots_before ticket row [] h found = tt
slots_before ticket row (e ∷ es) h found = go (nat_eq ticket e.0) found (λ f. slots_before ticket row es h.1 f)
  where
    go : (b : Bool) → cond b (Some e.1) (lookup (nat_eq ticket) es) ≡ Some row → (lookup (nat_eq ticket) es ≡ Some row → AllByRecursion (λ f. f.1.slot < row.slot) (entries_before ticket es)) → AllByRecursion (λ f. f.1.slot < row.slot) (cond b [] (e ∷ entries_before ticket es))
    go true f later = tt
    go false f later = (all_lookup (IsBefore Lane e) ticket row es h.0 f e.1.slot row.slot refl refl, later f)

-- and one that does is among them
found_before : (ticket n : ℕ) (row other : SeatRow) (es : List (ℕ × SeatRow)) → AreOrdered (IsBefore Lane) es → lookup (nat_eq ticket) es ≡ Some row → lookup (nat_eq n) es ≡ Some other → other.slot < row.slot → lookup (nat_eq n) (entries_before ticket es) ≡ Some other
found_before ticket n row other [] h found there lt = absurd (none-some row found)
found_before ticket n row other (e ∷ es) h found there lt = go (nat_eq ticket e.0) found (nat_eq n e.0) refl there (λ f t. found_before ticket n row other es h.1 f t lt)
  where
    go : (a : Bool) → cond a (Some e.1) (lookup (nat_eq ticket) es) ≡ Some row → (b : Bool) → nat_eq n e.0 ≡ b → cond b (Some e.1) (lookup (nat_eq n) es) ≡ Some other
        → (lookup (nat_eq ticket) es ≡ Some row → lookup (nat_eq n) es ≡ Some other → lookup (nat_eq n) (entries_before ticket es) ≡ Some other) → lookup (nat_eq n) (cond a [] (e ∷ entries_before ticket es)) ≡ Some other
    go true f true q t later = absurd (let a : e.1.slot ≡ row.slot = ap (λ (r : SeatRow). r.slot) (same_Some _ _ f) in let b : e.1.slot ≡ other.slot = ap (λ (r : SeatRow). r.slot) (same_Some _ _ t) in omega (arith, a, b, lt))
    go true f false q t later = absurd (let a : e.1.slot ≡ row.slot = ap (λ (r : SeatRow). r.slot) (same_Some _ _ f) in let b : e.1.slot < other.slot = all_lookup (IsBefore Lane e) n other es h.0 t e.1.slot other.slot refl refl in omega (arith, a, b, lt))
    go false f true q t later = ap (λ (b : Bool). cond b (Some e.1) (lookup (nat_eq n) (entries_before ticket es))) q ∙ t
    go false f false q t later = ap (λ (b : Bool). cond b (Some e.1) (lookup (nat_eq n) (entries_before ticket es))) q ∙ later f t

-- where something waits at a seat
waits_true : (kind : Kind) (users : List (ℕ × UserRow)) (e : ℕ × SeatRow) → WaitsAt kind users e.1 → is_waiting kind (seat_of users e).1 ≡ true
waits_true kind users e h = go (fits_in no_size (of_kind kind (both_in users e.1))) (subst IsWaiting (sym (of_both kind users e.1)) h)
  where
    go : (b : Bool) → ¬ (b ≡ true) → not b ≡ true
    go true k = absurd (k refl)
    go false k = refl

true_waits : (kind : Kind) (users : List (ℕ × UserRow)) (e : ℕ × SeatRow) → is_waiting kind (seat_of users e).1 ≡ true → WaitsAt kind users e.1
true_waits kind users e h = subst IsWaiting (of_both kind users e.1) (λ all. true≢false (sym h ∙ ap not all))

module _ {F : Type 0} (kind : Kind) (users : List (ℕ × UserRow)) (gives : ℕ → Option F) where
  abbrev gift : ℕ × SeatRow → Option F
  gift e = given kind gives (seat_of users e).1

  -- what is given is given to a seat at which something waits
  gift_waits : (e : ℕ × SeatRow) → IsSome (gift e) → WaitsAt kind users e.1 × IsSome (gives e.1.app)
  gift_waits e h = go (is_waiting kind (seat_of users e).1) refl h
    where
      go : (b : Bool) → is_waiting kind (seat_of users e).1 ≡ b → IsSome (cond b (gives e.1.app) None) → WaitsAt kind users e.1 × IsSome (gives e.1.app)
      go true q k = (true_waits kind users e q, k)
      go false q k = absurd (true≢false (sym k))

  gift_given : (e : ℕ × SeatRow) → WaitsAt kind users e.1 → gift e ≡ gives e.1.app
  gift_given e h = ap (λ (b : Bool). cond b (gives e.1.app) None) (waits_true kind users e h)

  none_gift : (o : Option F) → (IsSome o → ⊥) → o ≡ None
  none_gift None h = refl
  none_gift (Some f) h = absurd (h refl)

  -- where none is given anything
  none_first : (es : List (ℕ × SeatRow)) → AllByRecursion (λ e. gift e ≡ None) es → first_given (given kind gives) (map (seat_of users) es) ≡ None
  none_first [] h = refl
  none_first (e ∷ es) h = ap (λ o. given_or e.0 o (first_given (given kind gives) (map (seat_of users) es))) h.0 ∙ none_first es h.1

  -- where one is, and none before it
  some_first : (n : ℕ) (row : SeatRow) (found : F) (es : List (ℕ × SeatRow)) → AreOrdered (IsBefore Lane) es → AllByRecursion (λ e. IsSome (gift e) → row.slot ≤ e.1.slot) es → lookup (nat_eq n) es ≡ Some row → gift (n, row) ≡ Some found → first_given (given kind gives) (map (seat_of users) es) ≡ Some (n, found)
  some_first n row found [] h least there gets = absurd (none-some row there)
  some_first n row found (e ∷ es) h least there gets = go (nat_eq n e.0) refl there (λ t. some_first n row found es h.1 least.1 t gets)
    where
      go : (b : Bool) → nat_eq n e.0 ≡ b → cond b (Some e.1) (lookup (nat_eq n) es) ≡ Some row → (lookup (nat_eq n) es ≡ Some row → first_given (given kind gives) (map (seat_of users) es) ≡ Some (n, found))
          → given_or e.0 (gift e) (first_given (given kind gives) (map (seat_of users) es)) ≡ Some (n, found)
      go true q t later =
          let here : n ≡ e.0 = grind (arith, nat_tests) in
          let is : e.1 ≡ row = same_Some _ _ t in
          let same : gift e ≡ Some found = ap (λ (r : SeatRow). gift (n, r)) is ∙ gets in
          ap (λ o. given_or e.0 o (first_given (given kind gives) (map (seat_of users) es))) same ∙ ap (λ k. Some (k, found)) (sym here)
      go false q t later =
          let lt : e.1.slot < row.slot = all_lookup (IsBefore Lane e) n row es h.0 t e.1.slot row.slot refl refl in
          let first = least.0 in
          let none : gift e ≡ None = none_gift (gift e) (λ some. (let le = first some in omega (arith, le, lt))) in
          ap (λ o. given_or e.0 o (first_given (given kind gives) (map (seat_of users) es))) none ∙ later t

module _ {F : Type 0} (rows : Rows) (kept : IsKept rows) (kind : Kind) (gives : ℕ → Option F) (seen : List (ℕ × Seat)) (view : map (seat_of rows.users.entries) rows.seats.entries ≡ seen) where
  -- each seat that is given something stands in this slot or behind it
  behind : (slot : ℕ) → NoneBefore (WaitsAt kind rows.users.entries) gives rows.seats.entries slot → AllByRecursion (λ e. IsSome (gift kind rows.users.entries gives e) → slot ≤ e.1.slot) rows.seats.entries
  behind slot h = all_from_each (λ e. IsSome (gift kind rows.users.entries gives e) → slot ≤ e.1.slot) rows.seats.entries kept.seated.distinct
      (λ n e there some. (let is = gift_waits kind rows.users.entries gives (n, e) some in h n e there is.0 is.1))

  -- a list of entries that stand before a slot, among them all that do
  record Front (limit : ℕ) (front : List (ℕ × SeatRow)) : Type 0 where
    pub ordered : AreOrdered (IsBefore Lane) front
    pub slots : AllByRecursion (λ e. e.1.slot < limit) front
    pub least : (slot : ℕ) → NoneBefore (WaitsAt kind rows.users.entries) gives rows.seats.entries slot → AllByRecursion (λ e. IsSome (gift kind rows.users.entries gives e) → slot ≤ e.1.slot) front
    pub found : (n : ℕ) (row : SeatRow) → lookup (nat_eq n) rows.seats.entries ≡ Some row → row.slot < limit → lookup (nat_eq n) front ≡ Some row

  -- all entries, or those before one
  front_all : Front (length rows.line.tickets) rows.seats.entries
  front_all = record {
    ordered = (kept.seated.lines Lane).ordered;
    slots = all_from_each (λ e. e.1.slot < length rows.line.tickets) rows.seats.entries kept.seated.distinct (λ n e there. slice_get_within rows.line.tickets e.slot n (in_line-at Lane rows.line.tickets rows.seats.entries n e.slot e (kept.seated.lines Lane) there refl));
    least = behind;
    found = λ n row there lt. there;
  }

  front_before : (ticket : ℕ) (row : SeatRow) → lookup (nat_eq ticket) rows.seats.entries ≡ Some row → Front row.slot (entries_before ticket rows.seats.entries)
  front_before ticket row found = record {
    ordered = ordered_before (IsBefore Lane) ticket rows.seats.entries (kept.seated.lines Lane).ordered;
    slots = slots_before ticket row rows.seats.entries (kept.seated.lines Lane).ordered found;
    least = λ slot h. all_before (λ e. IsSome (gift kind rows.users.entries gives e) → slot ≤ e.1.slot) ticket rows.seats.entries (behind slot h);
    found = λ n other there lt. found_before ticket n row other rows.seats.entries (kept.seated.lines Lane).ordered found there lt;
  }

  front_none : (limit : ℕ) (front : List (ℕ × SeatRow)) → Front limit front → NoneBefore (WaitsAt kind rows.users.entries) gives rows.seats.entries limit → first_given (given kind gives) (map (seat_of rows.users.entries) front) ≡ None
  front_none limit front f none = none_first kind rows.users.entries gives front
      (all_both (λ e. e.1.slot < limit) (λ e. IsSome (gift kind rows.users.entries gives e) → limit ≤ e.1.slot) (λ e. gift kind rows.users.entries gives e ≡ None)
      (λ e lt least. none_gift kind rows.users.entries gives (gift kind rows.users.entries gives e) (λ some. (let le = least some in omega (arith, lt, le)))) front f.slots (f.least limit none))

  front_some : (limit : ℕ) (front : List (ℕ × SeatRow)) → Front limit front → (found : Found F) → IsFirstGiven (WaitsAt kind rows.users.entries) gives rows.seats.entries limit found → first_given (given kind gives) (map (seat_of rows.users.entries) front) ≡ Some (found.ticket, found.given)
  front_some limit front f found is =
      let at = is.at in
      let before = is.before in
      some_first kind rows.users.entries gives found.ticket is.row found.given front f.ordered
      (subst (λ slot. AllByRecursion (λ e. IsSome (gift kind rows.users.entries gives e) → slot ≤ e.1.slot) front) (sym at) (f.least found.slot is.first))
      (f.found found.ticket is.row is.there (omega (arith, at, before)))
      (gift_given kind rows.users.entries gives (found.ticket, is.row) is.here ∙ is.given)

  -- what a search up to all seats finds, and one up to a seat
  pub all_none : (limit : ℕ) → limit ≡ length rows.line.tickets → NoneBefore (WaitsAt kind rows.users.entries) gives rows.seats.entries limit → first_given (given kind gives) (seats_up_to None seen) ≡ None
  all_none limit is none = ap (first_given (given kind gives)) (sym view) ∙ front_none limit rows.seats.entries (subst (λ n. Front n rows.seats.entries) (sym is) front_all) none

  pub all_some : (limit : ℕ) → limit ≡ length rows.line.tickets → (found : Found F) → IsFirstGiven (WaitsAt kind rows.users.entries) gives rows.seats.entries limit found → first_given (given kind gives) (seats_up_to None seen) ≡ Some (found.ticket, found.given)
  all_some limit is found first = ap (first_given (given kind gives)) (sym view) ∙ front_some limit rows.seats.entries (subst (λ n. Front n rows.seats.entries) (sym is) front_all) found first

  pub before_none : (ticket limit : ℕ) (row : SeatRow) → lookup (nat_eq ticket) rows.seats.entries ≡ Some row → limit ≡ row.slot → NoneBefore (WaitsAt kind rows.users.entries) gives rows.seats.entries limit → first_given (given kind gives) (seats_up_to (Some ticket) seen) ≡ None
  before_none ticket limit row found is none = ap (λ s. first_given (given kind gives) (seats_before ticket s)) (sym view) ∙ ap (first_given (given kind gives)) (before_shown rows.users.entries ticket rows.seats.entries)
      ∙ front_none limit (entries_before ticket rows.seats.entries) (subst (λ n. Front n (entries_before ticket rows.seats.entries)) (sym is) (front_before ticket row found)) none

  pub before_some : (ticket limit : ℕ) (row : SeatRow) → lookup (nat_eq ticket) rows.seats.entries ≡ Some row → limit ≡ row.slot → (found : Found F) → IsFirstGiven (WaitsAt kind rows.users.entries) gives rows.seats.entries limit found → first_given (given kind gives) (seats_up_to (Some ticket) seen) ≡ Some (found.ticket, found.given)
  before_some ticket limit row found is gift first = ap (λ s. first_given (given kind gives) (seats_before ticket s)) (sym view) ∙ ap (first_given (given kind gives)) (before_shown rows.users.entries ticket rows.seats.entries)
      ∙ front_some limit (entries_before ticket rows.seats.entries) (subst (λ n. Front n (entries_before ticket rows.seats.entries)) (sym is) (front_before ticket row found)) gift first

-- what passes as a contract sees it, the user of the row may have
pub given_shown : {F : Type 0} (rows : Rows) (kind : Kind) (may : Resource → Resource → Type 0) (gives : ℕ → Option F) (seen : List (ℕ × Seat)) → map (seat_of rows.users.entries) rows.seats.entries ≡ seen → PassesGiven kind may gives seen → MayHaveGiven kind may gives rows.seats.entries rows.users.entries
given_shown rows kind may gives seen view h n row there waits gets =
    subst (may (used_by row.user rows.users.entries)) (of_both kind rows.users.entries row) (h n (seat_of rows.users.entries (n, row)).1
    (ap (λ s. lookup (nat_eq n) s) (sym view) ∙ seat_found rows.users.entries n rows.seats.entries ∙ ap (option_map (λ (r : SeatRow). (seat_of rows.users.entries (n, r)).1)) there)
    (subst IsWaiting (sym (of_both kind rows.users.entries row)) waits) gets)
