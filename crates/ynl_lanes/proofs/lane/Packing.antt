-- How seats move up in a line.
use Rattle.std.proofs.Common.{◌≡◌, ◌≢◌, ℕ, zero, suc, ◌+◌, ◌<◌, ◌≤◌, ◌⊎◌, inl, inr, Bool, true, false, cond, List, [], ◌∷◌, map, get_or, set, take, length, length-take, Option, Some, None, nat_eq, refl, sym, ap, subst, ◌∙◌, ⊎_elim, arith, true≢false, get_or-set_same, get_or-set_other, length-set}
use Rattle.std.specs.List.{AllByRecursion, slice_get}
use Rattle.std.specs.Map.{lookup}
use Rattle.std.proofs.lemmas.Bool.Decides.{nat_tests}
use Rattle.std.proofs.lemmas.Option.{same_Some, none-some, slice_get_within, slice_get-get_or}
use Rattle.std.proofs.lemmas.List.{get_or_default, get_or_append_left}
use Rattle.ynl_lanes.specs.firsts.Firsts.{IsFilledUp}
use Rattle.ynl_slots.specs.Slots.{IsOnly, HasDistinctNumbers}
use Rattle.ynl_slots.proofs.Lookups.{only_from_distinct, unused_from_lookup}
use Rattle.ynl_lanes.specs.declared.lane.kinds.Kind.{Kind}
use Rattle.ynl_lanes.specs.lane.Lined.{Lined}
use Rattle.ynl_lanes.specs.declared.lane.rows.SeatRow.{SeatRow}
use Rattle.ynl_lanes.specs.declared.lane.levels.Level.{Level}
use Rattle.ynl_lanes.specs.declared.lane.levels.Level.TheVariants.{Lane, User}
use Rattle.ynl_lanes.specs.declared.lane.kinds.Kind.TheVariants.{Master, Ask}
use Rattle.ynl_lanes.specs.lane.Lines.{values_of, moved, IsLine}
use Rattle.ynl_lanes.specs.lane.Moves.{Moves}
use Rattle.ynl_lanes.specs.lane.Levels.{slot_in, at_slot, is_slot, stands_at, IsIn, IsBefore, ArePairs, AreIn, IsMoved}
use Rattle.ynl_lanes.proofs.lane.Lists.{all_both, all_then, all_any, all_map, ordered_map, pairs_map, pairs_same, pairs_then, pairs_with, distinct_with_row}

-- another element stays as it was
pub slice_get-other : {X : Type 0} (xs : List X) (i j : ℕ) (x : X) → j ≢ i → slice_get (set xs i x) j ≡ slice_get xs j
slice_get-other [] i j x h = refl
slice_get-other (y ∷ ys) zero zero x h = absurd (h refl)
slice_get-other (y ∷ ys) zero (suc j) x h = refl
slice_get-other (y ∷ ys) (suc i) zero x h = refl
slice_get-other (y ∷ ys) (suc i) (suc j) x h = slice_get-other ys i j x (λ same. h (ap suc same))

pub slice_get-take : {X : Type 0} (n : ℕ) (xs : List X) (i : ℕ) → i < n → slice_get (take n xs) i ≡ slice_get xs i
slice_get-take zero xs i h = absurd (omega (arith, h))
slice_get-take (suc n) [] i h = refl
slice_get-take (suc n) (x ∷ xs) zero h = refl
slice_get-take (suc n) (x ∷ xs) (suc i) h = slice_get-take n xs i (omega (arith, h))

-- a value that goes to where it is stays
pub moved_same : {T : Type 0} (none : T) (i : ℕ) (vs : List T) → moved none i i vs ≡ vs
moved_same none i [] = refl
moved_same none zero (v ∷ vs) = refl
moved_same none (suc i) (v ∷ vs) = ap (λ others. v ∷ others) (moved_same none i vs)

moved-to : {T : Type 0} (none : T) (from next : ℕ) (vs : List T) (d : T) → next ≤ from → from < length vs → get_or (moved none from next vs) next d ≡ get_or vs from d
moved-to none from next vs d le inside = get_or-set_same (set vs from none) next (get_or vs from none) d (rw length-set (omega (arith, le, inside))) ∙ get_or_default vs from none d inside

moved-other : {T : Type 0} (none : T) (from next slot : ℕ) (vs : List T) (d : T) → slot ≢ next → slot ≢ from → get_or (moved none from next vs) slot d ≡ get_or vs slot d
moved-other none from next slot vs d one other = get_or-set_other (set vs from none) next slot (get_or vs from none) d one ∙ get_or-set_other vs from slot none d other

-- no seat stands from one slot of a line up to another
abbrev pub IsApart : Level → ℕ → ℕ → ℕ × SeatRow → Type 0
IsApart level next from e = (slot : ℕ) → slot_in level e.1 ≡ Some slot → (slot < next) ⊎ (from ≤ slot)

-- a seat that moved stands in its new slot
pub slot_in-at : (level : Level) (slot from : ℕ) (row : SeatRow) → slot_in level row ≡ Some from → slot_in level (at_slot level slot row) ≡ Some slot
slot_in-at Lane slot from row h = refl
slot_in-at (User user) slot from row h = go (nat_eq row.user user) refl h
  where
    go : (b : Bool) → nat_eq row.user user ≡ b → cond b (Some row.own_slot) None ≡ Some from → slot_in (User user) (cond b (record row { own_slot = slot }) row) ≡ Some slot
    go true q k = rw q refl
    go false q k = absurd (none-some from k)

-- where it moves twice, the last slot counts
pub at_slot-twice : (level : Level) (m n : ℕ) (row : SeatRow) → at_slot level n (at_slot level m row) ≡ at_slot level n row
at_slot-twice Lane m n row = refl
at_slot-twice (User user) m n row = go (nat_eq row.user user) refl
  where
    go : (b : Bool) → nat_eq row.user user ≡ b → at_slot (User user) n (cond b (record row { own_slot = m }) row) ≡ cond b (record row { own_slot = n }) row
    go true q = rw q refl
    go false q = rw q refl

-- one seat moves from a slot up to another, where no seat stands from that one on to the old one
module _ (level : Level) (tickets : List ℕ) (ticket from next : ℕ) (row : SeatRow) where
  -- what is known of each seat
  pub record Known (f : ℕ × SeatRow) : Type 0 where
    pub only : f.0 ≡ ticket → f.1 ≡ row
    pub in_line : IsIn level tickets f
    pub apart : IsApart level next from f

  abbrev pub step : ℕ × SeatRow → ℕ × SeatRow
  step e = cond (nat_eq ticket e.0) (e.0, at_slot level next row) e

  -- the seat that moves
  pub record Goes (f : ℕ × SeatRow) : Type 0 where
    pub is : f.0 ≡ ticket
    pub row_is : f.1 ≡ row
    pub to : step f ≡ (ticket, at_slot level next row)

  -- a seat that stays, apart from both slots
  pub record Stays (f : ℕ × SeatRow) : Type 0 where
    pub same : step f ≡ f
    pub apart : (slot : ℕ) → slot_in level f.1 ≡ Some slot → (slot < next) ⊎ (from < slot)

  module _ (read : slice_get tickets from ≡ Some ticket) where
    pub cases : (f : ℕ × SeatRow) → Known f → Goes f ⊎ Stays f
    cases f k = go (nat_eq ticket f.0) refl
      where
        further : nat_eq ticket f.0 ≡ false → (slot : ℕ) → slot_in level f.1 ≡ Some slot → (slot < next) ⊎ (from ≤ slot) → (slot < next) ⊎ (from < slot)
        further q slot at (inl before) = inl before
        further q slot at (inr behind) =
            let other : slot ≢ from = λ same. (
            let there : Some f.0 ≡ Some ticket = sym (k.in_line slot at) ∙ ap (slice_get tickets) same ∙ read in
            let is : f.0 ≡ ticket = same_Some _ _ there in
            let met : nat_eq ticket f.0 ≡ true = grind (arith, nat_tests) in
            true≢false (sym met ∙ q)) in
            inr (omega (arith, other, behind))

        go : (b : Bool) → nat_eq ticket f.0 ≡ b → Goes f ⊎ Stays f
        go true q =
            let is : f.0 ≡ ticket = grind (arith, nat_tests) in
            inl (record {
              is = is;
              row_is = k.only is;
              to = ap (λ (b : Bool). let e : ℕ × SeatRow = cond b (f.0, at_slot level next row) f in e) q ∙ ap (λ (n : ℕ). let e : ℕ × SeatRow = (n, at_slot level next row) in e) is;
            })
        go false q =
            inr (record {
              same = ap (λ (b : Bool). let e : ℕ × SeatRow = cond b (f.0, at_slot level next row) f in e) q;
              apart = λ slot at. further q slot at (k.apart slot at);
            })

    module _ (here : slot_in level row ≡ Some from) (le : next ≤ from) where
      -- the slot of the seat that moves
      slot_of : (f : ℕ × SeatRow) (slot : ℕ) → Goes f → slot_in level (step f).1 ≡ Some slot → slot ≡ next
      slot_of f slot goes at =
          let there : slot_in level (at_slot level next row) ≡ Some slot = subst (λ (e : ℕ × SeatRow). slot_in level e.1 ≡ Some slot) goes.to at in
          same_Some _ _ (sym there ∙ slot_in-at level next from row here)

      -- and of one that stays
      slot_same : (f : ℕ × SeatRow) (slot : ℕ) → Stays f → slot_in level (step f).1 ≡ Some slot → slot_in level f.1 ≡ Some slot
      slot_same f slot stays at = subst (λ (e : ℕ × SeatRow). slot_in level e.1 ≡ Some slot) stays.same at

      -- each still stands where the line has its ticket
      step_in : next < length tickets → (f : ℕ × SeatRow) → Known f → IsIn level (set tickets next ticket) (step f)
      step_in inside f k slot at = go (cases f k)
        where
          go : Goes f ⊎ Stays f → slice_get (set tickets next ticket) slot ≡ Some (step f).0
          go (inl goes) =
              let same : slot ≡ next = slot_of f slot goes at in
              let read_there : slice_get (set tickets next ticket) next ≡ Some ticket = slice_get-get_or (set tickets next ticket) next 0 (rw length-set inside) ∙ ap Some (get_or-set_same tickets next ticket 0 inside) in
              ap (slice_get (set tickets next ticket)) same ∙ read_there ∙ ap (λ (e : ℕ × SeatRow). Some e.0) (sym goes.to)
          go (inr stays) =
              let was : slot_in level f.1 ≡ Some slot = slot_same f slot stays at in
              let away : slot ≢ next = ⊎_elim (λ before same. omega (arith, before, same, le)) (λ behind same. omega (arith, behind, same, le)) (stays.apart slot was) in
              slice_get-other tickets next slot ticket away ∙ k.in_line slot was ∙ ap (λ (e : ℕ × SeatRow). Some e.0) (sym stays.same)

      -- and in the same order
      step_before : (e f : ℕ × SeatRow) → Known e → Known f → IsBefore level e f → IsBefore level (step e) (step f)
      step_before e f h k before m n at there = go (cases e h) (cases f k)
        where
          go : Goes e ⊎ Stays e → Goes f ⊎ Stays f → m < n
          go (inl first) (inl second) =
              let both : from < from = before from from (ap (slot_in level) first.row_is ∙ here) (ap (slot_in level) second.row_is ∙ here) in
              absurd (omega (arith, both))
          go (inl first) (inr second) =
              let then : from < n = before from n (ap (slot_in level) first.row_is ∙ here) (slot_same f n second there) in
              omega (arith, then, le, slot_of e m first at)
          go (inr first) (inl second) =
              let was : slot_in level e.1 ≡ Some m = slot_same e m first at in
              let then : m < from = before m from was (ap (slot_in level) second.row_is ∙ here) in
              ⊎_elim (λ low. omega (arith, low, slot_of f n second there)) (λ high. absurd (omega (arith, high, then))) (first.apart m was)
          go (inr first) (inr second) = before m n (slot_same e m first at) (slot_same f n second there)

      -- none stands between any more
      step_apart : (f : ℕ × SeatRow) → Known f → IsApart level (next + 1) (from + 1) (step f)
      step_apart f k slot at = go (cases f k)
        where
          go : Goes f ⊎ Stays f → (slot < next + 1) ⊎ (from + 1 ≤ slot)
          go (inl goes) = inl (omega (arith, slot_of f slot goes at))
          go (inr stays) = ⊎_elim (λ low. inl (omega (arith, low))) (λ high. inr (omega (arith, high))) (stays.apart slot (slot_same f slot stays at))

      -- and the line has the values at the new slots
      step_moved : {T : Type 0} (none : T) (old line new : Lined T) → ((kind : Kind) → values_of kind new ≡ moved none from next (values_of kind line)) → ((kind : Kind) → from < length (values_of kind line)) → (e f : ℕ × SeatRow) → Known f → IsMoved level old line e f → IsMoved level old new e (step f)
      step_moved none old line new is inside e f k was = go (cases f k)
        where
          go : Goes f ⊎ Stays f → IsMoved level old new e (step f)
          go (inl goes) = record {
            ticket = ap (λ (g : ℕ × SeatRow). g.0) goes.to ∙ sym goes.is ∙ was.ticket;
            slot = next;
            row = ap (λ (g : ℕ × SeatRow). g.1) goes.to ∙ ap (at_slot level next) (sym goes.row_is ∙ was.row) ∙ at_slot-twice level was.slot next e.1;
            values = λ kind at there d.
                let stood : was.slot ≡ from = same_Some _ _ (sym (slot_in-at level was.slot at e.1 there) ∙ sym (ap (slot_in level) was.row) ∙ ap (slot_in level) goes.row_is ∙ here) in
                ap (λ vs. get_or vs next d) (is kind) ∙ moved-to none from next (values_of kind line) d le (inside kind) ∙ ap (λ n. get_or (values_of kind line) n d) (sym stood) ∙ was.values kind at there d;
          }
          go (inr stays) = record {
            ticket = ap (λ (g : ℕ × SeatRow). g.0) stays.same ∙ was.ticket;
            slot = was.slot;
            row = ap (λ (g : ℕ × SeatRow). g.1) stays.same ∙ was.row;
            values = λ kind at there d.
                let stands : slot_in level f.1 ≡ Some was.slot = ap (slot_in level) was.row ∙ slot_in-at level was.slot at e.1 there in
                let apart : (was.slot < next) ⊎ (from < was.slot) = stays.apart was.slot stands in
                let one : was.slot ≢ next = ⊎_elim (λ before same. omega (arith, before, same)) (λ behind same. omega (arith, behind, same, le)) apart in
                let other : was.slot ≢ from = ⊎_elim (λ before same. omega (arith, before, same, le)) (λ behind same. omega (arith, behind, same)) apart in
                ap (λ vs. get_or vs was.slot d) (is kind) ∙ moved-other none from next was.slot (values_of kind line) d one other ∙ was.values kind at there d;
          }

-- a line is being packed: the seats before a slot have moved up
pub record IsPacking {T : Type 0} (level : Level) (old line : Lined T) (before seats : List (ℕ × SeatRow)) (slot next : ℕ) : Type 0 where
  pub up : next ≤ slot
  pub count : length line.tickets ≡ length old.tickets
  pub is_line : IsLine line
  pub are_in : AreIn level line.tickets seats
  pub distinct : HasDistinctNumbers seats
  pub apart : AllByRecursion (IsApart level next slot) seats
  pub moved : ArePairs (IsMoved level old line) before seats

same_slot : (slot : ℕ) → is_slot slot (Some slot) ≡ true
same_slot slot = grind (arith, nat_tests)

module _ (level : Level) where
  -- where a seat stands, it may be said to have moved to
  at_slot-same : (row : SeatRow) → (slot : ℕ) × (row ≡ at_slot level slot row) × ((from : ℕ) → slot_in level row ≡ Some from → from ≡ slot)
  at_slot-same row = go level
    where
      go : (level : Level) → (slot : ℕ) × (row ≡ at_slot level slot row) × ((from : ℕ) → slot_in level row ≡ Some from → from ≡ slot)
      go Lane = (row.slot, refl, λ from is. sym (same_Some _ _ is))
      go (User user) = (row.own_slot, own (nat_eq row.user user) refl, λ from is. here (nat_eq row.user user) from is)
        where
          own : (b : Bool) → nat_eq row.user user ≡ b → row ≡ cond b (record row { own_slot = row.own_slot }) row
          own true q = refl
          own false q = refl

          here : (b : Bool) (from : ℕ) → cond b (Some row.own_slot) None ≡ Some from → from ≡ row.own_slot
          here true from is = sym (same_Some _ _ is)
          here false from is = absurd (none-some from is)

  moved_not : {T : Type 0} (line : Lined T) (e : ℕ × SeatRow) → IsMoved level line line e e
  moved_not line e =
      let same = at_slot-same e.1 in
      record { ticket = refl; slot = same.0; row = same.1; values = λ kind from at d. ap (λ n. get_or (values_of kind line) n d) (sym (same.2 from at)) }

  -- the seat of a ticket does not stand in a slot
  not_at : (seats : List (ℕ × SeatRow)) (ticket slot : ℕ) → HasDistinctNumbers seats → stands_at level slot (lookup (nat_eq ticket) seats) ≡ false → AllByRecursion (λ f. f.0 ≡ ticket → slot_in level f.1 ≢ Some slot) seats
  not_at seats ticket slot distinct fails = go (lookup (nat_eq ticket) seats) refl fails
    where
      elsewhere : (row : SeatRow) → stands_at level slot (Some row) ≡ false → slot_in level row ≢ Some slot
      elsewhere row h at =
          let met : stands_at level slot (Some row) ≡ true = ap (is_slot slot) at ∙ same_slot slot in
          true≢false (sym met ∙ h)

      go : (o : Option SeatRow) → lookup (nat_eq ticket) seats ≡ o → stands_at level slot o ≡ false → AllByRecursion (λ f. f.0 ≡ ticket → slot_in level f.1 ≢ Some slot) seats
      go None none h = all_then (λ f. f.0 ≢ ticket) (λ f. f.0 ≡ ticket → slot_in level f.1 ≢ Some slot) (λ f away is. absurd (away is)) seats (unused_from_lookup ticket seats none)
      go (Some row) found h = all_then (λ f. f.0 ≡ ticket → f.1 ≡ row) (λ f. f.0 ≡ ticket → slot_in level f.1 ≢ Some slot) (λ f only is at. elsewhere row h (ap (slot_in level) (sym (only is)) ∙ at)) seats (only_from_distinct ticket row seats distinct found)

module _ {T : Type 0} (level : Level) where
  pub packing-init : (line : Lined T) (seats : List (ℕ × SeatRow)) → IsLine line → AreIn level line.tickets seats → HasDistinctNumbers seats → IsPacking level line line seats seats 0 0
  packing-init line seats is_line are_in distinct = record {
    up = omega arith;
    count = refl;
    is_line = is_line;
    are_in = are_in;
    distinct = distinct;
    apart = all_any (IsApart level 0 0) (λ e slot at. inr (omega arith)) seats;
    moved = pairs_same (IsMoved level line line) (moved_not level line) seats;
  }

  -- a slot from which none moves
  pub packing-over : (old line : Lined T) (before seats : List (ℕ × SeatRow)) (slot next ticket : ℕ) → IsPacking level old line before seats slot next → slice_get line.tickets slot ≡ Some ticket → stands_at level slot (lookup (nat_eq ticket) seats) ≡ false → IsPacking level old line before seats (slot + 1) next
  packing-over old line before seats slot next ticket h read fails = record {
    up = omega (arith, h.up);
    count = h.count;
    is_line = h.is_line;
    are_in = h.are_in;
    distinct = h.distinct;
    apart = all_both (λ f. IsIn level line.tickets f × (f.0 ≡ ticket → slot_in level f.1 ≢ Some slot)) (IsApart level next slot) (IsApart level next (slot + 1)) over seats
        (all_both (IsIn level line.tickets) (λ f. f.0 ≡ ticket → slot_in level f.1 ≢ Some slot) (λ f. IsIn level line.tickets f × (f.0 ≡ ticket → slot_in level f.1 ≢ Some slot)) (λ f p q. (p, q)) seats h.are_in.in_line (not_at level seats ticket slot h.distinct fails)) h.apart;
    moved = h.moved;
  }
    where
      over : (f : ℕ × SeatRow) → IsIn level line.tickets f × (f.0 ≡ ticket → slot_in level f.1 ≢ Some slot) → IsApart level next slot f → IsApart level next (slot + 1) f
      over f k apart at there = ⊎_elim (λ low. inl low) (λ high. inr (further high)) (apart at there)
        where
          further : slot ≤ at → slot + 1 ≤ at
          further high =
              let other : at ≢ slot = λ same. k.1 (same_Some _ _ (sym (k.0 at there) ∙ ap (slice_get line.tickets) same ∙ read)) (there ∙ ap Some same) in
              omega (arith, high, other)

  -- a slot from which a seat moves up
  pub packing-up : (none : T) (old line new : Lined T) (before seats after : List (ℕ × SeatRow)) (slot next ticket : ℕ) → IsPacking level old line before seats slot next → slot < length line.tickets → slice_get line.tickets slot ≡ Some ticket → stands_at level slot (lookup (nat_eq ticket) seats) ≡ true → Moves level ticket next seats after
      → new.tickets ≡ set line.tickets next ticket → new.masters ≡ moved none slot next line.masters → new.asks ≡ moved none slot next line.asks → IsPacking level old new before after (slot + 1) (next + 1)
  packing-up none old line new before seats after slot next ticket h inside read met moves tickets masters asks =
      let row = moves.row in
      let here : slot_in level row ≡ Some slot = slot_read (slot_in level row) (ap (stands_at level slot) (sym moves.found) ∙ met) in
      let only : IsOnly ticket row seats = only_from_distinct ticket row seats h.distinct moves.found in
      let known : AllByRecursion (Known level line.tickets ticket slot next row) seats =
      all_both (λ f. (f.0 ≡ ticket → f.1 ≡ row) × IsIn level line.tickets f) (IsApart level next slot) (Known level line.tickets ticket slot next row) (λ f p apart. record { only = p.0; in_line = p.1; apart = apart }) seats
      (all_both (λ f. f.0 ≡ ticket → f.1 ≡ row) (IsIn level line.tickets) (λ f. (f.0 ≡ ticket → f.1 ≡ row) × IsIn level line.tickets f) (λ f p q. (p, q)) seats only h.are_in.in_line) h.apart in
      let go = step level line.tickets ticket slot next row in
      let entries : after ≡ map go seats = moves.entries in
      record {
        up = omega (arith, h.up);
        count = ap length tickets ∙ length-set line.tickets next ticket ∙ h.count;
        is_line = record {
          small = rw (tickets, length-set) h.is_line.small;
          masters = rw (tickets, masters, length-set, length-set, length-set) h.is_line.masters;
          asks = rw (tickets, asks, length-set, length-set, length-set) h.is_line.asks;
        };
        are_in = record {
          in_line = rw (tickets, entries) (all_map (Known level line.tickets ticket slot next row) (IsIn level (set line.tickets next ticket)) go (step_in level line.tickets ticket slot next row read here h.up (omega (arith, inside, h.up))) seats known);
          ordered = rw entries (ordered_map (Known level line.tickets ticket slot next row) (IsBefore level) (IsBefore level) go (step_before level line.tickets ticket slot next row read here h.up) seats known h.are_in.ordered);
        };
        distinct = rw moves.entries (distinct_with_row ticket (at_slot level next row) seats h.distinct);
        apart = rw entries (all_map (Known level line.tickets ticket slot next row) (IsApart level (next + 1) (slot + 1)) go (step_apart level line.tickets ticket slot next row read here h.up) seats known);
        moved = rw entries (pairs_map (Known level line.tickets ticket slot next row) (IsMoved level old line) (IsMoved level old new) go (λ e f k was. step_moved level line.tickets ticket slot next row read here h.up none old line new (both_kinds masters asks) (inside_kinds inside h.is_line) e f k was) before seats known h.moved);
      }
    where
      slot_read : (o : Option ℕ) → is_slot slot o ≡ true → o ≡ Some slot
      slot_read None q = absurd (true≢false (sym q))
      slot_read (Some at) q = ap Some (grind (arith, nat_tests))

      both_kinds : new.masters ≡ moved none slot next line.masters → new.asks ≡ moved none slot next line.asks → (kind : Kind) → values_of kind new ≡ moved none slot next (values_of kind line)
      both_kinds m a Master = m
      both_kinds m a Ask = a

      inside_kinds : slot < length line.tickets → IsLine line → (kind : Kind) → slot < length (values_of kind line)
      inside_kinds i l Master = omega (arith, i, l.masters)
      inside_kinds i l Ask = omega (arith, i, l.asks)

  -- what was behind the seats goes from the line
  pub packed : (old line new : Lined T) (before seats : List (ℕ × SeatRow)) (slot next : ℕ) → IsPacking level old line before seats slot next → slot ≡ length old.tickets → new.tickets ≡ take next line.tickets → new.masters ≡ line.masters → new.asks ≡ line.asks
      → IsLine new × AreIn level new.tickets seats × ArePairs (IsMoved level old new) before seats
  packed old line new before seats slot next h all tickets masters asks = (
    record {
      small = rw tickets (omega (arith, length-take next line.tickets, h.is_line.small));
      masters = rw (tickets, masters) (omega (arith, length-take next line.tickets, h.is_line.masters));
      asks = rw (tickets, asks) (omega (arith, length-take next line.tickets, h.is_line.asks));
    },
    record {
      in_line = rw tickets (all_both (IsIn level line.tickets) (IsApart level next slot) (IsIn level (take next line.tickets)) still seats h.are_in.in_line h.apart);
      ordered = h.are_in.ordered;
    },
    pairs_then (IsMoved level old line) (IsMoved level old new) same before seats h.moved,
  )
    where
      still : (f : ℕ × SeatRow) → IsIn level line.tickets f → IsApart level next slot f → IsIn level (take next line.tickets) f
      still f is apart at there =
          let within : at < length line.tickets = slice_get_within line.tickets at f.0 (is at there) in
          let low : at < next = ⊎_elim (λ low. low) (λ high. absurd (omega (arith, high, within, h.count, all))) (apart at there) in
          slice_get-take next line.tickets at low ∙ is at there

      kept : (kind : Kind) → values_of kind new ≡ values_of kind line
      kept Master = masters
      kept Ask = asks

      same : (e f : ℕ × SeatRow) → IsMoved level old line e f → IsMoved level old new e f
      same e f m = record { ticket = m.ticket; slot = m.slot; row = m.row; values = λ kind from at d. ap (λ vs. get_or vs m.slot d) (kept kind) ∙ m.values kind from at d }

  -- where a line did not change, no seat moved
  pub none_moved : (line : Lined T) (seats : List (ℕ × SeatRow)) → ArePairs (IsMoved level line line) seats seats
  none_moved line seats = pairs_same (IsMoved level line line) (moved_not level line) seats

  -- and more slots behind change no value
  pub moved_filled : (none : T) (old line new : Lined T) (before seats : List (ℕ × SeatRow)) → IsLine line → AreIn level line.tickets seats → ArePairs (IsMoved level old line) before seats → IsFilledUp none line.masters new.masters → IsFilledUp none line.asks new.asks → ArePairs (IsMoved level old new) before seats
  moved_filled none old line new before seats is_line are_in moved masters asks = pairs_with (IsIn level line.tickets) (IsMoved level old line) (IsMoved level old new) each before seats are_in.in_line moved
    where
      within : (kind : Kind) (slot : ℕ) → slot < length line.tickets → slot < length (values_of kind line)
      within Master slot h = omega (arith, h, is_line.masters)
      within Ask slot h = omega (arith, h, is_line.asks)

      filled : (kind : Kind) → IsFilledUp none (values_of kind line) (values_of kind new)
      filled Master = masters
      filled Ask = asks

      each : (e f : ℕ × SeatRow) → IsIn level line.tickets f → IsMoved level old line e f → IsMoved level old new e f
      each e f is m = record {
        ticket = m.ticket;
        slot = m.slot;
        row = m.row;
        values = λ kind from at d.
            let stands : slot_in level f.1 ≡ Some m.slot = ap (slot_in level) m.row ∙ slot_in-at level m.slot from e.1 at in
            let inside : m.slot < length (values_of kind line) = within kind m.slot (slice_get_within line.tickets m.slot f.0 (is m.slot stands)) in
            ap (λ vs. get_or vs m.slot d) (filled kind) ∙ get_or_append_left (values_of kind line) _ d m.slot inside ∙ m.values kind from at d;
      }
