-- A search of the seats of a user, and of those of a lane.
use Rattle.std.proofs.Common.{◌≡◌, ◌≢◌, ℕ, ◌+◌, ◌<◌, ◌≤◌, ◌⊎◌, inl, inr, ⊎_elim, Bool, true, false, cond, List, [], ◌∷◌, get_or, length, min, Option, Some, None, IsSome, is_some, nat_eq, refl, sym, ap, subst, ◌∙◌, arith, true≢false}
use Rattle.std.specs.Map.{lookup}
use Rattle.std.specs.Option.{option_map_or}
use Rattle.std.proofs.lemmas.Bool.{cases_lt}
use Rattle.std.proofs.lemmas.Bool.Decides.{nat_tests}
use Rattle.std.proofs.lemmas.Option.{same_Some, none-some, slice_get_within}
use Rattle.ynl_lanes.specs.firsts.Firsts.{IsFirst, NonePasses}
use Rattle.ynl_resource.specs.declared.amounts.Resource.{Resource}
use Rattle.ynl_lanes.specs.lows.Lows.{no_size}
use Rattle.ynl_lanes.specs.declared.lane.kinds.Kind.{Kind}
use Rattle.ynl_lanes.specs.declared.lane.kinds.Kind.TheVariants.{Master, Ask}
use Rattle.ynl_lanes.specs.declared.lane.levels.Level.TheVariants.{Lane, User}
use Rattle.ynl_lanes.specs.declared.lane.rows.SeatRow.{SeatRow}
use Rattle.ynl_lanes.specs.declared.lane.rows.UserRow.{UserRow}
use Rattle.ynl_lanes.specs.declared.lane.rows.Rows.{Rows}
use Rattle.ynl_lanes.specs.lane.Levels.{slot_in, IsBefore, AreOrdered, AreIn}
use Rattle.ynl_lanes.specs.lane.Lines.{values_of, IsLine}
use Rattle.ynl_lanes.specs.lane.Found.{EachSeat, IsSeatAt}
use Rattle.ynl_lanes.specs.lane.Rows.{own_values, waits_in, IsSeated}
use Rattle.ynl_lanes.specs.lane.Search.{NoneBefore, IsFirstGiven, IsOwn}
use Rattle.ynl_lanes.proofs.lane.Lists.{all_lookup, all_both}
use Rattle.ynl_lanes.proofs.lane.Found.{in_line-at, one_at}

-- the slot of a user's seat in the user's line
pub own_slot-in : (user : ℕ) (row : SeatRow) → row.user ≡ user → slot_in (User user) row ≡ Some row.own_slot
own_slot-in user row is =
    let met : nat_eq row.user user ≡ true = grind (arith, nat_tests) in
    ap (λ (b : Bool). let o : Option ℕ = cond b (Some row.own_slot) None in o) met

-- and a seat that stands there is the user's
pub own_slot-of : (user slot : ℕ) (row : SeatRow) → slot_in (User user) row ≡ Some slot → (row.user ≡ user) × (row.own_slot ≡ slot)
own_slot-of user slot row at = go (nat_eq row.user user) refl at
  where
    go : (b : Bool) → nat_eq row.user user ≡ b → cond b (Some row.own_slot) None ≡ Some slot → (row.user ≡ user) × (row.own_slot ≡ slot)
    go true q is = (grind (arith, nat_tests), same_Some _ _ is)
    go false q is = absurd (none-some slot is)

-- of two seats in order the one that is not before the other is it or behind it
pub order_of : (R : ℕ × SeatRow → ℕ × SeatRow → Type 0) (m n : ℕ) (row other : SeatRow) (es : List (ℕ × SeatRow)) → AreOrdered R es → lookup (nat_eq m) es ≡ Some row → lookup (nat_eq n) es ≡ Some other → (m ≡ n) ⊎ (R (m, row) (n, other) ⊎ R (n, other) (m, row))
order_of R m n row other [] h found there = absurd (none-some row found)
order_of R m n row other (e ∷ es) h found there = go (nat_eq m e.0) refl (nat_eq n e.0) refl found there (λ f t. order_of R m n row other es h.1 f t)
  where
    at : (k : ℕ) (x : SeatRow) → nat_eq k e.0 ≡ true → Some e.1 ≡ Some x → ◌≡◌ {A = ℕ × SeatRow} (k, x) e
    at k x q is =
        let here : k ≡ e.0 = grind (arith, nat_tests) in
        let same : e.1 ≡ x = same_Some _ _ is in
        λ i. (here i, sym same i)

    go : (a : Bool) → nat_eq m e.0 ≡ a → (b : Bool) → nat_eq n e.0 ≡ b → cond a (Some e.1) (lookup (nat_eq m) es) ≡ Some row → cond b (Some e.1) (lookup (nat_eq n) es) ≡ Some other
        → (lookup (nat_eq m) es ≡ Some row → lookup (nat_eq n) es ≡ Some other → (m ≡ n) ⊎ (R (m, row) (n, other) ⊎ R (n, other) (m, row))) → (m ≡ n) ⊎ (R (m, row) (n, other) ⊎ R (n, other) (m, row))
    go true p true q f t later = inl (grind (arith, nat_tests))
    go true p false q f t later = inr (inl (subst (λ (x : ℕ × SeatRow). R x (n, other)) (sym (at m row p f)) (all_lookup (R e) n other es h.0 t)))
    go false p true q f t later = inr (inr (subst (λ (x : ℕ × SeatRow). R x (m, row)) (sym (at n other q t)) (all_lookup (R e) m row es h.0 f)))
    go false p false q f t later = later f t

-- in the lane, and in the line of a user
abbrev AreBefore : ℕ → ℕ × SeatRow → ℕ × SeatRow → Type 0
AreBefore user e f = IsBefore Lane e f × IsBefore (User user) e f

both_ordered : (user : ℕ) (es : List (ℕ × SeatRow)) → AreOrdered (IsBefore Lane) es → AreOrdered (IsBefore (User user)) es → AreOrdered (AreBefore user) es
both_ordered user [] h k = tt
both_ordered user (e ∷ es) h k = (all_both (IsBefore Lane e) (IsBefore (User user) e) (AreBefore user e) (λ f p q. (p, q)) es h.0 k.0, both_ordered user es h.1 k.1)

-- a search of a user's seats has passed over all before a slot of the user's line
abbrev pub HasPassed : {F : Type 0} → Rows → ℕ → Kind → (Resource → Type 0) → (ℕ → Option F) → ℕ → ℕ → Type 0
HasPassed rows user kind passes gives limit from = EachSeat (λ _ seat. IsOwn rows.users.entries user kind passes seat → IsSome (gives seat.app) → (limit ≤ seat.slot) ⊎ (from ≤ seat.own_slot)) rows.seats.entries

module _ (rows : Rows) (seated : IsSeated rows) where
  -- a user's seat that is not before another in the user's line is not before it in the lane
  pub own_order : (user m n : ℕ) (row other : SeatRow) → lookup (nat_eq m) rows.seats.entries ≡ Some row → lookup (nat_eq n) rows.seats.entries ≡ Some other → row.user ≡ user → other.user ≡ user → row.own_slot ≤ other.own_slot → row.slot ≤ other.slot
  own_order user m n row other found there is also le = go (order_of (AreBefore user) m n row other rows.seats.entries (both_ordered user rows.seats.entries (seated.lines Lane).ordered (seated.lines (User user)).ordered) found there)
    where
      go : (m ≡ n) ⊎ (AreBefore user (m, row) (n, other) ⊎ AreBefore user (n, other) (m, row)) → row.slot ≤ other.slot
      go (inl same) = (let is : row ≡ other = same_Some _ _ (sym found ∙ ap (λ k. lookup (nat_eq k) rows.seats.entries) same ∙ there) in let slots : row.slot ≡ other.slot = ap (λ (x : SeatRow). x.slot) is in omega (arith, slots))
      go (inr (inl before)) = (let lt : row.slot < other.slot = before.0 row.slot other.slot refl refl in omega (arith, lt))
      go (inr (inr behind)) = absurd (let lt : other.own_slot < row.own_slot = behind.1 other.own_slot row.own_slot (own_slot-in user other also) (own_slot-in user row is) in omega (arith, lt, le))

  -- the user's line, where the row is known
  pub own_line : (user : ℕ) (row : UserRow) → lookup (nat_eq user) rows.users.entries ≡ Some row → IsLine row.line × AreIn (User user) row.line.tickets rows.seats.entries
  own_line user row found = (
    (seated.users user row found).line,
    subst (λ ts. AreIn (User user) ts rows.seats.entries) (ap (λ o. option_map_or (λ (r : UserRow). r.line.tickets) o []) found) (seated.lines (User user)),
  )

  -- what waits at a user's seat stands in the line
  pub own_value : (kind : Kind) (user : ℕ) (row : UserRow) → lookup (nat_eq user) rows.users.entries ≡ Some row → (n : ℕ) (seat : SeatRow) → lookup (nat_eq n) rows.seats.entries ≡ Some seat → seat.user ≡ user
      → (seat.own_slot < length (values_of kind row.line)) × (get_or (values_of kind row.line) seat.own_slot no_size ≡ waits_in kind rows.users.entries seat)
  own_value kind user row found n seat there is =
      let line = own_line user row found in
      let inside : seat.own_slot < length row.line.tickets = slice_get_within row.line.tickets seat.own_slot n (in_line-at (User user) row.line.tickets rows.seats.entries n seat.own_slot seat line.1 there (own_slot-in user seat is)) in
      let values : own_values kind seat.user rows.users.entries ≡ values_of kind row.line = ap (λ k. own_values kind k rows.users.entries) is ∙ ap (λ o. option_map_or (λ (r : UserRow). values_of kind r.line) o []) found in
      (within kind inside line.0, ap (λ vs. get_or vs seat.own_slot no_size) (sym values))
    where
      within : (kind : Kind) → seat.own_slot < length row.line.tickets → IsLine row.line → seat.own_slot < length (values_of kind row.line)
      within Master i l = omega (arith, i, l.masters)
      within Ask i l = omega (arith, i, l.asks)

  -- a search of a user's seats, up to a slot of the user's line
  module _ {F : Type 0} (user : ℕ) (kind : Kind) (passes : Resource → Type 0) (gives : ℕ → Option F) (limit : ℕ) where
    module _ (row : UserRow) (found : lookup (nat_eq user) rows.users.entries ≡ Some row) where
      -- no value passes any more
      pub own_none : (from : ℕ) → NonePasses passes (values_of kind row.line) from → HasPassed rows user kind passes gives limit from → NoneBefore (IsOwn rows.users.entries user kind passes) gives rows.seats.entries limit
      own_none from none passed n seat there own given = ⊎_elim (λ low. low) (λ on. absurd (
          let value = own_value kind user row found n seat there own.own in
          none seat.own_slot no_size on value.0 (subst passes (sym value.1) own.fits))) (passed n seat there own given)

      -- the first value that passes
      beyond : (from slot : ℕ) → IsFirst passes (values_of kind row.line) from slot → HasPassed rows user kind passes gives limit from → HasPassed rows user kind passes gives limit slot
      beyond from slot first passed n seat there own given = ⊎_elim (λ low. inl low) (λ on. inr (go on (cases_lt seat.own_slot slot))) (passed n seat there own given)
        where
          go : from ≤ seat.own_slot → (seat.own_slot < slot) ⊎ (slot ≤ seat.own_slot) → slot ≤ seat.own_slot
          go on (inl before) = absurd (
              let value = own_value kind user row found n seat there own.own in
              first.before seat.own_slot no_size on before (subst passes (sym value.1) own.fits))
          go on (inr behind) = behind

      -- no seat of the user stands there, or one whose application is given nothing
      pub own_over : (from slot : ℕ) → IsFirst passes (values_of kind row.line) from slot → HasPassed rows user kind passes gives limit from → EachSeat (λ _ seat. slot_in (User user) seat ≡ Some slot → IsSome (gives seat.app) → ⊥) rows.seats.entries → HasPassed rows user kind passes gives limit (slot + 1)
      own_over from slot first passed away n seat there own given = ⊎_elim (λ low. inl low) (λ on. inr (
          let other : seat.own_slot ≢ slot = λ same. away n seat there (own_slot-in user seat own.own ∙ ap Some same) given in
          omega (arith, on, other))) (beyond from slot first passed n seat there own given)

      -- a seat of the user stands there, and none is before it
      pub own_behind : (from slot : ℕ) → IsFirst passes (values_of kind row.line) from slot → HasPassed rows user kind passes gives limit from → (m : ℕ) (at : SeatRow) → IsSeatAt (User user) slot rows.seats.entries m at → NoneBefore (IsOwn rows.users.entries user kind passes) gives rows.seats.entries (min limit at.slot)
      own_behind from slot first passed m at is n seat there own given = ⊎_elim (λ low. omega (arith, low)) (λ on. (
          let stands = own_slot-of user slot at is.at in
          let le : at.slot ≤ seat.slot = own_order user m n at seat is.found there stands.0 own.own (omega (arith, on, stands.1)) in
          omega (arith, le))) (beyond from slot first passed n seat there own given)

      -- and its application is given something
      pub own_found : (from slot : ℕ) → IsFirst passes (values_of kind row.line) from slot → HasPassed rows user kind passes gives limit from → (m : ℕ) (at : SeatRow) → IsSeatAt (User user) slot rows.seats.entries m at → at.slot < limit → (given : F) → gives at.app ≡ Some given
          → IsFirstGiven (IsOwn rows.users.entries user kind passes) gives rows.seats.entries limit (record { ticket = m; slot = at.slot; given = given })
      own_found from slot first passed m at is before given gets =
          let stands = own_slot-of user slot at is.at in
          let value = own_value kind user row found m at is.found stands.0 in
          record {
            row = at;
            there = is.found;
            at = refl;
            before = before;
            here = record { own = stands.0; fits = subst passes (ap (λ n. get_or (values_of kind row.line) n no_size) (sym stands.1) ∙ value.1) (first.passes no_size) };
            given = gets;
            first = λ n seat there own some. (let least = own_behind from slot first passed m at is n seat there own some in omega (arith, least, before));
          }

      -- the line has no more seats
      pub own_past : (from slot : ℕ) → IsFirst passes (values_of kind row.line) from slot → HasPassed rows user kind passes gives limit from → length row.line.tickets ≤ slot → NoneBefore (IsOwn rows.users.entries user kind passes) gives rows.seats.entries limit
      own_past from slot first passed past n seat there own given = ⊎_elim (λ low. low) (λ on. absurd (
          let inside : seat.own_slot < length row.line.tickets = slice_get_within row.line.tickets seat.own_slot n (in_line-at (User user) row.line.tickets rows.seats.entries n seat.own_slot seat (own_line user row found).1 there (own_slot-in user seat own.own)) in
          omega (arith, on, past, inside))) (beyond from slot first passed n seat there own given)

      -- the application of the seat that stands there is given nothing
      pub own_nothing : (slot m : ℕ) (at : SeatRow) → IsSeatAt (User user) slot rows.seats.entries m at → gives at.app ≡ None → EachSeat (λ _ seat. slot_in (User user) seat ≡ Some slot → IsSome (gives seat.app) → ⊥) rows.seats.entries
      own_nothing slot m at is nothing n seat there stands given =
          let same = one_at (User user) row.line.tickets rows.seats.entries n m slot seat at (own_line user row found).1 there stands is.found is.at in
          let none : gives seat.app ≡ None = ap (λ (x : SeatRow). gives x.app) same.1 ∙ nothing in
          true≢false (sym given ∙ ap is_some none)
