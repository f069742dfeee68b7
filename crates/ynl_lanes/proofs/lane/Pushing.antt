-- What is kept of the rows where a seat comes.
use Rattle.std.proofs.Common.{◌≡◌, ◌≢◌, ℕ, zero, suc, ◌+◌, ◌<◌, ⊎_elim, Bool, false, cond, List, [], ◌∷◌, ◌++◌, get_or, set, length, Option, Some, None, option_map, nat_eq, refl, sym, ap, subst, ◌∙◌, arith, length-append, length-set, get_or-set_same, get_or-set_other}
use Rattle.std.specs.List.{slice_get}
use Rattle.std.specs.Map.{lookup}
use Rattle.std.specs.Option.{option_map_or}
use Rattle.std.proofs.lemmas.Bool.{cases_eq}
use Rattle.std.proofs.lemmas.Bool.Decides.{nat_tests}
use Rattle.std.proofs.lemmas.Option.{same_Some, none-some, slice_get_within}
use Rattle.ynl_resource.specs.Amounts.{nothing}
use Rattle.ynl_slots.specs.Slots.{IsUnused, HasDistinctNumbers, with_row}
use Rattle.ynl_lanes.specs.lows.Lows.{no_size}
use Rattle.ynl_lanes.specs.lows.Order.{below-refl}
use Rattle.ynl_lanes.specs.lows.Users.{no_user, IsBelowRequest}
use Rattle.ynl_lanes.specs.declared.lane.kinds.Kind.{Kind}
use Rattle.ynl_lanes.specs.declared.lane.kinds.Kind.TheVariants.{Master, Ask}
use Rattle.ynl_lanes.specs.declared.lane.levels.Level.{Level}
use Rattle.ynl_lanes.specs.declared.lane.levels.Level.TheVariants.{Lane, User}
use Rattle.ynl_lanes.specs.declared.lane.rows.SeatRow.{SeatRow}
use Rattle.ynl_lanes.specs.declared.lane.rows.UserRow.{UserRow}
use Rattle.ynl_lanes.specs.declared.lane.rows.Rows.{Rows}
use Rattle.ynl_lanes.specs.lane.Changes.{IsOwnRoom, KeepWaits, PushesOwn, shown, ShowsOther}
use Rattle.ynl_lanes.specs.lane.Kinds.{of_kind}
use Rattle.ynl_lanes.specs.lane.Levels.{slot_in, IsIn, IsBefore, AreIn}
use Rattle.ynl_lanes.specs.lane.Lines.{values_of, HasRoom}
use Rattle.ynl_lanes.specs.lane.Found.{EachSeat}
use Rattle.ynl_lanes.specs.lane.Seats.{nothing_waits}
use Rattle.ynl_lanes.specs.lane.Rows.{own_tickets, own_values, used_by, waits_in, tickets_in, EachUser, IsUse, IsUserRow, IsSeated, IsStood, AreStood, IsKept}
use Rattle.ynl_lanes.specs.lane.Waiting.{IsWaiting}
use Rattle.ynl_lanes.proofs.lane.Lists.{all_then, all_append, ordered_push, found_written, found_other, found_pushed, each_pushed, distinct_pushed}
use Rattle.ynl_lanes.proofs.lane.Found.{in_line-at}
use Rattle.ynl_lanes.proofs.lane.Searching.{own_slot-in, own_line}
use Rattle.ynl_lanes.proofs.lane.Changing.{of_written, of_other, users_written}

slice_get-front : {X : Type 0} (xs ys : List X) (i : ℕ) (x : X) → slice_get xs i ≡ Some x → slice_get (xs ++ ys) i ≡ Some x
slice_get-front [] ys i x h = absurd (none-some x h)
slice_get-front (y ∷ xs) ys zero x h = h
slice_get-front (y ∷ xs) ys (suc i) x h = slice_get-front xs ys i x h

slice_get-last : {X : Type 0} (xs : List X) (x : X) → slice_get (xs ++ x ∷ []) (length xs) ≡ Some x
slice_get-last [] x = refl
slice_get-last (y ∷ xs) x = slice_get-last xs x

-- a seat comes last in a line, or does not stand in it
in_pushed : (level : Level) (tickets : List ℕ) (ticket : ℕ) (row : SeatRow) (seats : List (ℕ × SeatRow)) → AreIn level tickets seats → slot_in level row ≡ Some (length tickets) → AreIn level (tickets ++ ticket ∷ []) (seats ++ (ticket, row) ∷ [])
in_pushed level tickets ticket row seats h at = record {
  in_line = all_append (IsIn level (tickets ++ ticket ∷ [])) seats ((ticket, row) ∷ [])
      (all_then (IsIn level tickets) (IsIn level (tickets ++ ticket ∷ [])) (λ e is slot there. slice_get-front tickets (ticket ∷ []) slot e.0 (is slot there)) seats h.in_line)
      ((λ slot there. (let same : length tickets ≡ slot = same_Some _ _ (sym at ∙ there) in ap (slice_get (tickets ++ ticket ∷ [])) (sym same) ∙ slice_get-last tickets ticket)), tt);
  ordered = ordered_push (IsBefore level) seats (ticket, row) h.ordered
      (all_then (IsIn level tickets) (λ e. IsBefore level e (ticket, row)) (λ e is m n there here. (
      let inside : m < length tickets = slice_get_within tickets m e.0 (is m there) in
      let last : length tickets ≡ n = same_Some _ _ (sym at ∙ here) in
      omega (arith, inside, last))) seats h.in_line);
}

in_pushed_away : (level : Level) (tickets : List ℕ) (ticket : ℕ) (row : SeatRow) (seats : List (ℕ × SeatRow)) → AreIn level tickets seats → slot_in level row ≡ None → AreIn level tickets (seats ++ (ticket, row) ∷ [])
in_pushed_away level tickets ticket row seats h away = record {
  in_line = all_append (IsIn level tickets) seats ((ticket, row) ∷ []) h.in_line ((λ slot there. absurd (none-some slot (sym away ∙ there))), tt);
  ordered = ordered_push (IsBefore level) seats (ticket, row) h.ordered (all_then (IsIn level tickets) (λ e. IsBefore level e (ticket, row)) (λ e is m n there here. absurd (none-some n (sym away ∙ here))) seats h.in_line);
}

pub not_waiting : ¬ (IsWaiting no_size)
not_waiting h = h (below-refl no_size)

pub none_of : (kind : Kind) → of_kind kind nothing_waits ≡ no_size
none_of Master = refl
none_of Ask = refl

module _ (rows new : Rows) (kept : IsKept rows) (app user ticket : ℕ) (unused : IsUnused ticket rows.seats.entries) (room : HasRoom rows.line) (own_room : IsOwnRoom user rows.users.entries) (pushes : PushesOwn user ticket rows.users.entries new.users.entries) (row : SeatRow)
    (user_is : row.user ≡ user) (slot_is : row.slot ≡ length rows.line.tickets) (own_is : row.own_slot ≡ length pushes.row.line.tickets)
    (seats : new.seats.entries ≡ rows.seats.entries ++ (ticket, row) ∷ []) (tickets : new.line.tickets ≡ rows.line.tickets ++ ticket ∷ [])
    (masters : new.line.masters ≡ set rows.line.masters (length rows.line.tickets) no_user) (asks : new.line.asks ≡ set rows.line.asks (length rows.line.tickets) no_user) where
  own_new : own_tickets user new.users.entries ≡ pushes.row.line.tickets ++ ticket ∷ []
  own_new = ap (own_tickets user) pushes.entries ∙ of_written (λ (r : UserRow). r.line.tickets) [] user pushes.row pushes.next rows.users.entries pushes.found ∙ pushes.tickets

  lane_values : (kind : Kind) → values_of kind new.line ≡ set (values_of kind rows.line) (length rows.line.tickets) no_user
  lane_values Master = masters
  lane_values Ask = asks

  next_values : (kind : Kind) → values_of kind pushes.next.line ≡ set (values_of kind pushes.row.line) (length pushes.row.line.tickets) no_size
  next_values Master = pushes.masters
  next_values Ask = pushes.asks

  own_values_new : (kind : Kind) → own_values kind user new.users.entries ≡ set (values_of kind pushes.row.line) (length pushes.row.line.tickets) no_size
  own_values_new kind = ap (own_values kind user) pushes.entries ∙ of_written (λ (r : UserRow). values_of kind r.line) [] user pushes.row pushes.next rows.users.entries pushes.found ∙ next_values kind

  own_inside : (kind : Kind) → length pushes.row.line.tickets < length (values_of kind pushes.row.line)
  own_inside Master = (own_room pushes.row pushes.found).0.masters
  own_inside Ask = (own_room pushes.row pushes.found).0.asks

  waits_here : (kind : Kind) → waits_in kind new.users.entries row ≡ no_size
  waits_here kind =
      ap (λ k. get_or (own_values kind k new.users.entries) row.own_slot no_size) user_is ∙ ap (λ n. get_or (own_values kind user new.users.entries) n no_size) own_is
      ∙ ap (λ vs. get_or vs (length pushes.row.line.tickets) no_size) (own_values_new kind) ∙ get_or-set_same (values_of kind pushes.row.line) (length pushes.row.line.tickets) no_size no_size (own_inside kind)

  waits_there : KeepWaits rows.users.entries new.users.entries rows.seats.entries
  waits_there n x there kind = ⊎_elim own other (cases_eq x.user user)
    where
      own : x.user ≡ user → waits_in kind new.users.entries x ≡ waits_in kind rows.users.entries x
      own same =
          let line = own_line rows kept.seated user pushes.row pushes.found in
          let inside : x.own_slot < length pushes.row.line.tickets = slice_get_within pushes.row.line.tickets x.own_slot n (in_line-at (User user) pushes.row.line.tickets rows.seats.entries n x.own_slot x line.1 there (own_slot-in user x same)) in
          let away : x.own_slot ≢ length pushes.row.line.tickets = λ is. omega (arith, inside, is) in
          ap (λ k. get_or (own_values kind k new.users.entries) x.own_slot no_size) same ∙ ap (λ vs. get_or vs x.own_slot no_size) (own_values_new kind)
          ∙ get_or-set_other (values_of kind pushes.row.line) (length pushes.row.line.tickets) x.own_slot no_size no_size away
          ∙ ap (λ vs. get_or vs x.own_slot no_size) (sym (ap (λ o. option_map_or (λ (r : UserRow). values_of kind r.line) o []) pushes.found)) ∙ ap (λ k. get_or (own_values kind k rows.users.entries) x.own_slot no_size) (sym same)

      other : x.user ≢ user → waits_in kind new.users.entries x ≡ waits_in kind rows.users.entries x
      other away = ap (λ vs. get_or vs x.own_slot no_size) (ap (own_values kind x.user) pushes.entries ∙ of_other (λ (r : UserRow). values_of kind r.line) [] x.user user pushes.next rows.users.entries away)

  same_used : (other : ℕ) → used_by other new.users.entries ≡ used_by other rows.users.entries
  same_used other = ap (used_by other) pushes.entries ∙ ⊎_elim
      (λ same. ap (λ k. used_by k (with_row user pushes.next rows.users.entries)) same ∙ of_written (λ (r : UserRow). r.used) nothing user pushes.row pushes.next rows.users.entries pushes.found ∙ pushes.used ∙ sym (ap (λ o. option_map_or (λ (r : UserRow). r.used) o nothing) pushes.found) ∙ ap (λ k. used_by k rows.users.entries) (sym same))
      (λ apart. of_other (λ (r : UserRow). r.used) nothing other user pushes.next rows.users.entries apart)
      (cases_eq other user)

  seated_pushed : IsSeated new
  seated_pushed = record {
    distinct = subst HasDistinctNumbers (sym seats) (distinct_pushed ticket row rows.seats.entries unused kept.seated.distinct);
    lines = lines;
    line = record {
      small = (let n = ap length tickets ∙ length-append rows.line.tickets (ticket ∷ []) in let s = room.small in omega (arith, n, s));
      masters = (let n = ap length tickets ∙ length-append rows.line.tickets (ticket ∷ []) in let m = ap length masters ∙ length-set rows.line.masters (length rows.line.tickets) no_user in let s = room.masters in omega (arith, n, m, s));
      asks = (let n = ap length tickets ∙ length-append rows.line.tickets (ticket ∷ []) in let m = ap length asks ∙ length-set rows.line.asks (length rows.line.tickets) no_user in let s = room.asks in omega (arith, n, m, s));
    };
    users = subst (EachUser IsUserRow) (sym pushes.entries) (users_written user pushes.row pushes.next rows.users.entries pushes.found own_row kept.seated.users);
  }
    where
      own_row : IsUserRow user pushes.next
      own_row =
          let r = (own_room pushes.row pushes.found).0 in
          let n = ap length pushes.tickets ∙ length-append pushes.row.line.tickets (ticket ∷ []) in
          record {
            line = record {
              small = (let s = r.small in omega (arith, n, s));
              masters = (let m = ap length pushes.masters ∙ length-set pushes.row.line.masters (length pushes.row.line.tickets) no_size in let s = r.masters in omega (arith, n, m, s));
              asks = (let m = ap length pushes.asks ∙ length-set pushes.row.line.asks (length pushes.row.line.tickets) no_size in let s = r.asks in omega (arith, n, m, s));
            };
            small = subst IsUse (sym pushes.used) (kept.seated.users user pushes.row pushes.found).small;
          }

      in_user : (other : ℕ) → AreIn (User other) (own_tickets other new.users.entries) (rows.seats.entries ++ (ticket, row) ∷ [])
      in_user other = ⊎_elim
          (λ same. subst (λ k. AreIn (User k) (own_tickets k new.users.entries) (rows.seats.entries ++ (ticket, row) ∷ [])) (sym same)
          (subst (λ ts. AreIn (User user) ts (rows.seats.entries ++ (ticket, row) ∷ [])) (sym own_new)
          (in_pushed (User user) pushes.row.line.tickets ticket row rows.seats.entries (own_line rows kept.seated user pushes.row pushes.found).1 (own_slot-in user row user_is ∙ ap Some own_is))))
          (λ apart. subst (λ ts. AreIn (User other) ts (rows.seats.entries ++ (ticket, row) ∷ [])) (sym (ap (own_tickets other) pushes.entries ∙ of_other (λ (r : UserRow). r.line.tickets) [] other user pushes.next rows.users.entries apart))
          (in_pushed_away (User other) (own_tickets other rows.users.entries) ticket row rows.seats.entries (kept.seated.lines (User other)) (elsewhere other apart)))
          (cases_eq other user)
        where
          elsewhere : (other : ℕ) → other ≢ user → slot_in (User other) row ≡ None
          elsewhere other apart =
              let away : row.user ≢ other = λ same. apart (sym same ∙ user_is) in
              let missed : nat_eq row.user other ≡ false = grind (arith, nat_tests) in
              ap (λ (b : Bool). let o : Option ℕ = cond b (Some row.own_slot) None in o) missed

      lines : (level : Level) → AreIn level (tickets_in level new) new.seats.entries
      lines Lane = subst (λ ts. AreIn Lane ts new.seats.entries) (sym tickets) (subst (AreIn Lane (rows.line.tickets ++ ticket ∷ [])) (sym seats) (in_pushed Lane rows.line.tickets ticket row rows.seats.entries (kept.seated.lines Lane) (ap Some slot_is)))
      lines (User other) = subst (AreIn (User other) (own_tickets other new.users.entries)) (sym seats) (in_user other)

  stood_pushed : (kind : Kind) → AreStood kind new
  stood_pushed kind =
      subst (λ es. EachSeat (λ _ e. IsWaiting (waits_in kind new.users.entries e) → IsStood kind es new.users.entries (values_of kind new.line) e) es) (sym seats)
      (each_pushed (λ _ e. IsWaiting (waits_in kind rows.users.entries e) → IsStood kind rows.seats.entries rows.users.entries (values_of kind rows.line) e)
      (λ _ e. IsWaiting (waits_in kind new.users.entries e) → IsStood kind (rows.seats.entries ++ (ticket, row) ∷ []) new.users.entries (values_of kind new.line) e)
      ticket row rows.seats.entries unused (λ waiting. absurd (not_waiting (subst IsWaiting (waits_here kind) waiting))) (λ n e there h waiting. others n e there (h (subst IsWaiting (waits_there n e there kind) waiting))) (kept.stood kind))
    where
      others : (n : ℕ) (e : SeatRow) → lookup (nat_eq n) rows.seats.entries ≡ Some e → IsStood kind rows.seats.entries rows.users.entries (values_of kind rows.line) e → IsStood kind (rows.seats.entries ++ (ticket, row) ∷ []) new.users.entries (values_of kind new.line) e
      others n e there h =
          let inside : h.stand.slot < length rows.line.tickets = slice_get_within rows.line.tickets h.stand.slot h.ticket (in_line-at Lane rows.line.tickets rows.seats.entries h.ticket h.stand.slot h.stand (kept.seated.lines Lane) h.found refl) in
          let away : h.stand.slot ≢ length rows.line.tickets = λ is. omega (arith, inside, is) in
          let value = ap (λ vs. get_or vs h.stand.slot no_user) (lane_values kind) ∙ get_or-set_other (values_of kind rows.line) (length rows.line.tickets) h.stand.slot no_user no_user away in
          record {
            ticket = h.ticket;
            stand = h.stand;
            found = found_pushed ticket h.ticket row h.stand rows.seats.entries unused h.found;
            user = h.user;
            waits = subst IsWaiting (sym (waits_there h.ticket h.stand h.found kind)) h.waits;
            front = h.front;
            low = subst (λ v. IsBelowRequest v (used_by e.user new.users.entries) (waits_in kind new.users.entries e)) (sym value)
                (subst (λ u. IsBelowRequest (get_or (values_of kind rows.line) h.stand.slot no_user) u (waits_in kind new.users.entries e)) (sym (same_used e.user))
                (subst (IsBelowRequest (get_or (values_of kind rows.line) h.stand.slot no_user) (used_by e.user rows.users.entries)) (sym (waits_there n e there kind)) h.low));
          }

  kept_pushed : IsKept new
  kept_pushed = record { seated = seated_pushed; stood = stood_pushed }

  shown_pushed : ShowsOther user (λ s. record s { live = s.live + 1 }) rows.users.entries new.users.entries
  shown_pushed = record {
    own = ap (λ us. option_map shown (lookup (nat_eq user) us)) pushes.entries ∙ ap (option_map shown) (found_written user pushes.next pushes.row rows.users.entries pushes.found) ∙ ap Some (λ i. record { user = pushes.user_is i; used = pushes.used i; live = pushes.live i }) ∙ sym (ap (option_map (λ r. record (shown r) { live = r.live + 1 })) pushes.found);
    others = λ other apart. ap (λ us. option_map shown (lookup (nat_eq other) us)) pushes.entries ∙ ap (option_map shown) (found_other other user pushes.next rows.users.entries apart);
  }

  -- the new seat at which nothing waits, and what waits at the others
  pub record Pushed : Type 0 where
    pub stays : IsKept new
    pub users : ShowsOther user (λ s. record s { live = s.live + 1 }) rows.users.entries new.users.entries
    pub none : (kind : Kind) → waits_in kind new.users.entries row ≡ no_size
    pub waits : KeepWaits rows.users.entries new.users.entries rows.seats.entries

  pub pushed : Pushed
  pushed = record { stays = kept_pushed; users = shown_pushed; none = waits_here; waits = waits_there }
