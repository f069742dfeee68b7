-- What a lane keeps of its users from change to change.
use Rattle.std.proofs.Common.{◌≡◌, ◌≢◌, ℕ, ◌+◌, ◌-◌, ◌^◌, ◌<◌, ⊎_elim, Bool, true, false, cond, not, List, [], ◌∷◌, ◌++◌, map, Option, Some, None, option_map, IfSome, Result, Ok, Err, IfOk, OnErr, is_some, nat_eq, refl, sym, ap, subst, ◌∙◌, arith, true≢false}
use Rattle.std.specs.List.{AllByRecursion}
use Rattle.std.specs.Map.{lookup}
use Rattle.std.specs.Option.{option_map_or}
use Rattle.std.proofs.lemmas.Bool.{cases_eq}
use Rattle.std.proofs.lemmas.Bool.Decides.{nat_tests}
use Rattle.std.proofs.lemmas.Option.{same_Some, none-some}
use Rattle.std.proofs.lemmas.List.{map-append}
use Rattle.ynl_resource.specs.declared.amounts.Resource.{Resource}
use Rattle.ynl_resource.specs.Amounts.{nothing}
use Rattle.ynl_slots.specs.Slots.{IsUnused, IsLive, without}
use Rattle.ynl_lanes.specs.lows.Lows.{no_size}
use Rattle.ynl_lanes.specs.declared.lane.kinds.Both.{Both}
use Rattle.ynl_lanes.specs.declared.lane.kinds.Kind.{Kind}
use Rattle.ynl_lanes.specs.declared.lane.kinds.Kind.TheVariants.{Master, Ask}
use Rattle.ynl_lanes.specs.declared.lane.rows.SeatRow.{SeatRow}
use Rattle.ynl_lanes.specs.declared.lane.rows.UserRow.{UserRow}
use Rattle.ynl_lanes.specs.declared.lane.rows.Rows.{Rows}
use Rattle.ynl_lanes.specs.lane.Changes.{IsOwnRoom, Shown, shown, ShowSame, ShowsOther, SetsWaits, KeepWaits, PushesSeat}
use Rattle.ynl_lanes.specs.lane.Fields.{IsReady, ok_of, user_by, seat_of, count_of, AreKeyed, IsUserOf, AreUsersOf, Opens}
use Rattle.ynl_lanes.specs.lane.Found.{EachSeat}
use Rattle.ynl_lanes.specs.lane.Levels.{ArePairs}
use Rattle.ynl_lanes.specs.lane.Lines.{HasRoom}
use Rattle.ynl_lanes.specs.lane.Rooms.{IsSameSeat}
use Rattle.ynl_lanes.specs.lane.Rows.{used_by, waits_in, IsKept}
use Rattle.ynl_lanes.specs.lane.Seats.{Seat, nothing_waits, with_waits, used_at, Adds}
use Rattle.ynl_lanes.proofs.lane.Found.{all_from_each}
use Rattle.ynl_lanes.proofs.lane.Lists.{all_lookup, all_then, each_pushed, found_pushed, last_found, was_without, same_without}
use Rattle.ynl_lanes.proofs.lane.Standing.{user_live}
use Rattle.ynl_lanes.proofs.lane.Opening.{no_seat_of}
use Rattle.ynl_lanes.proofs.lane.Pushing.{none_of}
use Rattle.ynl_lanes.proofs.lane.Showing.{shown_row, shows_as, waits_as, both_as, seat_as, map_as, count_pushed, count_pairs, count_none, count_without}
use Rattle.ynl_lanes.proofs.lane.Views.{seat_live, view_entered, view_pairs, view_without, used_first, user_as, users_as, HaveRows}

-- each user is found
pub keyed_of : (numbers : ℕ → Option ℕ) (ready : Option ℕ) (seats : List (ℕ × SeatRow)) (users : List (ℕ × UserRow)) → AreUsersOf numbers ready seats users → AreKeyed numbers users
keyed_of numbers ready seats users h n row there = (h n row there).keyed

-- a seat that a contract sees has a row
pub live_shown : (users : List (ℕ × UserRow)) (ticket : ℕ) (seats : List (ℕ × SeatRow)) (seen : List (ℕ × Seat)) → map (seat_of users) seats ≡ seen → is_some (lookup (nat_eq ticket) seen) ≡ true → IsLive ticket seats
live_shown users ticket seats seen is h = seat_live users ticket seats (ap (λ s. is_some (lookup (nat_eq ticket) s)) is ∙ h)

-- there is no room for any user's next seat
pub none_ready : {X Y : Type 0} (f : X → Y) (P : X → Type 0) (ready : Option X) → option_map f ready ≡ None → IfSome ready P
none_ready f P None h = tt
none_ready f P (Some x) h = absurd (none-some (f x) (sym h))

pub is_none : {X Y : Type 0} (f : X → Y) (ready : Option X) → option_map f ready ≡ None → ready ≡ None
is_none f None h = refl
is_none f (Some x) h = absurd (none-some (f x) (sym h))

-- no seat of the user is counted
pub count_zero : (user : ℕ) (seats : List (ℕ × SeatRow)) → AllByRecursion (λ e. e.1.user ≢ user) seats → count_of user seats ≡ 0
count_zero user [] h = refl
count_zero user (e ∷ seats) h =
    let apart : user ≢ e.1.user = λ same. h.0 (sym same) in
    let missed : nat_eq user e.1.user ≡ false = grind (arith, nat_tests) in
    let rest = count_zero user seats h.1 in
    ap (λ (b : Bool). let n : ℕ = cond b 1 0 + count_of user seats in n) missed ∙ (let zero : 0 + count_of user seats ≡ 0 = omega (arith, rest) in zero)

pub none_of_count : (user : ℕ) (seats : List (ℕ × SeatRow)) → count_of user seats ≡ 0 → EachSeat (λ _ row. row.user ≢ user) seats
none_of_count user seats zero n row there = all_lookup (λ e. e.1.user ≢ user) n row seats (count_none user seats zero) there

-- the users of a lane's seats have rows
pub have_rows : (rows : Rows) → IsKept rows → HaveRows rows.users.entries rows.seats.entries
have_rows rows kept = all_from_each (λ e. (row : UserRow) × (lookup (nat_eq e.1.user) rows.users.entries ≡ Some row)) rows.seats.entries kept.seated.distinct
    (λ n e there. go e (lookup (nat_eq e.user) rows.users.entries) refl (user_live rows kept.seated n e there))
  where
    go : (e : SeatRow) (o : Option UserRow) → lookup (nat_eq e.user) rows.users.entries ≡ o → is_some (lookup (nat_eq e.user) rows.users.entries) ≡ true → (row : UserRow) × (lookup (nat_eq e.user) rows.users.entries ≡ Some row)
    go e None q live = absurd (true≢false (sym live ∙ ap is_some q))
    go e (Some row) q live = (row, q)

-- other things wait at a seat
module _ (numbers : ℕ → Option ℕ) (ready : Option ℕ) (rows new : Rows) (kept : IsKept rows) (seats : new.seats ≡ rows.seats) (ticket : ℕ) (waits : Both Resource) (sets : SetsWaits ticket waits rows.seats.entries rows.users.entries new.users.entries) (same : ShowSame rows.users.entries new.users.entries) where
  pub users_entered : AreUsersOf numbers ready rows.seats.entries rows.users.entries → AreUsersOf numbers ready new.seats.entries new.users.entries
  users_entered h = users_as numbers ready rows.seats.entries new.seats.entries rows.users.entries new.users.entries h same (λ user. ap (λ s. count_of user s.entries) seats)

  pub seats_entered : map (seat_of new.users.entries) new.seats.entries ≡ with_waits ticket waits (map (seat_of rows.users.entries) rows.seats.entries)
  seats_entered = ap (λ s. map (seat_of new.users.entries) s.entries) seats ∙ view_entered rows.users.entries new.users.entries ticket waits rows.seats.entries kept.seated.distinct sets same

-- a user is closed who has no seat
module _ (numbers after : ℕ → Option ℕ) (ready : Option ℕ) (user : ℕ) (rows new : Rows) (kept : IsKept rows) (seats : new.seats ≡ rows.seats) (users : new.users.entries ≡ without user rows.users.entries) (keyed : AreKeyed after new.users.entries) where
  pub users_closed : ((n : ℕ) (row : UserRow) → n ≢ user → lookup (nat_eq n) rows.users.entries ≡ Some row → IsUserOf numbers None rows.seats.entries n (shown row)) → AreUsersOf after None new.seats.entries new.users.entries
  users_closed h n row there =
      let was = was_without user n row rows.users.entries (ap (λ us. lookup (nat_eq n) us) (sym users) ∙ there) in
      let known = h n row was.0 was.1 in
      record { keyed = keyed n row there; counted = known.counted ∙ ap (λ s. count_of n s.entries) (sym seats); some = known.some; spare = known.spare }

  pub seats_closed : EachSeat (λ _ row. row.user ≢ user) rows.seats.entries → map (seat_of new.users.entries) new.seats.entries ≡ map (seat_of rows.users.entries) rows.seats.entries
  seats_closed none = ap (λ s. map (seat_of new.users.entries) s.entries) seats ∙ map_as (seat_of new.users.entries) (seat_of rows.users.entries) rows.seats.entries
      (all_from_each (λ e. seat_of new.users.entries e ≡ seat_of rows.users.entries e) rows.seats.entries kept.seated.distinct
      (λ n e there. (let stays = ap (λ us. lookup (nat_eq e.user) us) users ∙ same_without user e.user rows.users.entries (none n e there) in seat_as (n, e) rows.users.entries new.users.entries (ap (option_map shown) stays) (waits_as rows.users.entries new.users.entries e stays))))

-- a user shows the same but for the count of seats
users_counted : (user : ℕ) (count : Shown → ℕ) (old new : List (ℕ × UserRow)) → ShowsOther user (λ s. record s { live = count s }) old new → (other : ℕ) → (user_by other new ≡ user_by other old) × (used_by other new ≡ used_by other old)
users_counted user count old new shows other = ⊎_elim own (λ apart. alike (shows.others other apart)) (cases_eq other user)
  where
    alike : option_map shown (lookup (nat_eq other) new) ≡ option_map shown (lookup (nat_eq other) old) → (user_by other new ≡ user_by other old) × (used_by other new ≡ used_by other old)
    alike same = (shows_as (λ (s : Shown). s.user) 0 other old new same, shows_as (λ (s : Shown). s.used) nothing other old new same)

    own : other ≡ user → (user_by other new ≡ user_by other old) × (used_by other new ≡ used_by other old)
    own same = go (lookup (nat_eq user) old) refl
      where
        go : (o : Option UserRow) → lookup (nat_eq user) old ≡ o → (user_by other new ≡ user_by other old) × (used_by other new ≡ used_by other old)
        go None q = alike (ap (λ u. option_map shown (lookup (nat_eq u) new)) same ∙ shows.own ∙ ap (option_map (λ r. record (shown r) { live = count (shown r) })) q ∙ sym (ap (option_map shown) q) ∙ ap (λ u. option_map shown (lookup (nat_eq u) old)) (sym same))
        go (Some r) q =
            let next = shown_row user (record (shown r) { live = count (shown r) }) new (shows.own ∙ ap (option_map (λ r. record (shown r) { live = count (shown r) })) q) in (
              ap (λ u. user_by u new) same ∙ ap (λ o. option_map_or (λ (r : UserRow). r.user) o 0) next.1 ∙ ap (λ (s : Shown). s.user) next.2 ∙ sym (ap (λ u. user_by u old) same ∙ ap (λ o. option_map_or (λ (r : UserRow). r.user) o 0) q),
              ap (λ u. used_by u new) same ∙ ap (λ o. option_map_or (λ (r : UserRow). r.used) o nothing) next.1 ∙ ap (λ (s : Shown). s.used) next.2 ∙ sym (ap (λ u. used_by u old) same ∙ ap (λ o. option_map_or (λ (r : UserRow). r.used) o nothing) q),
            )

-- so do the seats, where the same waits at them
seats_counted : (user : ℕ) (count : Shown → ℕ) (rows : Rows) (new : List (ℕ × UserRow)) → IsKept rows → ShowsOther user (λ s. record s { live = count s }) rows.users.entries new → KeepWaits rows.users.entries new rows.seats.entries → map (seat_of new) rows.seats.entries ≡ map (seat_of rows.users.entries) rows.seats.entries
seats_counted user count rows new kept shows keeps = map_as (seat_of new) (seat_of rows.users.entries) rows.seats.entries
    (all_from_each (λ e. seat_of new e ≡ seat_of rows.users.entries e) rows.seats.entries kept.seated.distinct (λ n e there. (
    let own = users_counted user count rows.users.entries new shows e.user in
    let waits = both_as rows.users.entries new e e (keeps n e there) in
    λ i. (n, record { app = e.app; user = own.0 i; used = own.1 i; waits = waits i }))))

-- a seat goes
module _ (numbers : ℕ → Option ℕ) (rows new : Rows) (kept : IsKept rows) (ticket : ℕ) (seat : SeatRow) (found : lookup (nat_eq ticket) rows.seats.entries ≡ Some seat) (seats : new.seats.entries ≡ without ticket rows.seats.entries)
    (shows : ShowsOther seat.user (λ s. record s { live = s.live - 1 }) rows.users.entries new.users.entries) (h : AreUsersOf numbers None rows.seats.entries rows.users.entries) where
  counts : (user : ℕ) → count_of user rows.seats.entries ≡ count_of user new.seats.entries + cond (nat_eq user seat.user) 1 0
  counts user = count_without user ticket seat rows.seats.entries kept.seated.distinct found ∙ ap (λ s. count_of user s + cond (nat_eq user seat.user) 1 0) (sym seats)

  pub pulled_other : (n : ℕ) (row : UserRow) → n ≢ seat.user → lookup (nat_eq n) new.users.entries ≡ Some row → IsUserOf numbers None new.seats.entries n (shown row)
  pulled_other n row apart there =
      let own = shown_row n (shown row) rows.users.entries (sym (shows.others n apart) ∙ ap (option_map shown) there) in
      let missed : nat_eq n seat.user ≡ false = grind (arith, nat_tests) in
      let one : cond (nat_eq n seat.user) 1 0 ≡ 0 = ap (λ (b : Bool). let k : ℕ = cond b 1 0 in k) missed in
      let all = counts n in
      user_as numbers numbers None None rows.seats.entries new.seats.entries rows.users.entries new.users.entries h n row (shows.others n apart) there (subst (λ (s : Shown). numbers s.user ≡ Some n) own.2 (h n own.0 own.1).keyed) (λ away. away) (omega (arith, all, one))

  -- what is known of the user, of whom one seat less is counted
  pub record Pulled (row : UserRow) : Type 0 where
    pub keyed : numbers row.user ≡ Some seat.user
    pub counted : row.live ≡ count_of seat.user new.seats.entries

  pub pulled_own : (row : UserRow) → lookup (nat_eq seat.user) new.users.entries ≡ Some row → Pulled row
  pulled_own row there = go (lookup (nat_eq seat.user) rows.users.entries) refl (sym shows.own ∙ ap (option_map shown) there)
    where
      go : (o : Option UserRow) → lookup (nat_eq seat.user) rows.users.entries ≡ o → option_map (λ r. record (shown r) { live = r.live - 1 }) (lookup (nat_eq seat.user) rows.users.entries) ≡ Some (shown row) → Pulled row
      go None q k = absurd (none-some (shown row) (sym (ap (option_map (λ r. record (shown r) { live = r.live - 1 })) q) ∙ k))
      go (Some r) q k =
          let is : record (shown r) { live = r.live - 1 } ≡ shown row = same_Some _ _ (sym (ap (option_map (λ r. record (shown r) { live = r.live - 1 })) q) ∙ k) in
          let known = h seat.user r q in
          let met : nat_eq seat.user seat.user ≡ true = grind (arith, nat_tests) in
          let one : cond (nat_eq seat.user seat.user) 1 0 ≡ 1 = ap (λ (b : Bool). let k : ℕ = cond b 1 0 in k) met in
          let all = counts seat.user in
          let counted = known.counted in
          let live : r.live - 1 ≡ row.live = ap (λ (s : Shown). s.live) is in
          record { keyed = ap numbers (sym (ap (λ (s : Shown). s.user) is)) ∙ known.keyed; counted = omega (arith, all, one, counted, live) }

  -- where the user has a seat still
  pub users_pulled : (row : UserRow) → lookup (nat_eq seat.user) new.users.entries ≡ Some row → row.live ≢ 0 → AreUsersOf numbers None new.seats.entries new.users.entries
  users_pulled row own some n x there = ⊎_elim
      (λ same.
      let is : row ≡ x = same_Some _ _ (sym own ∙ ap (λ k. lookup (nat_eq k) new.users.entries) (sym same) ∙ there) in
      let known = pulled_own row own in
      subst (λ (r : UserRow). IsUserOf numbers None new.seats.entries n (shown r)) is (subst (λ k. IsUserOf numbers None new.seats.entries k (shown row)) (sym same)
      (record { keyed = known.keyed; counted = known.counted; some = λ away. omega (arith, some); spare = λ zero. absurd (some zero) })))
      (λ apart. pulled_other n x apart there)
      (cases_eq n seat.user)

  pub seats_pulled : KeepWaits rows.users.entries new.users.entries rows.seats.entries → map (seat_of new.users.entries) new.seats.entries ≡ without ticket (map (seat_of rows.users.entries) rows.seats.entries)
  seats_pulled keeps = ap (map (seat_of new.users.entries)) seats ∙ view_without new.users.entries ticket rows.seats.entries ∙ ap (without ticket) (seats_counted seat.user (λ s. s.live - 1) rows new.users.entries kept shows keeps)

-- ---- room for a user's next seat

-- the same seats in other slots, and users who show the same
pub users_moved : (numbers : ℕ → Option ℕ) (rows new : Rows) → AreUsersOf numbers None rows.seats.entries rows.users.entries → ArePairs (IsSameSeat rows.users.entries new.users.entries) rows.seats.entries new.seats.entries → ShowSame rows.users.entries new.users.entries → AreUsersOf numbers None new.seats.entries new.users.entries
users_moved numbers rows new h pairs same = users_as numbers None rows.seats.entries new.seats.entries rows.users.entries new.users.entries h same (λ user. count_pairs rows.users.entries new.users.entries user rows.seats.entries new.seats.entries pairs)

pub seats_moved : (rows new : Rows) → ArePairs (IsSameSeat rows.users.entries new.users.entries) rows.seats.entries new.seats.entries → ShowSame rows.users.entries new.users.entries → map (seat_of new.users.entries) new.seats.entries ≡ map (seat_of rows.users.entries) rows.seats.entries
seats_moved rows new pairs same = view_pairs rows.users.entries new.users.entries same rows.seats.entries new.seats.entries pairs

pub shows_itself : (old new : List (ℕ × UserRow)) → new ≡ old → ShowSame old new
shows_itself old new same user = ap (λ us. option_map shown (lookup (nat_eq user) us)) same

-- room is kept for a user
pub users_ready : (numbers : ℕ → Option ℕ) (user : ℕ) (seats : List (ℕ × SeatRow)) (users : List (ℕ × UserRow)) → AreUsersOf numbers None seats users → AreUsersOf numbers (Some user) seats users
users_ready numbers user seats users h n row there =
    let known = h n row there in
    record { keyed = known.keyed; counted = known.counted; some = λ apart. known.some (λ none. none-some n none); spare = known.spare }

-- no room is kept any more for a user who has a seat
pub users_left : (numbers : ℕ → Option ℕ) (user : ℕ) (own : UserRow) (seats : List (ℕ × SeatRow)) (users : List (ℕ × UserRow)) → AreUsersOf numbers (Some user) seats users → lookup (nat_eq user) users ≡ Some own → own.live ≢ 0 → AreUsersOf numbers None seats users
users_left numbers user own seats users h found some n row there =
    let known = h n row there in
    record {
      keyed = known.keyed;
      counted = known.counted;
      some = λ none. ⊎_elim
          (λ same. subst (λ (r : UserRow). 0 < r.live) (same_Some _ _ (sym found ∙ ap (λ k. lookup (nat_eq k) users) (sym same) ∙ there)) (omega (arith, some)))
          (λ apart. known.some (λ is. apart (sym (same_Some _ _ is))))
          (cases_eq n user);
      spare = known.spare;
    }

-- a user comes who has no seat yet
module _ (numbers : ℕ → Option ℕ) (number user : ℕ) (rows new : Rows) (kept : IsKept rows) (seats : new.seats ≡ rows.seats) (opens : Opens number user rows.users.entries new.users.entries) where
  pub users_opened : (was : ℕ → Option ℕ) → AreUsersOf was None rows.seats.entries rows.users.entries → AreKeyed numbers new.users.entries → AreUsersOf numbers (Some number) new.seats.entries new.users.entries
  users_opened was h keyed =
      subst (λ s. AreUsersOf numbers (Some number) s.entries new.users.entries) (sym seats)
      (subst (AreUsersOf numbers (Some number) rows.seats.entries) (sym opens.entries)
      (each_pushed (λ n row. IsUserOf was None rows.seats.entries n (shown row) × (numbers row.user ≡ Some n)) (λ n row. IsUserOf numbers (Some number) rows.seats.entries n (shown row)) number opens.row rows.users.entries opens.unused
      (record {
        keyed = keyed number opens.row (ap (λ us. lookup (nat_eq number) us) opens.entries ∙ last_found number opens.row rows.users.entries opens.unused);
        counted = ap (λ (s : Shown). s.live) opens.shown_is ∙ sym (count_zero number rows.seats.entries (all_from_each (λ e. e.1.user ≢ number) rows.seats.entries kept.seated.distinct (no_seat_of rows kept number opens.unused)));
        some = λ apart. absurd (apart refl);
        spare = λ zero. ap (λ (s : Shown). s.used) opens.shown_is;
      })
      (λ n row there k. record { keyed = k.1; counted = k.0.counted; some = λ apart. k.0.some (λ none. none-some n none); spare = k.0.spare })
      (λ n row there. (h n row there, keyed n row (ap (λ us. lookup (nat_eq n) us) opens.entries ∙ found_pushed number n opens.row row rows.users.entries opens.unused there)))))

  pub seats_opened : map (seat_of new.users.entries) new.seats.entries ≡ map (seat_of rows.users.entries) rows.seats.entries
  seats_opened = ap (λ s. map (seat_of new.users.entries) s.entries) seats ∙ map_as (seat_of new.users.entries) (seat_of rows.users.entries) rows.seats.entries
      (all_then (λ e. (row : UserRow) × (lookup (nat_eq e.1.user) rows.users.entries ≡ Some row)) (λ e. seat_of new.users.entries e ≡ seat_of rows.users.entries e)
      (λ e own. (let stays = ap (λ us. lookup (nat_eq e.1.user) us) opens.entries ∙ found_pushed number e.1.user opens.row own.0 rows.users.entries opens.unused own.1 ∙ sym own.1 in seat_as e rows.users.entries new.users.entries (ap (option_map shown) stays) (waits_as rows.users.entries new.users.entries e.1 stays))) rows.seats.entries (have_rows rows kept))

  pub opened_live : IsLive number new.users.entries
  opened_live = ap (λ us. is_some (lookup (nat_eq number) us)) opens.entries ∙ ap is_some (last_found number opens.row rows.users.entries opens.unused)

  pub opened_found : lookup (nat_eq number) new.users.entries ≡ Some opens.row
  opened_found = ap (λ us. lookup (nat_eq number) us) opens.entries ∙ last_found number opens.row rows.users.entries opens.unused

  pub opened_room : IsOwnRoom number new.users.entries
  opened_room row there =
      let is : opens.row ≡ row = same_Some _ _ (sym opened_found ∙ there) in
      let none : opens.row.live ≡ 0 = ap (λ (s : Shown). s.live) opens.shown_is in
      subst (λ (r : UserRow). HasRoom r.line × (r.live < 2 ^ 32 - 1)) is (opens.room, omega (arith, none))

  pub opened_is : user_by number new.users.entries ≡ user
  opened_is = ap (λ o. option_map_or (λ (r : UserRow). r.user) o 0) opened_found ∙ ap (λ (s : Shown). s.user) opens.shown_is

-- what `open` leaves, whatever it returns
module _ (old numbers : ℕ → Option ℕ) (user : ℕ) (rows new : Rows) (kept : IsKept rows) (h : AreUsersOf old None rows.seats.entries rows.users.entries) (seats : new.seats ≡ rows.seats) (keyed : AreKeyed numbers new.users.entries) where
  unopened : new.users.entries ≡ rows.users.entries → AreUsersOf numbers None new.seats.entries new.users.entries
  unopened same n row there =
      let known = h n row (ap (λ us. lookup (nat_eq n) us) (sym same) ∙ there) in
      record { keyed = keyed n row there; counted = known.counted ∙ ap (λ s. count_of n s.entries) (sym seats); some = known.some; spare = known.spare }

  pub opened_users : {E : Type 0} (result : Result ℕ E) → IfOk result (λ number. Opens number user rows.users.entries new.users.entries) → OnErr result (new.users.entries ≡ rows.users.entries) → AreUsersOf numbers (ok_of result) new.seats.entries new.users.entries
  opened_users (Ok number) opens err = users_opened numbers number user rows new kept seats opens old h keyed
  opened_users (Err e) opens err = unopened err

  pub opened_seats : {E : Type 0} (result : Result ℕ E) → IfOk result (λ number. Opens number user rows.users.entries new.users.entries) → OnErr result (new.users.entries ≡ rows.users.entries) → map (seat_of new.users.entries) new.seats.entries ≡ map (seat_of rows.users.entries) rows.seats.entries
  opened_seats (Ok number) opens err = seats_opened numbers number user rows new kept seats opens
  opened_seats (Err e) opens err = ap (λ s. map (seat_of new.users.entries) s.entries) seats ∙ ap (λ us. map (seat_of us) rows.seats.entries) err

  pub opened_ready : {E : Type 0} (result : Result ℕ E) → IfOk result (λ number. Opens number user rows.users.entries new.users.entries) → 0 < rows.seats.room → HasRoom rows.line → new.line ≡ rows.line → IfOk result (IsReady new)
  opened_ready (Ok number) opens seat_room room line = record {
    live = opened_live numbers number user rows new kept seats opens;
    seat_room = subst (λ s. 0 < s.room) (sym seats) seat_room;
    room = subst HasRoom (sym line) room;
    own_room = opened_room numbers number user rows new kept seats opens;
  }
  opened_ready (Err e) opens seat_room room line = tt

  pub opened_are : {E : Type 0} (result : Result ℕ E) → IfOk result (λ number. Opens number user rows.users.entries new.users.entries) → IfOk result (λ number. user_by number new.users.entries ≡ user)
  opened_are (Ok number) opens = opened_is numbers number user rows new kept seats opens
  opened_are (Err e) opens = tt

-- ---- a seat comes

module _ (numbers : ℕ → Option ℕ) (app user ticket : ℕ) (rows new : Rows) (kept : IsKept rows) (pushes : PushesSeat app user ticket new.users.entries rows.seats.entries new.seats.entries) (shows : ShowsOther user (λ s. record s { live = s.live + 1 }) rows.users.entries new.users.entries) (h : AreUsersOf numbers (Some user) rows.seats.entries rows.users.entries) where
  counts_more : (n : ℕ) → count_of n new.seats.entries ≡ count_of n rows.seats.entries + cond (nat_eq n user) 1 0
  counts_more n = ap (count_of n) pushes.entries ∙ count_pushed n ticket pushes.row rows.seats.entries ∙ ap (λ u. let k : ℕ = count_of n rows.seats.entries + cond (nat_eq n u) 1 0 in k) pushes.user_is

  pub users_pushed : AreUsersOf numbers None new.seats.entries new.users.entries
  users_pushed n row there = ⊎_elim own other (cases_eq n user)
    where
      own : n ≡ user → IsUserOf numbers None new.seats.entries n (shown row)
      own same = go (lookup (nat_eq user) rows.users.entries) refl (sym shows.own ∙ ap (λ k. option_map shown (lookup (nat_eq k) new.users.entries)) (sym same) ∙ ap (option_map shown) there)
        where
          go : (o : Option UserRow) → lookup (nat_eq user) rows.users.entries ≡ o → option_map (λ r. record (shown r) { live = r.live + 1 }) (lookup (nat_eq user) rows.users.entries) ≡ Some (shown row) → IsUserOf numbers None new.seats.entries n (shown row)
          go None q k = absurd (none-some (shown row) (sym (ap (option_map (λ r. record (shown r) { live = r.live + 1 })) q) ∙ k))
          go (Some r) q k =
              let is : record (shown r) { live = r.live + 1 } ≡ shown row = same_Some _ _ (sym (ap (option_map (λ r. record (shown r) { live = r.live + 1 })) q) ∙ k) in
              let known = h user r q in
              let met : nat_eq user user ≡ true = grind (arith, nat_tests) in
              let one : cond (nat_eq user user) 1 0 ≡ 1 = ap (λ (b : Bool). let k : ℕ = cond b 1 0 in k) met in
              let more = counts_more user in
              let counted = known.counted in
              subst (IsUserOf numbers None new.seats.entries n) is (subst (λ k. IsUserOf numbers None new.seats.entries k (record (shown r) { live = r.live + 1 })) (sym same) (record {
                keyed = known.keyed;
                counted = omega (arith, more, one, counted);
                some = λ apart. omega arith;
                spare = λ zero. absurd (omega (arith, zero));
              }))

      other : n ≢ user → IsUserOf numbers None new.seats.entries n (shown row)
      other apart =
          let own = shown_row n (shown row) rows.users.entries (sym (shows.others n apart) ∙ ap (option_map shown) there) in
          let missed : nat_eq n user ≡ false = grind (arith, nat_tests) in
          let one : cond (nat_eq n user) 1 0 ≡ 0 = ap (λ (b : Bool). let k : ℕ = cond b 1 0 in k) missed in
          let more = counts_more n in
          user_as numbers numbers (Some user) None rows.seats.entries new.seats.entries rows.users.entries new.users.entries h n row (shows.others n apart) there (subst (λ (s : Shown). numbers s.user ≡ Some n) own.2 (h n own.0 own.1).keyed) (λ away is. apart (sym (same_Some _ _ is))) (omega (arith, more, one))

  pub seats_added : KeepWaits rows.users.entries new.users.entries rows.seats.entries → (own : UserRow) → lookup (nat_eq user) rows.users.entries ≡ Some own → Adds app ticket (user_by user rows.users.entries) (map (seat_of rows.users.entries) rows.seats.entries) (map (seat_of new.users.entries) new.seats.entries)
  seats_added keeps own found = record {
    unused = unused_shown rows.seats.entries pushes.unused;
    seats = ap (map (seat_of new.users.entries)) pushes.entries ∙ map-append (seat_of new.users.entries) rows.seats.entries ((ticket, pushes.row) ∷ [])
        ∙ (
        let before = seats_counted user (λ s. s.live + 1) rows new.users.entries kept shows keeps in
        let last = users_counted user (λ s. s.live + 1) rows.users.entries new.users.entries shows pushes.row.user in
        let user_is = last.0 ∙ ap (λ u. user_by u rows.users.entries) pushes.user_is in
        let used = last.1 ∙ uses in
        let master = pushes.waits Master in
        let ask = pushes.waits Ask in
        λ i. before i ++ (ticket, record { app = pushes.app_is i; user = user_is i; used = used i; waits = record { master = master i; ask = ask i } }) ∷ []);
  }
    where
      unused_shown : (seats : List (ℕ × SeatRow)) → IsUnused ticket seats → IsUnused ticket (map (seat_of rows.users.entries) seats)
      unused_shown [] h = tt
      unused_shown (e ∷ seats) h = (h.0, unused_shown seats h.1)

      user_is : user_by user rows.users.entries ≡ own.user
      user_is = ap (λ o. option_map_or (λ (r : UserRow). r.user) o 0) found

      uses : used_by pushes.row.user rows.users.entries ≡ used_at (user_by user rows.users.entries) (map (seat_of rows.users.entries) rows.seats.entries)
      uses = ap (λ k. used_by k rows.users.entries) pushes.user_is ∙ ap (λ o. option_map_or (λ (r : UserRow). r.used) o nothing) found
          ∙ sym (used_first numbers rows.users.entries (keyed_of numbers (Some user) rows.seats.entries rows.users.entries h) user own found rows.seats.entries (have_rows rows kept) (λ none. (h user own found).spare ((h user own found).counted ∙ none)))
          ∙ ap (λ n. used_at n (map (seat_of rows.users.entries) rows.seats.entries)) (sym user_is)

-- the row of a user who is live
pub live_row : (user : ℕ) (users : List (ℕ × UserRow)) → IsLive user users → (row : UserRow) × (lookup (nat_eq user) users ≡ Some row)
live_row user users live = go (lookup (nat_eq user) users) refl
  where
    go : (o : Option UserRow) → lookup (nat_eq user) users ≡ o → (row : UserRow) × (lookup (nat_eq user) users ≡ Some row)
    go None q = absurd (true≢false (sym live ∙ ap is_some q))
    go (Some row) q = (row, q)

-- ---- a seat goes at which nothing waits any more

module _ (numbers : ℕ → Option ℕ) (rows mid new : Rows) (kept : IsKept rows) (stays : IsKept mid) (ticket : ℕ) (still : mid.seats ≡ rows.seats) (sets : SetsWaits ticket nothing_waits rows.seats.entries rows.users.entries mid.users.entries) (same : ShowSame rows.users.entries mid.users.entries) where
  left_seat : lookup (nat_eq ticket) mid.seats.entries ≡ Some sets.row
  left_seat = ap (λ s. lookup (nat_eq ticket) s.entries) still ∙ sets.found

  pub left_live : IsLive ticket mid.seats.entries
  left_live = ap is_some left_seat

  pub left_idle : (row : SeatRow) → lookup (nat_eq ticket) mid.seats.entries ≡ Some row → (kind : Kind) → waits_in kind mid.users.entries row ≡ no_size
  left_idle row there kind = ap (waits_in kind mid.users.entries) (same_Some _ _ (sym there ∙ left_seat)) ∙ sets.own kind ∙ none_of kind

  module _ (h : AreUsersOf numbers None rows.seats.entries rows.users.entries) where
    left_users : AreUsersOf numbers None mid.seats.entries mid.users.entries
    left_users = users_entered numbers None rows mid kept still ticket nothing_waits sets same h

    pub left_some : (row : SeatRow) (own : UserRow) → lookup (nat_eq ticket) mid.seats.entries ≡ Some row → lookup (nat_eq row.user) mid.users.entries ≡ Some own → 0 < own.live
    left_some row own there found = (left_users row.user own found).some (λ none. none-some row.user none)

    module _ (user : ℕ) (user_is : option_map (λ (row : SeatRow). row.user) (lookup (nat_eq ticket) mid.seats.entries) ≡ Some user) (seats : new.seats.entries ≡ without ticket mid.seats.entries) (shows : ShowsOther user (λ s. record s { live = s.live - 1 }) mid.users.entries new.users.entries) where
      own : sets.row.user ≡ user
      own = same_Some _ _ (sym (ap (option_map (λ (row : SeatRow). row.user)) left_seat) ∙ user_is)

      seat_shows : ShowsOther sets.row.user (λ s. record s { live = s.live - 1 }) mid.users.entries new.users.entries
      seat_shows = subst (λ u. ShowsOther u (λ s. record s { live = s.live - 1 }) mid.users.entries new.users.entries) (sym own) shows

      pub gone_live : IsLive user new.users.entries
      gone_live =
          let row = live_row sets.row.user mid.users.entries (user_live mid stays.seated ticket sets.row left_seat) in
          let next = shown_row sets.row.user (record (shown row.0) { live = row.0.live - 1 }) new.users.entries (seat_shows.own ∙ ap (option_map (λ r. record (shown r) { live = r.live - 1 })) row.1) in
          subst (λ u. IsLive u new.users.entries) own (ap is_some next.1)

      pub gone_users : (row : UserRow) → lookup (nat_eq user) new.users.entries ≡ Some row → row.live ≢ 0 → AreUsersOf numbers None new.seats.entries new.users.entries
      gone_users row there some = users_pulled numbers mid new stays ticket sets.row left_seat seats seat_shows left_users row (ap (λ u. lookup (nat_eq u) new.users.entries) own ∙ there) some

      pub gone_seats : KeepWaits mid.users.entries new.users.entries mid.seats.entries → map (seat_of new.users.entries) new.seats.entries ≡ without ticket (with_waits ticket nothing_waits (map (seat_of rows.users.entries) rows.seats.entries))
      gone_seats keeps = seats_pulled numbers mid new stays ticket sets.row left_seat seats seat_shows left_users keeps ∙ ap (without ticket) (seats_entered numbers None rows mid kept still ticket nothing_waits sets same)

      pub gone_none : (row : UserRow) → lookup (nat_eq user) new.users.entries ≡ Some row → row.live ≡ 0 → EachSeat (λ _ e. e.user ≢ user) new.seats.entries
      gone_none row there none =
          let known = pulled_own numbers mid new stays ticket sets.row left_seat seats seat_shows left_users row (ap (λ u. lookup (nat_eq u) new.users.entries) own ∙ there) in
          subst (λ u. EachSeat (λ _ e. e.user ≢ u) new.seats.entries) own (none_of_count sets.row.user new.seats.entries (sym known.counted ∙ none))

      pub gone_other : (n : ℕ) (row : UserRow) → n ≢ user → lookup (nat_eq n) new.users.entries ≡ Some row → IsUserOf numbers None new.seats.entries n (shown row)
      gone_other n row apart there = pulled_other numbers mid new stays ticket sets.row left_seat seats seat_shows left_users n row (λ is. apart (is ∙ own)) there

      pub gone_keyed : AreKeyed numbers new.users.entries
      gone_keyed n row there = ⊎_elim
          (λ is. ap numbers refl ∙ (let known = pulled_own numbers mid new stays ticket sets.row left_seat seats seat_shows left_users row (ap (λ u. lookup (nat_eq u) new.users.entries) (own ∙ sym is) ∙ there) in known.keyed) ∙ ap Some (own ∙ sym is))
          (λ apart. (gone_other n row apart there).keyed)
          (cases_eq n user)

-- what waited at a seat that goes does not matter
pub without_idle : (ticket : ℕ) (waits : Both Resource) (seats : List (ℕ × Seat)) → without ticket (with_waits ticket waits seats) ≡ without ticket seats
without_idle ticket waits [] = refl
without_idle ticket waits (e ∷ seats) = go (nat_eq ticket e.0) refl (without_idle ticket waits seats)
  where
    go : (b : Bool) → nat_eq ticket e.0 ≡ b → without ticket (with_waits ticket waits seats) ≡ without ticket seats
        → without ticket (cond b (e.0, record e.1 { waits = waits }) e ∷ with_waits ticket waits seats) ≡ cond (not b) (e ∷ without ticket seats) (without ticket seats)
    go true q k = ap (λ (b : Bool). let r : List (ℕ × Seat) = cond (not b) ((e.0, record e.1 { waits = waits }) ∷ without ticket (with_waits ticket waits seats)) (without ticket (with_waits ticket waits seats)) in r) q ∙ k
    go false q k = ap (λ (b : Bool). let r : List (ℕ × Seat) = cond (not b) (e ∷ without ticket (with_waits ticket waits seats)) (without ticket (with_waits ticket waits seats)) in r) q ∙ ap (λ r. e ∷ r) k
