-- What a lane shows after a change of its rows.
use Rattle.std.proofs.Common.{◌≡◌, ◌≢◌, ℕ, ◌+◌, ⊎_elim, Bool, true, false, cond, not, List, [], ◌∷◌, map, Option, Some, None, option_map, is_some, nat_eq, refl, sym, ap, subst, ◌∙◌, arith, true≢false}
use Rattle.std.specs.List.{AllByRecursion}
use Rattle.std.specs.Map.{lookup}
use Rattle.std.specs.Option.{option_map_or}
use Rattle.std.proofs.lemmas.Bool.{cases_eq, eq-eqb, eqb-true}
use Rattle.std.proofs.lemmas.Bool.Decides.{nat_tests}
use Rattle.std.proofs.lemmas.Option.{same_Some, none-some}
use Rattle.ynl_resource.specs.declared.amounts.Resource.{Resource}
use Rattle.ynl_resource.specs.Amounts.{nothing}
use Rattle.ynl_slots.specs.Slots.{HasDistinctNumbers, without}
use Rattle.ynl_lanes.specs.declared.lane.kinds.Both.{Both}
use Rattle.ynl_lanes.specs.declared.lane.kinds.Kind.{Kind}
use Rattle.ynl_lanes.specs.declared.lane.kinds.Kind.TheVariants.{Master, Ask}
use Rattle.ynl_lanes.specs.declared.lane.rows.SeatRow.{SeatRow}
use Rattle.ynl_lanes.specs.declared.lane.rows.UserRow.{UserRow}
use Rattle.ynl_lanes.specs.lane.Changes.{Shown, shown, ShowSame, ShowsOther, SetsWaits}
use Rattle.ynl_lanes.specs.lane.Fields.{user_by, both_in, seat_of, count_of, IsUserOf, AreUsersOf}
use Rattle.ynl_lanes.specs.lane.Kinds.{of_kind}
use Rattle.ynl_lanes.specs.lane.Levels.{ArePairs}
use Rattle.ynl_lanes.specs.lane.Rooms.{IsSameSeat}
use Rattle.ynl_lanes.specs.lane.Rows.{used_by, waits_in, WaitSame, EachUser}
use Rattle.ynl_lanes.specs.lane.Seats.{Seat, with_waits, with_used, used_at}
use Rattle.ynl_lanes.proofs.lane.Found.{all_from_each}
use Rattle.ynl_lanes.proofs.lane.Showing.{shown_row, shows_as, both_as, seat_as}

-- a seat that is looked up
pub seat_found : (users : List (ℕ × UserRow)) (ticket : ℕ) (seats : List (ℕ × SeatRow)) → lookup (nat_eq ticket) (map (seat_of users) seats) ≡ option_map (λ row. (seat_of users (ticket, row)).1) (lookup (nat_eq ticket) seats)
seat_found users ticket [] = refl
seat_found users ticket (e ∷ seats) = go (nat_eq ticket e.0) (seat_found users ticket seats)
  where
    go : (b : Bool) → lookup (nat_eq ticket) (map (seat_of users) seats) ≡ option_map (λ row. (seat_of users (ticket, row)).1) (lookup (nat_eq ticket) seats)
        → cond b (Some (seat_of users e).1) (lookup (nat_eq ticket) (map (seat_of users) seats)) ≡ option_map (λ row. (seat_of users (ticket, row)).1) (cond b (Some e.1) (lookup (nat_eq ticket) seats))
    go true k = refl
    go false k = k

-- so a ticket of a seat has a row
pub seat_live : (users : List (ℕ × UserRow)) (ticket : ℕ) (seats : List (ℕ × SeatRow)) → is_some (lookup (nat_eq ticket) (map (seat_of users) seats)) ≡ true → is_some (lookup (nat_eq ticket) seats) ≡ true
seat_live users ticket seats h = go (lookup (nat_eq ticket) seats) (sym (seat_found users ticket seats)) h
  where
    go : (o : Option SeatRow) → option_map (λ row. (seat_of users (ticket, row)).1) o ≡ lookup (nat_eq ticket) (map (seat_of users) seats) → is_some (lookup (nat_eq ticket) (map (seat_of users) seats)) ≡ true → is_some o ≡ true
    go None q k = ap is_some q ∙ k
    go (Some row) q k = refl

-- what waits of a kind at a seat
pub of_both : (kind : Kind) (users : List (ℕ × UserRow)) (row : SeatRow) → of_kind kind (both_in users row) ≡ waits_in kind users row
of_both Master users row = refl
of_both Ask users row = refl

-- other things wait at a seat
pub view_entered : (old new : List (ℕ × UserRow)) (ticket : ℕ) (waits : Both Resource) (seats : List (ℕ × SeatRow)) → HasDistinctNumbers seats → SetsWaits ticket waits seats old new → ShowSame old new → map (seat_of new) seats ≡ with_waits ticket waits (map (seat_of old) seats)
view_entered old new ticket waits seats distinct sets same =
    each seats (all_from_each (λ e. seat_of new e ≡ cond (nat_eq ticket e.0) (e.0, record (seat_of old e).1 { waits = waits }) (seat_of old e)) seats distinct (λ n e there. one n e there (nat_eq ticket n) refl))
  where
    each : (es : List (ℕ × SeatRow)) → AllByRecursion (λ e. seat_of new e ≡ cond (nat_eq ticket e.0) (e.0, record (seat_of old e).1 { waits = waits }) (seat_of old e)) es → map (seat_of new) es ≡ with_waits ticket waits (map (seat_of old) es)
    each [] h = refl
    each (e ∷ es) h = (let first = h.0 in let rest = each es h.1 in λ i. first i ∷ rest i)

    one : (n : ℕ) (e : SeatRow) → lookup (nat_eq n) seats ≡ Some e → (b : Bool) → nat_eq ticket n ≡ b → seat_of new (n, e) ≡ cond b (n, record (seat_of old (n, e)).1 { waits = waits }) (seat_of old (n, e))
    one n e there true q =
        let here : ticket ≡ n = grind (arith, nat_tests) in
        let is : sets.row ≡ e = same_Some _ _ (sym sets.found ∙ ap (λ k. lookup (nat_eq k) seats) here ∙ there) in
        let user_is : user_by e.user new ≡ user_by e.user old = shows_as (λ (s : Shown). s.user) 0 e.user old new (same e.user) in
        let used : used_by e.user new ≡ used_by e.user old = shows_as (λ (s : Shown). s.used) nothing e.user old new (same e.user) in
        let master : waits_in Master new e ≡ waits.master = ap (waits_in Master new) (sym is) ∙ sets.own Master in
        let ask : waits_in Ask new e ≡ waits.ask = ap (waits_in Ask new) (sym is) ∙ sets.own Ask in
        λ i. (n, record { app = e.app; user = user_is i; used = used i; waits = record { master = master i; ask = ask i } })
    one n e there false q =
        let apart : n ≢ ticket = grind (arith, nat_tests) in
        seat_as (n, e) old new (same e.user) (sets.others n e there apart)

-- the same seats in other slots
pub view_pairs : (old new : List (ℕ × UserRow)) → ShowSame old new → (es fs : List (ℕ × SeatRow)) → ArePairs (IsSameSeat old new) es fs → map (seat_of new) fs ≡ map (seat_of old) es
view_pairs old new same [] [] k = refl
view_pairs old new same (e ∷ es) (f ∷ fs) k =
    let rest = view_pairs old new same es fs k.1 in
    let user_is : user_by f.1.user new ≡ user_by e.1.user old = shows_as (λ (s : Shown). s.user) 0 f.1.user old new (same f.1.user) ∙ ap (λ u. user_by u old) k.0.user in
    let uses : used_by f.1.user new ≡ used_by e.1.user old = shows_as (λ (s : Shown). s.used) nothing f.1.user old new (same f.1.user) ∙ ap (λ u. used_by u old) k.0.user in
    let waits = both_as old new e.1 f.1 k.0.waits in
    λ i. (k.0.ticket i, record { app = k.0.app i; user = user_is i; used = uses i; waits = waits i }) ∷ rest i
view_pairs old new same [] (f ∷ fs) k = absurd k
view_pairs old new same (e ∷ es) [] k = absurd k

pub view_without : (users : List (ℕ × UserRow)) (ticket : ℕ) (seats : List (ℕ × SeatRow)) → map (seat_of users) (without ticket seats) ≡ without ticket (map (seat_of users) seats)
view_without users ticket [] = refl
view_without users ticket (e ∷ seats) = go (nat_eq ticket e.0) (view_without users ticket seats)
  where
    go : (b : Bool) → map (seat_of users) (without ticket seats) ≡ without ticket (map (seat_of users) seats)
        → map (seat_of users) (cond (not b) (e ∷ without ticket seats) (without ticket seats)) ≡ cond (not b) (seat_of users e ∷ without ticket (map (seat_of users) seats)) (without ticket (map (seat_of users) seats))
    go true k = k
    go false k = ap (λ r. seat_of users e ∷ r) k

-- the users of some seats have rows
abbrev pub HaveRows : List (ℕ × UserRow) → List (ℕ × SeatRow) → Type 0
HaveRows users seats = AllByRecursion (λ e. (row : UserRow) × (lookup (nat_eq e.1.user) users ≡ Some row)) seats

-- a row is found by the user
module _ (numbers : ℕ → Option ℕ) (users : List (ℕ × UserRow)) (keyed : EachUser (λ number row. numbers row.user ≡ Some number) users) (user : ℕ) (row : UserRow) (found : lookup (nat_eq user) users ≡ Some row) where
  row_of_user : (e : ℕ × SeatRow) → (own : UserRow) × (lookup (nat_eq e.1.user) users ≡ Some own) → nat_eq row.user (user_by e.1.user users) ≡ true → e.1.user ≡ user
  row_of_user e own h =
      let is : row.user ≡ own.0.user = eqb-true row.user (user_by e.1.user users) h ∙ ap (λ o. option_map_or (λ (r : UserRow). r.user) o 0) own.1 in
      same_Some _ _ (sym (keyed e.1.user own.0 own.1) ∙ ap numbers (sym is) ∙ keyed user row found)

  user_of_row : (e : ℕ × SeatRow) → e.1.user ≡ user → nat_eq row.user (user_by e.1.user users) ≡ true
  user_of_row e same = eq-eqb row.user (user_by e.1.user users) (sym (ap (λ k. user_by k users) same ∙ ap (λ o. option_map_or (λ (r : UserRow). r.user) o 0) found))

  pub view_used : (used : Resource) (new : List (ℕ × UserRow)) → ShowsOther user (λ s. record s { used = used }) users new → (seats : List (ℕ × SeatRow)) → HaveRows users seats → AllByRecursion (λ e. WaitSame users new e.1) seats → map (seat_of new) seats ≡ with_used row.user used (map (seat_of users) seats)
  view_used used new shows [] have stay = refl
  view_used used new shows (e ∷ seats) have stay = (let first = go (nat_eq row.user (user_by e.1.user users)) refl in let rest = view_used used new shows seats have.1 stay.1 in λ i. first i ∷ rest i)
    where
      go : (b : Bool) → nat_eq row.user (user_by e.1.user users) ≡ b → seat_of new e ≡ cond b (e.0, record (seat_of users e).1 { used = used }) (seat_of users e)
      go true q =
          let same : e.1.user ≡ user = row_of_user e have.0 q in
          let now : option_map shown (lookup (nat_eq user) new) ≡ Some (record (shown row) { used = used }) = shows.own ∙ ap (option_map (λ r. record (shown r) { used = used })) found in
          let next = shown_row user (record (shown row) { used = used }) new now in
          let user_is : user_by e.1.user new ≡ user_by e.1.user users = ap (λ k. user_by k new) same ∙ ap (λ o. option_map_or (λ (r : UserRow). r.user) o 0) next.1 ∙ ap (λ (s : Shown). s.user) next.2 ∙ sym (ap (λ k. user_by k users) same ∙ ap (λ o. option_map_or (λ (r : UserRow). r.user) o 0) found) in
          let uses : used_by e.1.user new ≡ used = ap (λ k. used_by k new) same ∙ ap (λ o. option_map_or (λ (r : UserRow). r.used) o nothing) next.1 ∙ ap (λ (s : Shown). s.used) next.2 in
          let waits = both_as users new e.1 e.1 stay.0 in
          λ i. (e.0, record { app = e.1.app; user = user_is i; used = uses i; waits = waits i })
      go false q =
          let apart : e.1.user ≢ user = λ same. true≢false (sym (user_of_row e same) ∙ q) in
          seat_as e users new (shows.others e.1.user apart) stay.0

  -- what the user's first seat says that the user uses
  pub used_first : (seats : List (ℕ × SeatRow)) → HaveRows users seats → (count_of user seats ≡ 0 → row.used ≡ nothing) → used_at row.user (map (seat_of users) seats) ≡ row.used
  used_first [] have spare = sym (spare refl)
  used_first (e ∷ seats) have spare = go (nat_eq row.user (user_by e.1.user users)) refl (λ more. used_first seats have.1 more)
    where
      go : (b : Bool) → nat_eq row.user (user_by e.1.user users) ≡ b → ((count_of user seats ≡ 0 → row.used ≡ nothing) → used_at row.user (map (seat_of users) seats) ≡ row.used)
          → cond b (used_by e.1.user users) (used_at row.user (map (seat_of users) seats)) ≡ row.used
      go true q later = ap (λ k. used_by k users) (row_of_user e have.0 q) ∙ ap (λ o. option_map_or (λ (r : UserRow). r.used) o nothing) found
      go false q later = later (λ none. spare (
          let apart : user ≢ e.1.user = λ same. true≢false (sym (user_of_row e (sym same)) ∙ q) in
          let missed : nat_eq user e.1.user ≡ false = grind (arith, nat_tests) in
          ap (λ (b : Bool). let n : ℕ = cond b 1 0 + count_of user seats in n) missed ∙ (let zero : 0 + count_of user seats ≡ 0 = omega (arith, none) in zero)))

-- ---- what is known of users

module _ (old new : ℕ → Option ℕ) (was is : Option ℕ) (before after : List (ℕ × SeatRow)) (users next : List (ℕ × UserRow)) (h : AreUsersOf old was before users) where
  -- a user who shows the same
  pub user_as : (number : ℕ) (row : UserRow) → option_map shown (lookup (nat_eq number) next) ≡ option_map shown (lookup (nat_eq number) users) → lookup (nat_eq number) next ≡ Some row → new row.user ≡ Some number → (is ≢ Some number → was ≢ Some number) → count_of number after ≡ count_of number before → IsUserOf new is after number (shown row)
  user_as number row same there keyed ready count =
      let own = shown_row number (shown row) users (sym same ∙ ap (option_map shown) there) in
      let known : IsUserOf old was before number (shown row) = subst (IsUserOf old was before number) own.2 (h number own.0 own.1) in
      record { keyed = keyed; counted = known.counted ∙ sym count; some = λ apart. known.some (ready apart); spare = known.spare }

-- the users show the same, and have as many seats
pub users_as : (numbers : ℕ → Option ℕ) (ready : Option ℕ) (before after : List (ℕ × SeatRow)) (users next : List (ℕ × UserRow)) → AreUsersOf numbers ready before users → ShowSame users next → ((user : ℕ) → count_of user after ≡ count_of user before) → AreUsersOf numbers ready after next
users_as numbers ready before after users next h same count number row there =
    let own = shown_row number (shown row) users (sym (same number) ∙ ap (option_map shown) there) in
    user_as numbers numbers ready ready before after users next h number row (same number) there (subst (λ (s : Shown). numbers s.user ≡ Some number) own.2 (h number own.0 own.1).keyed) (λ apart. apart) (count number)

-- a user shows another amount in use
pub users_used : (numbers : ℕ → Option ℕ) (user : ℕ) (used : Resource) (seats : List (ℕ × SeatRow)) (users next : List (ℕ × UserRow)) → AreUsersOf numbers None seats users → ShowsOther user (λ s. record s { used = used }) users next → AreUsersOf numbers None seats next
users_used numbers user used seats users next h shows number row there = ⊎_elim own other (cases_eq number user)
  where
    own : number ≡ user → IsUserOf numbers None seats number (shown row)
    own same =
        let now : option_map (λ r. record (shown r) { used = used }) (lookup (nat_eq user) users) ≡ Some (shown row) = sym shows.own ∙ ap (λ k. option_map shown (lookup (nat_eq k) next)) (sym same) ∙ ap (option_map shown) there in
        go (lookup (nat_eq user) users) refl now
      where
        go : (o : Option UserRow) → lookup (nat_eq user) users ≡ o → option_map (λ r. record (shown r) { used = used }) o ≡ Some (shown row) → IsUserOf numbers None seats number (shown row)
        go None q k = absurd (none-some (shown row) k)
        go (Some r) q k =
            let known = h user r q in
            let is : record (shown r) { used = used } ≡ shown row = same_Some _ _ k in
            subst (IsUserOf numbers None seats number) is (subst (λ k. IsUserOf numbers None seats k (record (shown r) { used = used })) (sym same) (record {
              keyed = known.keyed;
              counted = known.counted;
              some = known.some;
              spare = λ zero. absurd (let some = known.some (λ e. none-some user e) in omega (arith, some, zero));
            }))

    other : number ≢ user → IsUserOf numbers None seats number (shown row)
    other apart =
        let own = shown_row number (shown row) users (sym (shows.others number apart) ∙ ap (option_map shown) there) in
        user_as numbers numbers None None seats seats users next h number row (shows.others number apart) there (subst (λ (s : Shown). numbers s.user ≡ Some number) own.2 (h number own.0 own.1).keyed) (λ apart. apart) refl

-- the row of a seat that a contract sees
pub found_seat : (users : List (ℕ × UserRow)) (ticket : ℕ) (seats : List (ℕ × SeatRow)) (seat : Seat) → lookup (nat_eq ticket) (map (seat_of users) seats) ≡ Some seat → (row : SeatRow) × (lookup (nat_eq ticket) seats ≡ Some row) × ((seat_of users (ticket, row)).1 ≡ seat)
found_seat users ticket seats seat h = go (lookup (nat_eq ticket) seats) refl (sym (seat_found users ticket seats) ∙ h)
  where
    go : (o : Option SeatRow) → lookup (nat_eq ticket) seats ≡ o → option_map (λ row. (seat_of users (ticket, row)).1) (lookup (nat_eq ticket) seats) ≡ Some seat → (row : SeatRow) × (lookup (nat_eq ticket) seats ≡ Some row) × ((seat_of users (ticket, row)).1 ≡ seat)
    go None q k = absurd (none-some seat (sym (ap (option_map (λ row. (seat_of users (ticket, row)).1)) q) ∙ k))
    go (Some row) q k = (row, q, same_Some _ _ (sym (ap (option_map (λ row. (seat_of users (ticket, row)).1)) q) ∙ k))
