-- What a lane shows of its rows.
use Rattle.std.proofs.Common.{◌≡◌, ◌≢◌, ℕ, ◌+◌, Bool, true, false, cond, not, List, [], ◌∷◌, ◌++◌, map, get_or, Option, Some, None, option_map, nat_eq, refl, sym, ap, ◌∙◌, arith, true≢false}
use Rattle.std.specs.List.{AllByRecursion}
use Rattle.std.specs.Map.{lookup}
use Rattle.std.specs.Option.{option_map_or}
use Rattle.std.proofs.lemmas.Bool.Decides.{nat_tests}
use Rattle.std.proofs.lemmas.Option.{same_Some, none-some}
use Rattle.ynl_resource.specs.Amounts.{nothing}
use Rattle.ynl_slots.specs.Slots.{IsUnused, HasDistinctNumbers, without}
use Rattle.ynl_lanes.specs.lows.Lows.{no_size}
use Rattle.ynl_lanes.specs.declared.lane.kinds.Kind.{Kind}
use Rattle.ynl_lanes.specs.declared.lane.kinds.Kind.TheVariants.{Master, Ask}
use Rattle.ynl_lanes.specs.declared.lane.rows.SeatRow.{SeatRow}
use Rattle.ynl_lanes.specs.declared.lane.rows.UserRow.{UserRow}
use Rattle.ynl_lanes.specs.lane.Changes.{Shown, shown}
use Rattle.ynl_lanes.specs.lane.Fields.{user_by, both_in, count_of, seat_of}
use Rattle.ynl_lanes.specs.lane.Levels.{ArePairs}
use Rattle.ynl_lanes.specs.lane.Lines.{values_of}
use Rattle.ynl_lanes.specs.lane.Rooms.{IsSameSeat}
use Rattle.ynl_lanes.specs.lane.Rows.{of_user, used_by, waits_in, WaitSame}
use Rattle.ynl_lanes.proofs.lane.Keys.{without_unused}

-- the row of which something is known
pub mapped_row : {Y : Type 0} (f : UserRow → Y) (user : ℕ) (y : Y) (users : List (ℕ × UserRow)) → option_map f (lookup (nat_eq user) users) ≡ Some y → (row : UserRow) × (lookup (nat_eq user) users ≡ Some row) × (f row ≡ y)
mapped_row {Y = Y} f user y users h = go (lookup (nat_eq user) users) refl h
  where
    go : (o : Option UserRow) → lookup (nat_eq user) users ≡ o → option_map f o ≡ Some y → (row : UserRow) × (lookup (nat_eq user) users ≡ Some row) × (f row ≡ y)
    go None q k = absurd (none-some y k)
    go (Some row) q k = (row, q, same_Some _ _ k)

pub row_with : (number user : ℕ) (users : List (ℕ × UserRow)) → option_map (λ (row : UserRow). row.user) (lookup (nat_eq number) users) ≡ Some user → (row : UserRow) × (lookup (nat_eq number) users ≡ Some row) × (row.user ≡ user)
row_with number user users h = mapped_row (λ (row : UserRow). row.user) number user users h

pub shown_row : (user : ℕ) (s : Shown) (users : List (ℕ × UserRow)) → option_map shown (lookup (nat_eq user) users) ≡ Some s → (row : UserRow) × (lookup (nat_eq user) users ≡ Some row) × (shown row ≡ s)
shown_row user s users h = mapped_row shown user s users h

-- something that is shown of a user
of_shown : {X : Type 0} (f : Shown → X) (none : X) (user : ℕ) (users : List (ℕ × UserRow)) → of_user (λ row. f (shown row)) none user users ≡ option_map_or f (option_map shown (lookup (nat_eq user) users)) none
of_shown f none user users = go (lookup (nat_eq user) users)
  where
    go : (o : Option UserRow) → option_map_or (λ (row : UserRow). f (shown row)) o none ≡ option_map_or f (option_map shown o) none
    go None = refl
    go (Some row) = refl

pub shows_as : {X : Type 0} (f : Shown → X) (none : X) (user : ℕ) (old new : List (ℕ × UserRow)) → option_map shown (lookup (nat_eq user) new) ≡ option_map shown (lookup (nat_eq user) old) → of_user (λ row. f (shown row)) none user new ≡ of_user (λ row. f (shown row)) none user old
shows_as f none user old new same = of_shown f none user new ∙ ap (λ o. option_map_or f o none) same ∙ sym (of_shown f none user old)

-- the same waits where the rows of users are the same
pub waits_as : (old new : List (ℕ × UserRow)) (row : SeatRow) → lookup (nat_eq row.user) new ≡ lookup (nat_eq row.user) old → WaitSame old new row
waits_as old new row same kind = ap (λ o. get_or (option_map_or (λ (r : UserRow). values_of kind r.line) o []) row.own_slot no_size) same

pub both_as : (old new : List (ℕ × UserRow)) (e f : SeatRow) → ((kind : Kind) → waits_in kind new f ≡ waits_in kind old e) → both_in new f ≡ both_in old e
both_as old new e f same = (let master = same Master in let ask = same Ask in λ i. record { master = master i; ask = ask i })

-- a seat shows the same where its user does, and the same waits there
pub seat_as : (e : ℕ × SeatRow) (old new : List (ℕ × UserRow)) → option_map shown (lookup (nat_eq e.1.user) new) ≡ option_map shown (lookup (nat_eq e.1.user) old) → WaitSame old new e.1 → seat_of new e ≡ seat_of old e
seat_as e old new same stays =
    let user_is : user_by e.1.user new ≡ user_by e.1.user old = shows_as (λ (s : Shown). s.user) 0 e.1.user old new same in
    let used : used_by e.1.user new ≡ used_by e.1.user old = shows_as (λ (s : Shown). s.used) nothing e.1.user old new same in
    let waits = both_as old new e.1 e.1 stays in
    λ i. (e.0, record { app = e.1.app; user = user_is i; used = used i; waits = waits i })

pub map_as : {X Y : Type 0} (f g : X → Y) (xs : List X) → AllByRecursion (λ x. f x ≡ g x) xs → map f xs ≡ map g xs
map_as f g [] h = refl
map_as f g (x ∷ xs) h = (let first = h.0 in let rest = map_as f g xs h.1 in λ i. first i ∷ rest i)

pub map_any : {X Y : Type 0} (f g : X → Y) → ((x : X) → f x ≡ g x) → (xs : List X) → map f xs ≡ map g xs
map_any f g h [] = refl
map_any f g h (x ∷ xs) = (let first = h x in let rest = map_any f g h xs in λ i. first i ∷ rest i)

abbrev one_of : ℕ → ℕ × SeatRow → ℕ
one_of user e = cond (nat_eq user e.1.user) 1 0

pub count_pushed : (user ticket : ℕ) (row : SeatRow) (seats : List (ℕ × SeatRow)) → count_of user (seats ++ (ticket, row) ∷ []) ≡ count_of user seats + cond (nat_eq user row.user) 1 0
count_pushed user ticket row [] = omega arith
count_pushed user ticket row (e ∷ seats) = (let rest = count_pushed user ticket row seats in omega (arith, rest))

pub count_pairs : (old new : List (ℕ × UserRow)) (user : ℕ) (es fs : List (ℕ × SeatRow)) → ArePairs (IsSameSeat old new) es fs → count_of user fs ≡ count_of user es
count_pairs old new user [] [] k = refl
count_pairs old new user (e ∷ es) (f ∷ fs) k = (let same = k.0.user in let rest = count_pairs old new user es fs k.1 in λ i. (let n : ℕ = cond (nat_eq user (same i)) 1 0 in n) + rest i)
count_pairs old new user [] (f ∷ fs) k = absurd k
count_pairs old new user (e ∷ es) [] k = absurd k

-- where none is counted, no seat is the user's
pub count_none : (user : ℕ) (seats : List (ℕ × SeatRow)) → count_of user seats ≡ 0 → AllByRecursion (λ e. e.1.user ≢ user) seats
count_none user [] h = tt
count_none user (e ∷ seats) h = (go (nat_eq user e.1.user) refl h, count_none user seats (rest (nat_eq user e.1.user) h))
  where
    go : (b : Bool) → nat_eq user e.1.user ≡ b → cond b 1 0 + count_of user seats ≡ 0 → e.1.user ≢ user
    go true q k = absurd (omega (arith, k))
    go false q k = λ same. true≢false (sym (let met : nat_eq user e.1.user ≡ true = grind (arith, nat_tests) in met) ∙ q)

    rest : (b : Bool) → cond b 1 0 + count_of user seats ≡ 0 → count_of user seats ≡ 0
    rest true k = absurd (omega (arith, k))
    rest false k = omega (arith, k)

pub count_without : (user ticket : ℕ) (row : SeatRow) (seats : List (ℕ × SeatRow)) → HasDistinctNumbers seats → lookup (nat_eq ticket) seats ≡ Some row → count_of user seats ≡ count_of user (without ticket seats) + cond (nat_eq user row.user) 1 0
count_without user ticket row [] distinct found = absurd (none-some row found)
count_without user ticket row (e ∷ seats) distinct found = go (nat_eq ticket e.0) refl found (λ f. count_without user ticket row seats distinct.1 f)
  where
    gone : (m : ℕ) (fs : List (ℕ × SeatRow)) → IsUnused m fs → without m fs ≡ fs
    gone m fs h = without_unused m fs h

    go : (b : Bool) → nat_eq ticket e.0 ≡ b → cond b (Some e.1) (lookup (nat_eq ticket) seats) ≡ Some row → (lookup (nat_eq ticket) seats ≡ Some row → count_of user seats ≡ count_of user (without ticket seats) + cond (nat_eq user row.user) 1 0)
        → count_of user (e ∷ seats) ≡ count_of user (cond (not b) (e ∷ without ticket seats) (without ticket seats)) + cond (nat_eq user row.user) 1 0
    go true q f later =
        let here : ticket ≡ e.0 = grind (arith, nat_tests) in
        let is : e.1.user ≡ row.user = ap (λ (r : SeatRow). r.user) (same_Some _ _ f) in
        let one : one_of user e ≡ cond (nat_eq user row.user) 1 0 = ap (λ u. let n : ℕ = cond (nat_eq user u) 1 0 in n) is in
        let rest : count_of user (without ticket seats) ≡ count_of user seats = ap (count_of user) (ap (λ k. without k seats) here ∙ gone e.0 seats distinct.0) in
        omega (arith, one, rest)
    go false q f later = (let rest = later f in omega (arith, rest))
