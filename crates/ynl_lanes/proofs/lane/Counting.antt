-- How many users have a seat.
use Rattle.std.proofs.Common.{◌≡◌, ◌≢◌, ℕ, ◌+◌, ◌<◌, ⊎_elim, Bool, true, false, cond, not, ◌||◌, List, [], ◌∷◌, map, length, Option, Some, None, nat_eq, refl, sym, ap, subst, ◌∙◌, arith, true≢false}
use Rattle.std.specs.List.{list_any}
use Rattle.std.specs.Map.{lookup}
use Rattle.std.specs.Option.{option_map_or}
use Rattle.std.proofs.lemmas.Bool.{cases_eq, eq-eqb, eqb-true}
use Rattle.std.proofs.lemmas.Bool.Decides.{nat_tests}
use Rattle.std.proofs.lemmas.Option.{same_Some, none-some}
use Rattle.ynl_slots.specs.Slots.{HasDistinctNumbers, without}
use Rattle.ynl_lanes.specs.declared.lane.rows.SeatRow.{SeatRow}
use Rattle.ynl_lanes.specs.declared.lane.rows.UserRow.{UserRow}
use Rattle.ynl_lanes.specs.declared.lane.rows.Rows.{Rows}
use Rattle.ynl_lanes.specs.lane.Fields.{user_by, seat_of, count_of, AreUsersOf}
use Rattle.ynl_lanes.specs.lane.Rows.{EachUser, IsKept}
use Rattle.ynl_lanes.specs.lane.Seats.{Seat, each_once}
use Rattle.ynl_lanes.proofs.lane.Lists.{all_then, was_without, found_without, distinct_without}
use Rattle.ynl_lanes.proofs.lane.Keeping.{count_zero, have_rows, keyed_of}
use Rattle.ynl_lanes.proofs.lane.Keys.{without_unused}
use Rattle.ynl_lanes.proofs.lane.Views.{HaveRows}

-- a row less
pub length_without : {X : Type 0} (m : ℕ) (x : X) (es : List (ℕ × X)) → HasDistinctNumbers es → lookup (nat_eq m) es ≡ Some x → length es ≡ length (without m es) + 1
length_without m x [] distinct found = absurd (none-some x found)
length_without {X = X} m x (e ∷ es) distinct found = go (nat_eq m e.0) refl found (λ f. length_without m x es distinct.1 f)
  where
    go : (b : Bool) → nat_eq m e.0 ≡ b → cond b (Some e.1) (lookup (nat_eq m) es) ≡ Some x → (lookup (nat_eq m) es ≡ Some x → length es ≡ length (without m es) + 1) → length (e ∷ es) ≡ length (cond (not b) (e ∷ without m es) (without m es)) + 1
    go true q f later =
        let here : m ≡ e.0 = grind (arith, nat_tests) in
        let gone : length (without m es) ≡ length es = ap length (ap (λ k. without k es) here ∙ without_unused e.0 es distinct.0) in
        omega (arith, gone)
    go false q f later = (let rest = later f in omega (arith, rest))

-- the users of the seats
abbrev pub users_of : List (ℕ × UserRow) → List (ℕ × SeatRow) → List ℕ
users_of users es = map (λ e. user_by e.1.user users) es

pub users_shown : (users : List (ℕ × UserRow)) (es : List (ℕ × SeatRow)) → map (λ (e : ℕ × Seat). e.1.user) (map (seat_of users) es) ≡ users_of users es
users_shown users [] = refl
users_shown users (e ∷ es) = ap (λ r. user_by e.1.user users ∷ r) (users_shown users es)

module _ (numbers : ℕ → Option ℕ) (users : List (ℕ × UserRow)) (keyed : EachUser (λ number row. numbers row.user ≡ Some number) users) where
  same_number : (e f : ℕ × SeatRow) → (row : UserRow) × (lookup (nat_eq e.1.user) users ≡ Some row) → (row : UserRow) × (lookup (nat_eq f.1.user) users ≡ Some row) → nat_eq (user_by e.1.user users) (user_by f.1.user users) ≡ true → e.1.user ≡ f.1.user
  same_number e f own other h =
      let first : user_by e.1.user users ≡ own.0.user = ap (λ o. option_map_or (λ (r : UserRow). r.user) o 0) own.1 in
      let second : user_by f.1.user users ≡ other.0.user = ap (λ o. option_map_or (λ (r : UserRow). r.user) o 0) other.1 in
      let is : own.0.user ≡ other.0.user = sym first ∙ eqb-true (user_by e.1.user users) (user_by f.1.user users) h ∙ second in
      same_Some _ _ (sym (keyed e.1.user own.0 own.1) ∙ ap numbers is ∙ keyed f.1.user other.0 other.1)

  -- whether the user of a seat has another
  any_counts : (e : ℕ × SeatRow) → (row : UserRow) × (lookup (nat_eq e.1.user) users ≡ Some row) → (es : List (ℕ × SeatRow)) → HaveRows users es → list_any (nat_eq (user_by e.1.user users)) (users_of users es) ≡ true → 0 < count_of e.1.user es
  any_counts e own [] have any = absurd (true≢false (sym any))
  any_counts e own (f ∷ es) have any = go (nat_eq (user_by e.1.user users) (user_by f.1.user users)) refl any (λ a. any_counts e own es have.1 a)
    where
      go : (b : Bool) → nat_eq (user_by e.1.user users) (user_by f.1.user users) ≡ b → (b || list_any (nat_eq (user_by e.1.user users)) (users_of users es)) ≡ true → (list_any (nat_eq (user_by e.1.user users)) (users_of users es) ≡ true → 0 < count_of e.1.user es) → 0 < count_of e.1.user (f ∷ es)
      go true q a later =
          let same : e.1.user ≡ f.1.user = same_number e f own have.0 q in
          let met : nat_eq e.1.user f.1.user ≡ true = grind (arith, nat_tests) in
          let one : cond (nat_eq e.1.user f.1.user) 1 0 ≡ 1 = ap (λ (b : Bool). let n : ℕ = cond b 1 0 in n) met in
          omega (arith, one)
      go false q a later = (let rest = later a in omega (arith, rest))

  none_counts : (e : ℕ × SeatRow) → (es : List (ℕ × SeatRow)) → list_any (nat_eq (user_by e.1.user users)) (users_of users es) ≡ false → count_of e.1.user es ≡ 0
  none_counts e [] any = refl
  none_counts e (f ∷ es) any = go (nat_eq (user_by e.1.user users) (user_by f.1.user users)) refl any (λ a. none_counts e es a)
    where
      go : (b : Bool) → nat_eq (user_by e.1.user users) (user_by f.1.user users) ≡ b → (b || list_any (nat_eq (user_by e.1.user users)) (users_of users es)) ≡ false → (list_any (nat_eq (user_by e.1.user users)) (users_of users es) ≡ false → count_of e.1.user es ≡ 0) → count_of e.1.user (f ∷ es) ≡ 0
      go true q a later = absurd (true≢false a)
      go false q a later =
          let apart : e.1.user ≢ f.1.user = λ same. true≢false (sym (eq-eqb (user_by e.1.user users) (user_by f.1.user users) (ap (λ u. user_by u users) same)) ∙ q) in
          let missed : nat_eq e.1.user f.1.user ≡ false = grind (arith, nat_tests) in
          let none : cond (nat_eq e.1.user f.1.user) 1 0 ≡ 0 = ap (λ (b : Bool). let n : ℕ = cond b 1 0 in n) missed in
          let rest = later a in
          omega (arith, none, rest)

  -- some rows, of which each user of the seats has one, and no other user
  pub users_counted : (es : List (ℕ × SeatRow)) → HaveRows users es → (some : List (ℕ × UserRow)) → HasDistinctNumbers some → ((n : ℕ) → 0 < count_of n es → (row : UserRow) × (lookup (nat_eq n) some ≡ Some row)) → ((n : ℕ) (row : UserRow) → lookup (nat_eq n) some ≡ Some row → 0 < count_of n es)
      → length some ≡ length (each_once (users_of users es))
  users_counted [] have [] apart in_rows has = refl
  users_counted [] have (u ∷ some) apart in_rows has =
      let met : nat_eq u.0 u.0 ≡ true = grind (arith, nat_tests) in
      let first : lookup (nat_eq u.0) (u ∷ some) ≡ Some u.1 = ap (λ (b : Bool). cond b (Some u.1) (lookup (nat_eq u.0) some)) met in
      let none = has u.0 u.1 first in
      absurd (omega (arith, none))
  users_counted (e ∷ es) have some apart in_rows has =
      go (list_any (nat_eq (user_by e.1.user users)) (users_of users es)) refl (λ rest a i h. users_counted es have.1 rest a i h)
    where
      more : (n : ℕ) → 0 < count_of n es → 0 < count_of n (e ∷ es)
      more n h = omega (arith, h)

      one : (n : ℕ) → n ≡ e.1.user → (let k : ℕ = cond (nat_eq n e.1.user) 1 0 in k) ≡ 1
      one n same = (let met : nat_eq n e.1.user ≡ true = grind (arith, nat_tests) in ap (λ (b : Bool). let k : ℕ = cond b 1 0 in k) met)

      zero_of : (n : ℕ) → n ≢ e.1.user → (let k : ℕ = cond (nat_eq n e.1.user) 1 0 in k) ≡ 0
      zero_of n away = (let missed : nat_eq n e.1.user ≡ false = grind (arith, nat_tests) in ap (λ (b : Bool). let k : ℕ = cond b 1 0 in k) missed)

      less : (n : ℕ) → n ≢ e.1.user → 0 < count_of n (e ∷ es) → 0 < count_of n es
      less n away h = (let z = zero_of n away in omega (arith, z, h))

      go : (b : Bool) → list_any (nat_eq (user_by e.1.user users)) (users_of users es) ≡ b
          → ((rest : List (ℕ × UserRow)) → HasDistinctNumbers rest → ((n : ℕ) → 0 < count_of n es → (row : UserRow) × (lookup (nat_eq n) rest ≡ Some row)) → ((n : ℕ) (row : UserRow) → lookup (nat_eq n) rest ≡ Some row → 0 < count_of n es) → length rest ≡ length (each_once (users_of users es)))
          → length some ≡ length (cond b (each_once (users_of users es)) (user_by e.1.user users ∷ each_once (users_of users es)))
      go true q again =
          let twice : 0 < count_of e.1.user es = any_counts e have.0 es have.1 q in
          again some apart (λ n h. in_rows n (more n h)) (λ n row there. ⊎_elim (λ same. subst (λ k. 0 < count_of k es) (sym same) twice) (λ away. less n away (has n row there)) (cases_eq n e.1.user))
      go false q again =
          let once : count_of e.1.user es ≡ 0 = none_counts e es q in
          let o = one e.1.user refl in
          let own = in_rows e.1.user (omega (arith, o)) in
          let rest = again (without e.1.user some) (distinct_without e.1.user some apart)
          (λ n h.
          let away : n ≢ e.1.user = λ same. (let here : count_of n es ≡ 0 = ap (λ k. count_of k es) same ∙ once in omega (arith, h, here)) in
          let row = in_rows n (more n h) in
          (row.0, found_without e.1.user n row.0 some away row.1))
          (λ n row there. (let was = was_without e.1.user n row some there in less n was.0 (has n row was.1))) in
          let fewer = length_without e.1.user own.0 some apart own.1 in
          omega (arith, fewer, rest)

module _ (numbers : ℕ → Option ℕ) (ready : Option ℕ) (rows : Rows) (kept : IsKept rows) (h : AreUsersOf numbers ready rows.seats.entries rows.users.entries) (apart : HasDistinctNumbers rows.users.entries) where
  -- a user of whom a seat is counted has a row
  counted_row : (n : ℕ) → 0 < count_of n rows.seats.entries → (row : UserRow) × (lookup (nat_eq n) rows.users.entries ≡ Some row)
  counted_row n some = go (lookup (nat_eq n) rows.users.entries) refl
    where
      none : lookup (nat_eq n) rows.users.entries ≡ None → ⊥
      none gone =
          let zero : count_of n rows.seats.entries ≡ 0 = count_zero n rows.seats.entries (all_then (λ e. (row : UserRow) × (lookup (nat_eq e.1.user) rows.users.entries ≡ Some row)) (λ e. e.1.user ≢ n)
          (λ e own same. none-some own.0 (sym gone ∙ ap (λ k. lookup (nat_eq k) rows.users.entries) (sym same) ∙ own.1)) rows.seats.entries (have_rows rows kept)) in
          omega (arith, zero, some)

      go : (o : Option UserRow) → lookup (nat_eq n) rows.users.entries ≡ o → (row : UserRow) × (lookup (nat_eq n) rows.users.entries ≡ Some row)
      go (Some row) q = (row, q)
      go None q = absurd (none q)

  -- where each user has a seat
  pub counted_all : ((n : ℕ) (row : UserRow) → lookup (nat_eq n) rows.users.entries ≡ Some row → 0 < row.live) → length rows.users.entries ≡ length (each_once (users_of rows.users.entries rows.seats.entries))
  counted_all live = users_counted numbers rows.users.entries (keyed_of numbers ready rows.seats.entries rows.users.entries h) rows.seats.entries (have_rows rows kept) rows.users.entries apart counted_row
      (λ n row there. (let some = live n row there in let counted = (h n row there).counted in omega (arith, some, counted)))

  -- where each but one does
  pub counted_but : (user : ℕ) (own : UserRow) → lookup (nat_eq user) rows.users.entries ≡ Some own → own.live ≡ 0 → ((n : ℕ) (row : UserRow) → n ≢ user → lookup (nat_eq n) rows.users.entries ≡ Some row → 0 < row.live) → length rows.users.entries ≡ length (each_once (users_of rows.users.entries rows.seats.entries)) + 1
  counted_but user own found none live =
      let counted = users_counted numbers rows.users.entries (keyed_of numbers ready rows.seats.entries rows.users.entries h) rows.seats.entries (have_rows rows kept) (without user rows.users.entries) (distinct_without user rows.users.entries apart)
      (λ n some.
      let idle : count_of user rows.seats.entries ≡ 0 = sym (h user own found).counted ∙ none in
      let away : n ≢ user = λ same. (let here : count_of n rows.seats.entries ≡ 0 = ap (λ k. count_of k rows.seats.entries) same ∙ idle in omega (arith, some, here)) in
      let row = counted_row n some in
      (row.0, found_without user n row.0 rows.users.entries away row.1))
      (λ n row there. (let was = was_without user n row rows.users.entries there in let some = live n row was.0 was.1 in let counted = (h n row was.1).counted in omega (arith, some, counted))) in
      let fewer = length_without user own rows.users.entries apart found in
      omega (arith, counted, fewer)
