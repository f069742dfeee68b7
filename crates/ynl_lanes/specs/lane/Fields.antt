-- What the rows of a lane mean, and how they go together with its users' numbers.
use Rattle.std.specs.Prelude.{◌≡◌, ◌≢◌, ℕ, ◌<◌, List, [], ◌∷◌, ◌++◌, map, Option, Some, None, Result, Ok, Err, option_map, IfSome, nat_eq, ◌+◌, if◌then◌else◌}
use Rattle.std.specs.BTreeMap.{get}
use Rattle.ynl_resource.specs.declared.amounts.Resource.{Resource}
use Rattle.ynl_resource.specs.Amounts.{nothing}
use Rattle.std.specs.Ordering.{nat_cmp}
use Rattle.ynl_slots.specs.Slots.{IsLive, IsUnused}
use Rattle.ynl_lanes.specs.declared.lane.kinds.Both.{Both}
use Rattle.ynl_lanes.specs.declared.lane.kinds.Kind.TheVariants.{Master, Ask}
use Rattle.ynl_lanes.specs.declared.lane.rows.SeatRow.{SeatRow}
use Rattle.ynl_lanes.specs.declared.lane.rows.UserRow.{UserRow}
use Rattle.ynl_lanes.specs.declared.lane.rows.Rows.{Rows}
use Rattle.ynl_lanes.specs.declared.lane.lane.Lane.TheInside.{Inside}
use Rattle.ynl_lanes.specs.lane.Changes.{IsOwnRoom, Shown, shown}
use Rattle.ynl_lanes.specs.lane.Lines.{HasRoom}
use Rattle.ynl_lanes.specs.lane.Rows.{of_user, used_by, waits_in, EachUser, IsKept}
use Rattle.ynl_lanes.specs.lane.Seats.{Seat, Seats}

-- the user of the row under a number
abbrev pub user_by : ℕ → List (ℕ × UserRow) → ℕ
user_by = of_user (λ row. row.user) 0

-- what waits of each kind at a seat
abbrev pub both_in : List (ℕ × UserRow) → SeatRow → Both Resource
both_in users row = record { master = waits_in Master users row; ask = waits_in Ask users row }

-- a seat as a contract sees it
abbrev pub seat_of : List (ℕ × UserRow) → ℕ × SeatRow → ℕ × Seat
seat_of users e = (e.0, record { app = e.1.app; user = user_by e.1.user users; used = used_by e.1.user users; waits = both_in users e.1 })

-- what a contract sees
abbrev pub seats_of : Inside → Seats
seats_of a = record {
  seats = map (seat_of a.rows.users.entries) a.rows.seats.entries;
  ready = option_map (λ user. user_by user a.rows.users.entries) a.ready;
}

-- there is room for the next seat of a user
pub record IsReady (rows : Rows) (user : ℕ) : Type 0 where
  pub live : IsLive user rows.users.entries
  pub seat_room : 0 < rows.seats.room
  pub room : HasRoom rows.line
  pub own_room : IsOwnRoom user rows.users.entries

-- how many seats a user has
abbrev pub count_of : ℕ → List (ℕ × SeatRow) → ℕ
count_of user [] = 0
count_of user (e ∷ seats) = (if nat_eq user e.1.user then 1 else 0) + count_of user seats

-- a user is found, has as many seats as are counted, none only while room is kept for one, and uses nothing then
pub record IsUserOf (numbers : ℕ → Option ℕ) (ready : Option ℕ) (seats : List (ℕ × SeatRow)) (number : ℕ) (user : Shown) : Type 0 where
  pub keyed : numbers user.user ≡ Some number
  pub counted : user.live ≡ count_of number seats
  pub some : ready ≢ Some number → 0 < user.live
  pub spare : user.live ≡ 0 → user.used ≡ nothing

abbrev pub AreUsersOf : (ℕ → Option ℕ) → Option ℕ → List (ℕ × SeatRow) → List (ℕ × UserRow) → Type 0
AreUsersOf numbers ready seats users = EachUser (λ number row. IsUserOf numbers ready seats number (shown row)) users

-- each user is found
abbrev pub AreKeyed : (ℕ → Option ℕ) → List (ℕ × UserRow) → Type 0
AreKeyed numbers users = EachUser (λ number row. numbers row.user ≡ Some number) users

-- what was returned, if anything
abbrev pub ok_of : {X E : Type 0} → Result X E → Option X
ok_of (Ok x) = Some x
ok_of (Err e) = None

-- a row for a user comes, with room for a seat
pub record Opens (number user : ℕ) (old new : List (ℕ × UserRow)) : Type 0 where
  pub row : UserRow
  pub entries : new ≡ old ++ (number, row) ∷ []
  pub unused : IsUnused number old
  pub shown_is : shown row ≡ record { user = user; used = nothing; live = 0 }
  pub room : HasRoom row.line

pub record IsLane (a : Inside) : Type 0 where
  pub kept : IsKept a.rows
  pub users : AreUsersOf (λ user. get nat_cmp a.numbers user) a.ready a.rows.seats.entries a.rows.users.entries
  pub ready : IfSome a.ready (IsReady a.rows)
