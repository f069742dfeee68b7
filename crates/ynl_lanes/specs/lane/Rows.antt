-- How the rows of a lane go together.
use Rattle.std.specs.Prelude.{◌≡◌, ◌≢◌, ℕ, ◌≤◌, ◌^◌, List, [], Some, nat_eq, slice_index_or}
use Rattle.std.specs.Option.{option_map_or}
use Rattle.std.specs.Map.{lookup}
use Rattle.ynl_resource.specs.declared.amounts.Resource.{Resource}
use Rattle.ynl_resource.specs.Amounts.{nothing}
use Rattle.ynl_slots.specs.Slots.{HasDistinctNumbers}
use Rattle.ynl_lanes.specs.declared.lows.users.UserLow.{UserLow}
use Rattle.ynl_lanes.specs.lows.Lows.{no_size}
use Rattle.ynl_lanes.specs.lows.Users.{IsBelowRequest, no_user}
use Rattle.ynl_lanes.specs.declared.lane.kinds.Kind.{Kind}
use Rattle.ynl_lanes.specs.declared.lane.levels.Level.{Level}
use Rattle.ynl_lanes.specs.declared.lane.levels.Level.TheVariants.{Lane, User}
use Rattle.ynl_lanes.specs.declared.lane.rows.SeatRow.{SeatRow}
use Rattle.ynl_lanes.specs.declared.lane.rows.UserRow.{UserRow}
use Rattle.ynl_lanes.specs.declared.lane.rows.Rows.{Rows}
use Rattle.ynl_lanes.specs.lane.Levels.{AreIn}
use Rattle.ynl_lanes.specs.lane.Lines.{values_of, IsLine}
use Rattle.ynl_lanes.specs.lane.Found.{EachSeat}
use Rattle.ynl_lanes.specs.lane.Waiting.{IsWaiting}

-- something of the user under a number, or else this
abbrev pub of_user : {X : Type 0} → (UserRow → X) → X → ℕ → List (ℕ × UserRow) → X
of_user f none user users = option_map_or f (lookup (nat_eq user) users) none

-- the tickets of a user's line
abbrev pub own_tickets : ℕ → List (ℕ × UserRow) → List ℕ
own_tickets = of_user (λ row. row.line.tickets) []

-- the values of a user's line
abbrev pub own_values : Kind → ℕ → List (ℕ × UserRow) → List Resource
own_values kind = of_user (λ row. values_of kind row.line) []

-- what a user uses
abbrev pub used_by : ℕ → List (ℕ × UserRow) → Resource
used_by = of_user (λ row. row.used) nothing

-- the tickets of a line
abbrev pub tickets_in : Level → Rows → List ℕ
tickets_in Lane rows = rows.line.tickets
tickets_in (User user) rows = own_tickets user rows.users.entries

-- how much a user may use: at most 2^48 of each
pub record IsUse (used : Resource) : Type 0 where
  pub memory : used.memory ≤ 2 ^ 48
  pub vcores : used.vcores ≤ 2 ^ 48

-- what waits of a kind at a seat: the user's line has it
abbrev pub waits_in : Kind → List (ℕ × UserRow) → SeatRow → Resource
waits_in kind users row = slice_index_or (own_values kind row.user users) row.own_slot no_size

-- the same waits at a seat
abbrev pub WaitSame : List (ℕ × UserRow) → List (ℕ × UserRow) → SeatRow → Type 0
WaitSame old new row = (kind : Kind) → waits_in kind new row ≡ waits_in kind old row

-- what holds of each user
abbrev pub EachUser : (ℕ → UserRow → Type 0) → List (ℕ × UserRow) → Type 0
EachUser holds users = (number : ℕ) (row : UserRow) → lookup (nat_eq number) users ≡ Some row → holds number row

-- the user has a line, and uses no more than may be
pub record IsUserRow (number : ℕ) (row : UserRow) : Type 0 where
  pub line : IsLine row.line
  pub small : IsUse row.used

-- each seat stands in the line of the lane and in that of its user, in order
pub record IsSeated (rows : Rows) : Type 0 where
  pub distinct : HasDistinctNumbers rows.seats.entries
  pub lines : (level : Level) → AreIn level (tickets_in level rows) rows.seats.entries
  pub line : IsLine rows.line
  pub users : EachUser IsUserRow rows.users.entries

-- for what waits at a seat, its user stands at it or before it, with no more than that needs
pub record IsStood (kind : Kind) (seats : List (ℕ × SeatRow)) (users : List (ℕ × UserRow)) (values : List UserLow) (row : SeatRow) : Type 0 where
  pub ticket : ℕ
  pub stand : SeatRow
  pub found : lookup (nat_eq ticket) seats ≡ Some stand
  pub user : stand.user ≡ row.user
  pub waits : IsWaiting (waits_in kind users stand)
  pub front : stand.slot ≤ row.slot
  pub low : IsBelowRequest (slice_index_or values stand.slot no_user) (used_by row.user users) (waits_in kind users row)

-- so it is wherever something waits
abbrev pub AreStood : Kind → Rows → Type 0
AreStood kind rows =
    EachSeat (λ _ row. IsWaiting (waits_in kind rows.users.entries row) → IsStood kind rows.seats.entries rows.users.entries (values_of kind rows.line) row) rows.seats.entries

-- and so it is for all users but one
abbrev pub AreStoodBut : ℕ → Kind → Rows → Type 0
AreStoodBut user kind rows =
    EachSeat (λ _ row. row.user ≢ user → IsWaiting (waits_in kind rows.users.entries row) → IsStood kind rows.seats.entries rows.users.entries (values_of kind rows.line) row) rows.seats.entries

-- all that a search wants
pub record IsKept (rows : Rows) : Type 0 where
  pub seated : IsSeated rows
  pub stood : (kind : Kind) → AreStood kind rows
