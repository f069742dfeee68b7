-- What a search of the rows finds.
use Rattle.std.specs.Prelude.{◌≡◌, ℕ, ◌<◌, ◌≤◌, List, Option, Some, IsSome, nat_eq}
use Rattle.std.specs.Map.{lookup}
use Rattle.ynl_resource.specs.declared.amounts.Resource.{Resource}
use Rattle.ynl_lanes.specs.declared.lane.kinds.Kind.{Kind}
use Rattle.ynl_lanes.specs.declared.lane.rows.SeatRow.{SeatRow}
use Rattle.ynl_lanes.specs.declared.lane.rows.UserRow.{UserRow}
use Rattle.ynl_lanes.specs.declared.lane.search.Found.{Found}
use Rattle.ynl_lanes.specs.lane.Found.{EachSeat}
use Rattle.ynl_lanes.specs.lane.Rows.{used_by, waits_in}
use Rattle.ynl_lanes.specs.lane.Waiting.{IsWaiting}

-- each of some seats whose application is given something stands in this slot or behind it
abbrev pub NoneBefore : {F : Type 0} → (SeatRow → Type 0) → (ℕ → Option F) → List (ℕ × SeatRow) → ℕ → Type 0
NoneBefore holds gives seats slot = EachSeat (λ _ row. holds row → IsSome (gives row.app) → slot ≤ row.slot) seats

-- the first of some seats whose application is given something, which stands before a slot
pub record IsFirstGiven {F : Type 0} (holds : SeatRow → Type 0) (gives : ℕ → Option F) (seats : List (ℕ × SeatRow)) (limit : ℕ) (found : Found F) : Type 0 where
  pub row : SeatRow
  pub there : lookup (nat_eq found.ticket) seats ≡ Some row
  pub at : row.slot ≡ found.slot
  pub before : found.slot < limit
  pub here : holds row
  pub given : gives row.app ≡ Some found.given
  pub first : NoneBefore holds gives seats found.slot

-- the seat is of this user, and what waits there passes a test
pub record IsOwn (users : List (ℕ × UserRow)) (user : ℕ) (kind : Kind) (passes : Resource → Type 0) (row : SeatRow) : Type 0 where
  pub own : row.user ≡ user
  pub fits : passes (waits_in kind users row)

-- something of a kind waits at the seat
abbrev pub WaitsAt : Kind → List (ℕ × UserRow) → SeatRow → Type 0
WaitsAt kind users row = IsWaiting (waits_in kind users row)

-- so it does at a seat of the user of the seat in a slot
abbrev pub IsOfStand : ℕ → Kind → List (ℕ × SeatRow) → List (ℕ × UserRow) → SeatRow → Type 0
IsOfStand stand kind seats users row = (ticket : ℕ) × (own : SeatRow) × (lookup (nat_eq ticket) seats ≡ Some own) × (own.slot ≡ stand) × IsOwn users own.user kind IsWaiting row

-- where an application is given something at whose seat something of a kind waits, its user may have what waits
abbrev pub MayHaveGiven : {F : Type 0} → Kind → (Resource → Resource → Type 0) → (ℕ → Option F) → List (ℕ × SeatRow) → List (ℕ × UserRow) → Type 0
MayHaveGiven kind may gives seats users = EachSeat (λ _ row. WaitsAt kind users row → IsSome (gives row.app) → may (used_by row.user users) (waits_in kind users row)) seats
