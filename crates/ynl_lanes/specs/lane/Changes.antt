-- How rows change.
use Rattle.std.specs.Prelude.{◌≡◌, ◌≢◌, ◌<◌, ◌^◌, ℕ, option_map, ◌-◌, ◌+◌, List, [], ◌∷◌, ◌++◌, length, Some, nat_eq, slice_index_or, slice_set}
use Rattle.std.specs.Map.{lookup}
use Rattle.ynl_resource.specs.declared.amounts.Resource.{Resource}
use Rattle.ynl_slots.specs.Slots.{IsUnused, with_row}
use Rattle.ynl_lanes.specs.lows.Lows.{no_size}
use Rattle.ynl_lanes.specs.declared.lane.kinds.Both.{Both}
use Rattle.ynl_lanes.specs.declared.lane.kinds.Kind.{Kind}
use Rattle.ynl_lanes.specs.declared.lane.rows.SeatRow.{SeatRow}
use Rattle.ynl_lanes.specs.declared.lane.rows.UserRow.{UserRow}
use Rattle.ynl_lanes.specs.lane.Found.{EachSeat}
use Rattle.ynl_lanes.specs.lane.Kinds.{of_kind}
use Rattle.ynl_lanes.specs.lane.Lines.{HasRoom}
use Rattle.ynl_lanes.specs.lane.Rows.{own_values, waits_in, WaitSame}

-- other things wait at a seat, and the same at the others
pub record SetsWaits (ticket : ℕ) (waits : Both Resource) (seats : List (ℕ × SeatRow)) (old new : List (ℕ × UserRow)) : Type 0 where
  pub row : SeatRow
  pub found : lookup (nat_eq ticket) seats ≡ Some row
  pub own : (kind : Kind) → waits_in kind new row ≡ of_kind kind waits
  pub others : EachSeat (λ n e. n ≢ ticket → WaitSame old new e) seats

-- the same waits at each seat
abbrev pub KeepWaits : List (ℕ × UserRow) → List (ℕ × UserRow) → List (ℕ × SeatRow) → Type 0
KeepWaits old new seats = EachSeat (λ _ row. WaitSame old new row) seats

-- a user's line has values at a slot
abbrev pub HasValuesAt : ℕ → ℕ → List (ℕ × UserRow) → Type 0
HasValuesAt user slot users = (row : UserRow) → lookup (nat_eq user) users ≡ Some row → (slot < length row.line.masters) × (slot < length row.line.asks)

-- just these
abbrev pub AreValues : ℕ → ℕ → Both Resource → List (ℕ × UserRow) → Type 0
AreValues user slot waits users = (kind : Kind) → slice_index_or (own_values kind user users) slot no_size ≡ of_kind kind waits

-- the user's line has what waits at a slot
pub record SetsValues (user slot : ℕ) (waits : Both Resource) (old new : List (ℕ × UserRow)) : Type 0 where
  pub row : UserRow
  pub found : lookup (nat_eq user) old ≡ Some row
  pub next : UserRow
  pub entries : new ≡ with_row user next old
  pub user_is : next.user ≡ row.user
  pub used : next.used ≡ row.used
  pub live : next.live ≡ row.live
  pub tickets : next.line.tickets ≡ row.line.tickets
  pub masters : next.line.masters ≡ slice_set row.line.masters slot waits.master
  pub asks : next.line.asks ≡ slice_set row.line.asks slot waits.ask

-- a user uses another amount
pub record SetsUsed (user : ℕ) (used : Resource) (old new : List (ℕ × UserRow)) : Type 0 where
  pub row : UserRow
  pub found : lookup (nat_eq user) old ≡ Some row
  pub entries : new ≡ with_row user (record row { used = used }) old

-- there is room for one more seat of a user
abbrev pub IsOwnRoom : ℕ → List (ℕ × UserRow) → Type 0
IsOwnRoom user users = (row : UserRow) → lookup (nat_eq user) users ≡ Some row → HasRoom row.line × (row.live < 2 ^ 32 - 1)

-- one more seat comes last in a user's line, where nothing waits
pub record PushesOwn (user ticket : ℕ) (old new : List (ℕ × UserRow)) : Type 0 where
  pub row : UserRow
  pub found : lookup (nat_eq user) old ≡ Some row
  pub next : UserRow
  pub entries : new ≡ with_row user next old
  pub user_is : next.user ≡ row.user
  pub used : next.used ≡ row.used
  pub live : next.live ≡ row.live + 1
  pub tickets : next.line.tickets ≡ row.line.tickets ++ ticket ∷ []
  pub masters : next.line.masters ≡ slice_set row.line.masters (length row.line.tickets) no_size
  pub asks : next.line.asks ≡ slice_set row.line.asks (length row.line.tickets) no_size

-- a seat of a user comes last, at which nothing waits
pub record PushesSeat (app user ticket : ℕ) (users : List (ℕ × UserRow)) (old new : List (ℕ × SeatRow)) : Type 0 where
  pub row : SeatRow
  pub entries : new ≡ old ++ (ticket, row) ∷ []
  pub unused : IsUnused ticket old
  pub app_is : row.app ≡ app
  pub user_is : row.user ≡ user
  pub waits : (kind : Kind) → waits_in kind users row ≡ no_size

-- a user has one seat less
pub record IsPulled (user : ℕ) (old new : List (ℕ × UserRow)) : Type 0 where
  pub row : UserRow
  pub found : lookup (nat_eq user) old ≡ Some row
  pub entries : new ≡ with_row user (record row { live = row.live - 1 }) old

-- what a lane shows of a user's row
pub record Shown : Type 0 where
  pub user : ℕ
  pub used : Resource
  pub live : ℕ

abbrev pub shown : UserRow → Shown
shown row = record { user = row.user; used = row.used; live = row.live }

-- the users show the same
abbrev pub ShowSame : List (ℕ × UserRow) → List (ℕ × UserRow) → Type 0
ShowSame old new = (user : ℕ) → option_map shown (lookup (nat_eq user) new) ≡ option_map shown (lookup (nat_eq user) old)

-- and one shows something else
pub record ShowsOther (user : ℕ) (next : Shown → Shown) (old new : List (ℕ × UserRow)) : Type 0 where
  pub own : option_map shown (lookup (nat_eq user) new) ≡ option_map (λ row. next (shown row)) (lookup (nat_eq user) old)
  pub others : (other : ℕ) → other ≢ user → option_map shown (lookup (nat_eq other) new) ≡ option_map shown (lookup (nat_eq other) old)
