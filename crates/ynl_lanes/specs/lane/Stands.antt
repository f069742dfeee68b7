-- Where users stand in a lane.
use Rattle.std.specs.Prelude.{◌≡◌, ◌≢◌, ℕ, ◌≤◌, List, length, Some, nat_eq, slice_index_or}
use Rattle.std.specs.Map.{lookup}
use Rattle.ynl_lanes.specs.declared.lows.users.UserLow.{UserLow}
use Rattle.ynl_lanes.specs.lows.Users.{no_user}
use Rattle.ynl_lanes.specs.declared.lane.kinds.Kind.{Kind}
use Rattle.ynl_lanes.specs.lane.Lined.{Lined}
use Rattle.ynl_lanes.specs.declared.lane.rows.SeatRow.{SeatRow}
use Rattle.ynl_lanes.specs.declared.lane.rows.UserRow.{UserRow}
use Rattle.ynl_lanes.specs.lane.Lines.{values_of}
use Rattle.ynl_lanes.specs.lane.Found.{EachSeat}
use Rattle.ynl_lanes.specs.lane.Rows.{waits_in}
use Rattle.ynl_lanes.specs.lane.Waiting.{IsWaiting}

-- the user's first seat at which something of a kind waits
pub record IsFirstWaiting (user : ℕ) (kind : Kind) (seats : List (ℕ × SeatRow)) (users : List (ℕ × UserRow)) (ticket : ℕ) : Type 0 where
  pub row : SeatRow
  pub found : lookup (nat_eq ticket) seats ≡ Some row
  pub own : row.user ≡ user
  pub waits : IsWaiting (waits_in kind users row)
  pub first : EachSeat (λ _ e. e.user ≡ user → IsWaiting (waits_in kind users e) → row.slot ≤ e.slot) seats

-- nothing of a kind waits at any of the user's seats
abbrev pub NoneWaits : ℕ → Kind → List (ℕ × SeatRow) → List (ℕ × UserRow) → Type 0
NoneWaits user kind seats users = EachSeat (λ _ e. e.user ≡ user → ¬ (IsWaiting (waits_in kind users e))) seats

-- of the values in a lane, only some of a kind at the seats of a user change
pub record ChangesStand (user : ℕ) (kind : Kind) (seats : List (ℕ × SeatRow)) (old new : Lined UserLow) : Type 0 where
  pub tickets : new.tickets ≡ old.tickets
  pub count : (k : Kind) → length (values_of k new) ≡ length (values_of k old)
  pub kinds : (k : Kind) → k ≢ kind → values_of k new ≡ values_of k old
  pub others : EachSeat (λ _ e. e.user ≢ user → slice_index_or (values_of kind new) e.slot no_user ≡ slice_index_or (values_of kind old) e.slot no_user) seats
