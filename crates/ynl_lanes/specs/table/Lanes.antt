-- The lanes of a cluster, as contracts see them.
use Rattle.std.specs.Prelude.{◌≡◌, ℕ, ◌<◌, List, [], length, None, Some, Result, IfSome, OnOk, OnErr, nat_eq, slice_index_or, slice_set}
use Rattle.std.specs.Map.{lookup}
use Rattle.ynl_resource.specs.declared.amounts.Resource.{Resource}
use Rattle.ynl_slots.specs.Slots.{without}
use Rattle.ynl_lanes.specs.declared.lane.kinds.Both.{Both}
use Rattle.ynl_lanes.specs.lane.Seats.{Seats, Adds, with_used, with_waits}

-- a lane with no seats
abbrev pub no_seats : Seats
no_seats = record { seats = []; ready = None }

-- the lane of a queue on a partition
abbrev pub lane_at : ℕ → ℕ → List (List Seats) → Seats
lane_at p q lanes = slice_index_or (slice_index_or lanes p []) q no_seats

-- there is a lane of the queue on the partition
pub record IsLaneAt (p q : ℕ) (lanes : List (List Seats)) : Type 0 where
  pub partition : p < length lanes
  pub queue : q < length (slice_index_or lanes p [])

-- the lanes with another of a queue on a partition
abbrev pub with_lane : ℕ → ℕ → Seats → List (List Seats) → List (List Seats)
with_lane p q lane lanes = slice_set lanes p (slice_set (slice_index_or lanes p []) q lane)

-- the lane of a queue on a partition changes, and no other
pub record Changes (p q : ℕ) (change : Seats → Seats → Type 0) (old new : List (List Seats)) : Type 0 where
  pub next : Seats
  pub lanes : new ≡ with_lane p q next old
  pub changes : change (lane_at p q old) next

-- there is room for a user's next seat, or for none if that failed
abbrev pub Reserves : {T E : Type 0} → ℕ → Result T E → Seats → Seats → Type 0
Reserves user result old new =
    (new.seats ≡ old.seats) × OnOk result (new.ready ≡ Some user) × OnErr result (new.ready ≡ None)

-- one more seat, for an application of the user for whom there was room
abbrev pub AddsOne : ℕ → ℕ → Seats → Seats → Type 0
AddsOne app ticket old new = IfSome old.ready (λ user. Adds app ticket user old.seats new.seats) × (new.ready ≡ None)

-- other things wait at a seat
abbrev pub Enters : ℕ → Both Resource → Seats → Seats → Type 0
Enters ticket waits old new = (new.seats ≡ with_waits ticket waits old.seats) × (new.ready ≡ None)

-- the user of a seat uses another amount
abbrev pub SetsUsed : ℕ → Resource → Seats → Seats → Type 0
SetsUsed ticket used old new =
    IfSome (lookup (nat_eq ticket) old.seats) (λ seat. new.seats ≡ with_used seat.user used old.seats) × (new.ready ≡ None)

-- a seat goes
abbrev pub Removes : ℕ → Seats → Seats → Type 0
Removes ticket old new = (new.seats ≡ without ticket old.seats) × (new.ready ≡ None)
