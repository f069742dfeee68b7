-- When something waits.
use Rattle.ynl_resource.specs.declared.amounts.Resource.{Resource}
use Rattle.ynl_lanes.specs.declared.lane.search.WaitsWithin.{WaitsWithin}
use Rattle.ynl_lanes.specs.lows.Lows.{no_size, IsBelow}
use Rattle.ynl_lanes.specs.lows.Order.{below-trans}

-- something waits where the least is not that of no sizes
abbrev pub IsWaiting : Resource → Type 0
IsWaiting low = ¬ (IsBelow no_size low)

-- and so it is for all below
pub waiting-below : (x y : Resource) → IsBelow x y → IsWaiting y → IsWaiting x
waiting-below x y h k all = k (below-trans no_size x y all h)

-- something waits, and the least fits in a room
pub record IsWaitingWithin (test : WaitsWithin) (low : Resource) : Type 0 where
  pub waiting : IsWaiting low
  pub room : IsBelow low test.room

pub waiting_within-below : (test : WaitsWithin) (x y : Resource) → IsBelow x y → IsWaitingWithin test y → IsWaitingWithin test x
waiting_within-below test x y h k = record { waiting = waiting-below x y h k.waiting; room = below-trans x y test.room h k.room }
