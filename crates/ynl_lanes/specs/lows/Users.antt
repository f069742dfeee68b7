-- The least of a user, as contracts see it.
use Rattle.ynl_resource.specs.declared.amounts.Resource.{Resource}
use Rattle.ynl_lanes.specs.declared.lows.users.UserLow.{UserLow}
use Rattle.ynl_lanes.specs.lows.Lows.{IsLow, IsAmount, IsBelow, no_size, no_use}

-- of no user
abbrev pub no_user : UserLow
no_user = record { low = no_size; used = no_use }

-- how large the parts may be
pub record IsUserLow (user : UserLow) : Type 0 where
  pub low : IsLow user.low
  pub used : IsAmount user.used

-- the first is at or below the second, part by part
pub record IsUserBelow (first second : UserLow) : Type 0 where
  pub low : IsBelow first.low second.low
  pub used : IsBelow first.used second.used

-- the user's least is at or below a request of that size, where the user uses so much
abbrev pub IsBelowRequest : UserLow → Resource → Resource → Type 0
IsBelowRequest user used size = IsUserBelow user (record { low = size; used = used })

-- and so it is for each request at or above some least
abbrev pub IsBelowRequests : UserLow → Resource → Resource → Type 0
IsBelowRequests user used low = (size : Resource) → IsBelow low size → IsBelowRequest user used size
