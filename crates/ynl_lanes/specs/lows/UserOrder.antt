-- The order of the least of users, part by part.
use Rattle.ynl_lanes.specs.declared.lows.users.UserLow.{UserLow}
use Rattle.ynl_lanes.specs.lows.Users.{IsUserLow, IsUserBelow, no_user}
use Rattle.ynl_lanes.specs.lows.Order.{below-refl, below-trans, below-no_size, below-no_use}

pub user_below-refl : (x : UserLow) → IsUserBelow x x
user_below-refl x = record { low = below-refl x.low; used = below-refl x.used }

pub user_below-trans : (x y z : UserLow) → IsUserBelow x y → IsUserBelow y z → IsUserBelow x z
user_below-trans x y z h k = record {
  low = below-trans x.low y.low z.low h.low k.low;
  used = below-trans x.used y.used z.used h.used k.used;
}

-- none is above what stands for no user
pub user_below-no_user : (x : UserLow) → IsUserLow x → IsUserBelow x no_user
user_below-no_user x h = record { low = below-no_size x.low h.low; used = below-no_use x.used h.used }
