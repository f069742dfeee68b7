-- What passes the test where something above it does.
use Rattle.ynl_resource.specs.declared.amounts.Resource.{Resource}
use Rattle.ynl_lanes.specs.declared.lows.within.Within.{Within}
use Rattle.ynl_lanes.specs.lows.Lows.{IsBelow}
use Rattle.ynl_lanes.specs.lows.Tests.{IsWithin}
use Rattle.ynl_lanes.specs.lows.Order.{below-trans}

-- a least passes where a greater one does, or a request's size
pub within-below : (test : Within) (x y : Resource) → IsBelow x y → IsWithin test y → IsWithin test x
within-below test x y h k = below-trans x y test.room h k
