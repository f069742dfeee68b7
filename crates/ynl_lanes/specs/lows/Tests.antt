-- What passes the test.
use Rattle.ynl_resource.specs.declared.amounts.Resource.{Resource}
use Rattle.ynl_lanes.specs.declared.lows.within.Within.{Within}
use Rattle.ynl_lanes.specs.lows.Lows.{IsBelow}

-- a least, or a size, fits in the room
abbrev pub IsWithin : Within → Resource → Type 0
IsWithin test low = IsBelow low test.room
