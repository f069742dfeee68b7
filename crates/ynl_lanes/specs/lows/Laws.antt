-- What the test of least sizes says of the requests that wait.
use Rattle.std.specs.Prelude.{ℕ, ◌≤◌, ◌<◌, List, length}
use Rattle.std.specs.List.{HoldsAt}
use Rattle.ynl_resource.specs.declared.amounts.Resource.{Resource}
use Rattle.ynl_lanes.specs.firsts.Firsts.{NonePasses}
use Rattle.ynl_lanes.specs.declared.lows.within.Within.{Within}
use Rattle.ynl_lanes.specs.lows.Lows.{IsBelow}
use Rattle.ynl_lanes.specs.lows.Tests.{IsWithin}

-- a least passes where a request at or above it does
abbrev pub DoLowsPass : Type 0
DoLowsPass = (test : Within) (low size : Resource) → IsBelow low size → IsWithin test size → IsWithin test low

-- where from a place on no least passes, no request at or above the least in such a place does
abbrev pub DoesNoneFit : Type 0
DoesNoneFit =
    (test : Within) (lows : List Resource) (from k : ℕ) (size : Resource) → NonePasses (IsWithin test) lows from →
    from ≤ k → k < length lows → HoldsAt (λ low. IsBelow low size) lows k → ¬ (IsWithin test size)
