-- The order of amounts, part by part.
use Rattle.std.proofs.Common.{arith}
use Rattle.std.proofs.lemmas.Bool.Decides.{nat_tests}
use Rattle.ynl_resource.specs.declared.amounts.Resource.{Resource}
use Rattle.ynl_lanes.specs.lows.Lows.{IsLow, IsAmount, IsBelow, no_size, no_use}

pub below-refl : (a : Resource) → IsBelow a a
below-refl a = grind (arith, nat_tests)

pub below-trans : (a b c : Resource) → IsBelow a b → IsBelow b c → IsBelow a c
below-trans a b c h k = grind (arith, nat_tests)

-- no least is above what stands for no size
pub below-no_size : (low : Resource) → IsLow low → IsBelow low no_size
below-no_size low h = grind (arith, nat_tests)

-- and no amount above what no user would use
pub below-no_use : (a : Resource) → IsAmount a → IsBelow a no_use
below-no_use a h = grind (arith, nat_tests)
