-- The test of the users of a leaf, by their limits.
use Rattle.std.specs.Prelude.{◌≡◌}
use Rattle.ynl_resource.specs.Amounts.{amount, smaller_of}
use Rattle.ynl_resource.specs.declared.amounts.Resource.{Resource}
use Rattle.ynl_lanes.specs.declared.lows.users.UserLow.{UserLow}
use Rattle.ynl_search.specs.declared.leaf.LeafTests.{LeafTests}
use Rattle.ynl_search.specs.declared.user_limits.UserLimits.{UserLimits}
use Rattle.ynl_search.specs.limits.Limits.{KeepsWithin}

-- a request fits in the room, and a user that uses so much keeps the limit with it
abbrev pub IsWithinLimits : UserLimits → Resource → Resource → Type 0
IsWithinLimits test used size = KeepsWithin test.limits used test.room size

-- so does the least of users
abbrev pub AreWithinLimits : UserLimits → UserLow → Type 0
AreWithinLimits test user = IsWithinLimits test user.used user.low

-- the test has a leaf's limits, and the room of what there is headroom for and a request may ask for
pub record IsTestOf (tests : LeafTests) (test : UserLimits) : Type 0 where
  pub room : test.room ≡ smaller_of tests.headroom.room (amount 0xffff_ffff 0xffff_ffff)
  pub limits : test.limits ≡ tests.limits
