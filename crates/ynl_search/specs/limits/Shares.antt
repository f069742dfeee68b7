-- What one user may use of a number that users share.
use Rattle.std.specs.Prelude.{ℕ, ◌^◌, ◌<◌, max}
use Rattle.ynl_resource.specs.Amounts.{ceil_of}
use Rattle.ynl_resource.specs.Ranges.{whole}
use Rattle.ynl_resource.specs.declared.amounts.Resource.{Resource}

-- an equal share of a number, or the percentage of it where that is more, both rounded up
abbrev pub share_of : ℕ → ℕ → ℕ → ℕ
share_of base users percent = max (ceil_of base 1 users) (ceil_of base percent whole)

-- how much a request may ask for: less than 2^32 in each part
abbrev pub IsAsk : Resource → Type 0
IsAsk ask = (ask.memory < 2 ^ 32) × (ask.vcores < 2 ^ 32)
