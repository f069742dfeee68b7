-- Least sizes, as contracts see them.
use Rattle.std.specs.Prelude.{◌<◌, ◌^◌, IsTrue}
use Rattle.ynl_resource.specs.declared.amounts.Resource.{Resource}
use Rattle.ynl_resource.specs.Amounts.{amount, fits_in}

-- how large the least of some sizes may be: each part below 2^32
pub record IsLow (low : Resource) : Type 0 where
  pub memory : low.memory < 2 ^ 32
  pub vcores : low.vcores < 2 ^ 32

-- how large an amount may be: each part below 2^64
pub record IsAmount (a : Resource) : Type 0 where
  pub memory : a.memory < 2 ^ 64
  pub vcores : a.vcores < 2 ^ 64

-- the least of no sizes: the greatest that there is
abbrev pub no_size : Resource
no_size = amount 0xffff_ffff 0xffff_ffff

-- what no user would use: the greatest amount that there is
abbrev pub no_use : Resource
no_use = amount 0xffff_ffff_ffff_ffff 0xffff_ffff_ffff_ffff

-- the first is at or below the second, part by part
abbrev pub IsBelow : Resource → Resource → Type 0
IsBelow a b = IsTrue (fits_in a b)
