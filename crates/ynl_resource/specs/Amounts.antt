-- Amounts of memory and of vcores. They are added, scaled and compared part by part.
use Rattle.std.specs.Prelude.{ℕ, ◌+◌, ◌-◌, ◌*◌, ◌/◌, ◌^◌, ◌≤◌, ◌<◌, min, max, Bool, ◌&&◌, nat_le, List, [], ◌∷◌}
pub use Rattle.ynl_resource.specs.declared.amounts.Resource.{Resource}

-- so much memory, in megabytes, and so many vcores
abbrev pub amount : ℕ → ℕ → Resource
amount memory vcores = record { memory = memory; vcores = vcores }

-- no memory and no vcores
abbrev pub nothing : Resource
nothing = amount 0 0

-- both together
abbrev pub plus : Resource → Resource → Resource
plus a b = amount (a.memory + b.memory) (a.vcores + b.vcores)

-- what is left of the first without the second, and nothing where the second is more
abbrev pub less : Resource → Resource → Resource
less a b = amount (a.memory - b.memory) (a.vcores - b.vcores)

-- the greater in each part
abbrev pub greater_of : Resource → Resource → Resource
greater_of a b = amount (max a.memory b.memory) (max a.vcores b.vcores)

-- the smaller in each part
abbrev pub smaller_of : Resource → Resource → Resource
smaller_of a b = amount (min a.memory b.memory) (min a.vcores b.vcores)

-- whether the first is at most the second, in memory and in vcores
abbrev pub fits_in : Resource → Resource → Bool
fits_in a b = nat_le a.memory b.memory && nat_le a.vcores b.vcores

-- n / d of an amount, each part rounded down
abbrev pub scale_floor : Resource → ℕ → ℕ → Resource
scale_floor a n d = amount (a.memory * n / d) (a.vcores * n / d)

-- n / d of a number, rounded up
abbrev pub ceil_of : ℕ → ℕ → ℕ → ℕ
ceil_of x n d = (x * n + (d - 1)) / d

-- n / d of an amount, each part rounded up
abbrev pub scale_ceil : Resource → ℕ → ℕ → Resource
scale_ceil a n d = amount (ceil_of a.memory n d) (ceil_of a.vcores n d)

-- the sum of the sizes of the things in a list
abbrev pub total_of : {X : Type 0} → (X → Resource) → List X → Resource
total_of size [] = nothing
total_of size (x ∷ xs) = plus (size x) (total_of size xs)

-- at most 2^49 in each part
abbrev pub IsSmall : Resource → Type 0
IsSmall a = (a.memory ≤ 2 ^ 49) × (a.vcores ≤ 2 ^ 49)

-- how large a node or a request may be
pub record IsSize (a : Resource) : Type 0 where
  pub some_memory : 1 ≤ a.memory
  pub memory : a.memory < 2 ^ 32
  pub some_vcores : 1 ≤ a.vcores
  pub vcores : a.vcores ≤ 65536
