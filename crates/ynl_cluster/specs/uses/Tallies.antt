-- One container more or less in what queues use.
use Rattle.std.specs.Prelude.{◌≡◌, ℕ, zero, suc, ◌+◌, ◌-◌, ◌<◌, ◌≤◌, ◌^◌, List, [], ◌∷◌, length, replicate, slice_index_or}
use Rattle.std.specs.List.{AllByRecursion}
use Rattle.ynl_resource.specs.Amounts.{plus, less, nothing}
use Rattle.ynl_resource.specs.declared.amounts.Resource.{Resource}
use Rattle.ynl_model.specs.declared.uses.Use.{Use}
use Rattle.ynl_cluster.specs.declared.uses.tally.Tally.{Tally}
use Rattle.ynl_cluster.specs.declared.uses.tally.Counted.{Counted}
use Rattle.ynl_cluster.specs.declared.uses.tally.Counted.TheVariants.{Guest, Master, Asked}

-- a use with one container more, by what it counts as
abbrev pub raised_as : Counted → Resource → Use → Use
raised_as Guest size u = record u { guests = plus u.guests size }
raised_as Master size u = record u { used = plus u.used size; masters = plus u.masters size; master_count = u.master_count + 1 }
raised_as Asked size u = record u { used = plus u.used size }

-- and with one less
abbrev pub lowered_as : Counted → Resource → Use → Use
lowered_as Guest size u = record u { guests = less u.guests size }
lowered_as Master size u = record u { used = less u.used size; masters = less u.masters size; master_count = u.master_count - 1 }
lowered_as Asked size u = record u { used = less u.used size }

abbrev pub raised : Tally → Use → Use
raised tally u = raised_as tally.counted tally.size u

abbrev pub lowered : Tally → Use → Use
lowered tally u = lowered_as tally.counted tally.size u

-- at most what the largest partition has
abbrev pub IsTotal : Resource → Type 0
IsTotal a = (a.memory < 2 ^ 48) × (a.vcores ≤ 2 ^ 32)

-- small enough for one more container
pub record IsSmallUse (u : Use) : Type 0 where
  pub used : IsTotal u.used
  pub masters : IsTotal u.masters
  pub master_count : u.master_count < 2 ^ 63
  pub guests : IsTotal u.guests

abbrev pub AreSmall : List Use → Type 0
AreSmall uses = AllByRecursion IsSmallUse uses

-- no use
abbrev pub no_use : Use
no_use = record { used = nothing; masters = nothing; master_count = 0; guests = nothing }

-- so many lists of so many uses, all of them the same
pub record IsTable (partitions queues : ℕ) (u : Use) (rows : List (List Use)) : Type 0 where
  pub many : length rows ≡ partitions
  pub each : AllByRecursion (λ row. row ≡ replicate queues u) rows

-- there is a partition of this number
abbrev pub HasPartition : List (List Use) → ℕ → Type 0
HasPartition rows p = p < length rows

-- a line has numbers of the partition's queues
abbrev pub IsInside : List (List Use) → ℕ → List ℕ → Type 0
IsInside rows p line = AllByRecursion (λ n. n < length (slice_index_or rows p [])) line

-- the uses of one partition change
abbrev pub with_partition : ℕ → (List Use → List Use) → List (List Use) → List (List Use)
with_partition p change [] = []
with_partition zero change (row ∷ rows) = change row ∷ rows
with_partition (suc p) change (row ∷ rows) = row ∷ with_partition p change rows
