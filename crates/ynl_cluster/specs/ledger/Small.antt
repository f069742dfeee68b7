-- How large totals and uses are, as statements over all sound rows in bounds.
use Rattle.std.specs.Prelude.{◌≡◌, ℕ, ◌≤◌, true, [], slice_index_or}
use Rattle.ynl_resource.specs.Amounts.{fits_in}
use Rattle.ynl_resource.specs.declared.amounts.Resource.{Resource}
use Rattle.ynl_resource.specs.declared.paths.Path.{Path}
use Rattle.ynl_model.specs.declared.uses.Use.{Use}
use Rattle.ynl_cluster.specs.uses.Tallies.{AreSmall}
use Rattle.ynl_inventory.specs.Rows.{Rows}
use Rattle.ynl_inventory.specs.Parts.{containers_of}
use Rattle.ynl_inventory.specs.Sound.{IsSound, HasPartition}
use Rattle.ynl_cluster.specs.ledger.Totals.{IsSmallTotal}
use Rattle.ynl_cluster.specs.ledger.Ledger.{total_in, use_by, uses_in, IsBounded}

-- a use is within an amount; masters are part of what is used, and no more than they have megabytes
pub record IsWithin (u : Use) (amount : Resource) : Type 0 where
  pub used : fits_in u.used amount ≡ true
  pub masters : fits_in u.masters u.used ≡ true
  pub master_count : u.master_count ≤ u.masters.memory
  pub guests : fits_in u.guests amount ≡ true

-- no total is too large for one node more, where there are fewer nodes than may be
abbrev pub AreTotalsSmall : Type 0
AreTotalsSmall = (v : Rows) → IsSound v → IsBounded v → (p : ℕ) → IsSmallTotal (total_in v p)

-- what a queue uses of a partition is within the total
abbrev pub AreUsesWithin : Type 0
AreUsesWithin = (v : Rows) → IsSound v → IsBounded v → (p : ℕ) → HasPartition v p → (queue : Path) → IsWithin (use_by v p queue (containers_of v p)) (total_in v p).amount

-- no use is too large for one container more
abbrev pub AreUsesSmall : Type 0
AreUsesSmall = (v : Rows) → IsSound v → IsBounded v → (p : ℕ) → AreSmall (slice_index_or (uses_in v) p [])
