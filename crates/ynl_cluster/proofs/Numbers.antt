-- Partitions and queues have numbers of their types.
use Rattle.std.proofs.Common.{◌≡◌, ℕ, ◌≤◌, ◌^◌, ◌∷◌, length, sym, subst}
use Rattle.std.proofs.lemmas.List.{length-map}
use Rattle.ynl_resource.specs.Names.{root}
use Rattle.ynl_model.specs.Nodes.{partition_labels}
use Rattle.ynl_model.specs.Queues.{Config}
use Rattle.ynl_inventory.specs.layout.Paths.{paths_of}
use Rattle.ynl_inventory.specs.Rows.{Rows, PartitionRow}
use Rattle.ynl_inventory.specs.Changes.{with_at}
use Rattle.ynl_inventory.specs.Opening.{opening_partition, opening_rows}
use Rattle.ynl_inventory.proofs.Lookups.{length-at}
use Rattle.ynl_cluster.specs.Whole.{AreNumbered}

-- they keep them where a partition changes
pub numbers-at : (v : Rows) (p : ℕ) (change : PartitionRow → PartitionRow) → AreNumbered v → AreNumbered (record v { partitions = with_at p change v.partitions })
numbers-at v p change are = record { partitions = subst (λ (n : ℕ). n ≤ 2 ^ 8) (sym (length-at p change v.partitions)) are.partitions; queues = are.queues }

-- and where rows have as many of both
pub as-numbered : (v new : Rows) → new.partitions ≡ v.partitions → new.paths ≡ v.paths → AreNumbered v → AreNumbered new
as-numbered v new partitions paths are = record {
  partitions = subst (λ partitions. length partitions ≤ 2 ^ 8) (sym partitions) are.partitions;
  queues = subst (λ paths. length (root ∷ paths) ≤ 2 ^ 32) (sym paths) are.queues;
}

-- they have them at first
pub opening-numbers : (c : Config) → length (partition_labels c.labels) ≤ 2 ^ 8 → length (root ∷ paths_of c) ≤ 2 ^ 32 → AreNumbered (opening_rows c)
opening-numbers c partitions queues = record {
  partitions = subst (λ (n : ℕ). n ≤ 2 ^ 8) (sym (length-map (partition_labels c.labels) (opening_partition c.labels))) partitions;
  queues = queues;
}
