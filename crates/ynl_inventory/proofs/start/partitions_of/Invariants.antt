-- Each label so far has its partition.
use Rattle.std.proofs.Common.{◌≡◌, ◌∷◌, map, take}
use Rattle.ynl_resource.specs.declared.labels.Label.TheVariants.{Unlabelled, Named}
use Rattle.ynl_inventory.specs.Opening.{opening_partition}
use Rattle.ynl_inventory.specs.Parts.{partition_row}
use Rattle.ynl_inventory.proofs.start.partitions_of.Given as goal

abbrev pub invariant-loop-row : goal.invariant-loop-row
invariant-loop-row l =
    map partition_row l.partitions.items ≡ map (opening_partition l.labels) (Unlabelled ∷ map (λ row. Named row.name) (take l.row-index l.rows))
