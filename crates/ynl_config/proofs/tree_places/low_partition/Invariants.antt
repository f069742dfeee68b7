use Rattle.std.proofs.Common.{◌≡◌, drop, find, map}
use Rattle.ynl_resource.specs.declared.labels.Label.TheVariants.{Named}
use Rattle.ynl_model.specs.Nodes.{partition_labels}
use Rattle.ynl_config.specs.GrantTests.{is_low}
use Rattle.ynl_config.proofs.tree_places.low_partition.Given as goal

abbrev pub invariant-loop-i : goal.invariant-loop-i
invariant-loop-i l = find (is_low l.labels l.queue) (partition_labels l.labels) ≡ find (is_low l.labels l.queue) (map (λ row. Named row.name) (drop l.i l.rows))
