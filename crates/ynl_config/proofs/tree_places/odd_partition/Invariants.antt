use Rattle.std.proofs.Common.{◌≡◌, drop, find, map, not}
use Rattle.ynl_resource.specs.declared.labels.Label.TheVariants.{Named}
use Rattle.ynl_model.specs.Nodes.{partition_labels}
use Rattle.ynl_config.specs.GrantTests.{comes_out}
use Rattle.ynl_config.proofs.tree_places.odd_partition.Given as goal

abbrev pub invariant-loop-i : goal.invariant-loop-i
invariant-loop-i l = find (λ label. not (comes_out l.labels l.queues label)) (partition_labels l.labels) ≡ find (λ label. not (comes_out l.labels l.queues label)) (map (λ row. Named row.name) (drop l.i l.rows))
