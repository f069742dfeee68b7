use Rattle.std.proofs.Common.{◌≡◌, drop, map}
use Rattle.ynl_resource.specs.Names.{same_name}
use Rattle.ynl_model.specs.Accepted.{all_differ}
use Rattle.ynl_queues.proofs.labels.faults.names_differ.Given as goal

abbrev pub invariant-loop-i : goal.invariant-loop-i
invariant-loop-i l = all_differ same_name (map (λ row. row.name) l.rows) ≡ all_differ same_name (map (λ row. row.name) (drop l.i l.rows))
