use Rattle.std.proofs.Common.{◌≡◌, drop, map}
use Rattle.ynl_resource.specs.Names.{same_path}
use Rattle.ynl_model.specs.Accepted.{all_differ}
use Rattle.ynl_queues.proofs.checks.paths_differ.Given as goal

abbrev pub invariant-loop-i : goal.invariant-loop-i
invariant-loop-i l = all_differ same_path (map (λ row. row.path) l.rows) ≡ all_differ same_path (map (λ row. row.path) (drop l.i l.rows))
