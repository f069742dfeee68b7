use Rattle.std.proofs.Common.{◌≡◌, take}
use Rattle.std.specs.List.{filter}
use Rattle.ynl_resource.specs.Names.{top_level, is_within}
use Rattle.ynl_queues.proofs.rows.copy_within.Given as goal

abbrev pub invariant-loop-row : goal.invariant-loop-row
invariant-loop-row l = l.copy.items ≡ filter (λ row. is_within (top_level l.tenant) row.path) (take l.row-index l.rows)
