use Rattle.std.proofs.Common.{◌≡◌, take}
use Rattle.ynl_queues.proofs.rows.copy_rows.Given as goal

abbrev pub invariant-loop-row : goal.invariant-loop-row
invariant-loop-row l = l.copy.items ≡ take l.row-index l.rows
