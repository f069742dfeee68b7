use Rattle.std.proofs.Common.{◌≡◌}
use Rattle.ynl_search.proofs.notes.Forgetting.{IsChanged}
use Rattle.ynl_search.proofs.notes.row.change.Given as goal

abbrev pub invariant-loop-i : goal.invariant-loop-i
invariant-loop-i l = IsChanged l.queues l.i l.low l.fn.row.notes.items l.row.notes.items × (l.row.known ≡ l.fn.row.known)
