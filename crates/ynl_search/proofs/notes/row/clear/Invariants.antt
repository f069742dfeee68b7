use Rattle.ynl_search.proofs.notes.Forgetting.{IsCleared}
use Rattle.ynl_search.proofs.notes.row.clear.Given as goal

abbrev pub invariant-loop-queue : goal.invariant-loop-queue
invariant-loop-queue l = IsCleared l.queue l.fn.row.notes.items l.row.notes.items
