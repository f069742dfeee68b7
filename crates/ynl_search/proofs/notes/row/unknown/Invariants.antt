use Rattle.std.proofs.Common.{◌≡◌, replicate}
use Rattle.ynl_search.specs.notes.Notes.{nothing_noted}
use Rattle.ynl_search.proofs.notes.row.unknown.Given as goal

abbrev pub invariant-loop-queue : goal.invariant-loop-queue
invariant-loop-queue l = l.notes.items ≡ replicate l._queue nothing_noted
