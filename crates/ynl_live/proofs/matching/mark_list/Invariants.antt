use Rattle.ynl_live.proofs.Marks.{IsMarkedTo}
use Rattle.ynl_live.proofs.matching.mark_list.Given as goal

abbrev pub invariant-loop-i : goal.invariant-loop-i
invariant-loop-i l = IsMarkedTo l.entries l.initial.marks l.marks l.list l.i l.front
