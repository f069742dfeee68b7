use Rattle.std.proofs.Common.{All, take}
use Rattle.ynl_live.specs.Receipts.{ListFits, all_receipts}
use Rattle.ynl_live.specs.Marks.{IsMarked}
use Rattle.ynl_live.proofs.matching.mark_lists.Given as goal

abbrev pub invariant-loop-list : goal.invariant-loop-list
invariant-loop-list l = All (λ v. ListFits l.entries v) (take l.list-index l.lists) × IsMarked l.marks (all_receipts (take l.list-index l.lists))
