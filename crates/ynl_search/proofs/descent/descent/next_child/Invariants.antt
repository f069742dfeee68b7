use Rattle.ynl_search.specs.descent.Turns.{HaveNone}
use Rattle.ynl_search.proofs.descent.Turns.{IsBest}
use Rattle.ynl_search.proofs.descent.descent.next_child.Given as goal

-- the best of the children so far, of those that are left
abbrev pub invariant-loop-place : goal.invariant-loop-place
invariant-loop-place g l =
    let b = g.T.Tree.branch l.tree l.queue in
    record { best : IsBest b l.last l.best; none : HaveNone b l.place l.last l.best }
