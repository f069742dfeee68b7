use Rattle.std.proofs.Common.{◌+◌, ◌*◌, IfSome}
use Rattle.ynl_search.specs.descent.Scenes.{stands}
use Rattle.ynl_search.specs.descent.Turns.{AreTried, IsStanding, is_left}
use Rattle.ynl_search.proofs.descent.Turns.{count}
use Rattle.ynl_search.proofs.descent.descent.+descent.Given as goal

abbrev pub decreases-descend : goal.decreases-descend
decreases-descend g l = 2 * l.height + 1

abbrev pub decreases-first_below : goal.decreases-first_below
decreases-first_below g l = 2 * l.height

-- the children up to the last have no request below them
abbrev pub invariant-first_below-loop-next : goal.invariant-first_below-loop-next
invariant-first_below-loop-next g l =
    let b = g.T.Tree.branch l.tree l.queue in
    record { last : IfSome l.last (IsStanding b); tried : AreTried b l.last; notes : g.T.Tree.are_notes l.tree l.notes }

-- how many children come after the last
abbrev pub decreases-first_below-loop-next : goal.decreases-first_below-loop-next
decreases-first_below-loop-next g l =
    let b = g.T.Tree.branch l.tree l.queue in
    count (λ name. is_left b l.last (stands b name)) b.children
