use Rattle.std.proofs.Common.{get_or, subst}
use Rattle.std.proofs.lemmas.Bool.{not-false}
use Rattle.ynl_search.specs.Shut.{IsClosedIn}
use Rattle.ynl_search.proofs.ShutBelow.{none-closed, shut-above}
use Rattle.ynl_search.proofs.open_child.is_child_open.Goals as goal

pub returns-then-has_too_large : goal.returns-then-has_too_large
returns-then-has_too_large c = λ closed.
    let q = c.args.queue.now in
    shut-above c.args.cluster.now c.args.p (get_or q.children.now c.args.at 0) q.place.headroom (c.has_too_large.ensures c.if-has_too_large.true)

pub returns : goal.returns
returns c = λ closed.
    let w = c.args.cluster.now in
    let above = c.args.queue.now.place.headroom in
    let child = c.child_in-child.result in
    subst (IsClosedIn w c.args.p above) c.child_in-child.ensures.queue
    (none-closed w c.args.p child.queue above child.headroom (c.child_in-child.ensures.headroom c.requires.most)
    (c.has_none.ensures (not-false c.has_none.result closed)))
