use Rattle.std.proofs.Common.{sym, subst, ◌∙◌}
use Rattle.ynl_cluster.specs.Cluster.{label_of, path_of, state_in}
use Rattle.ynl_search.specs.Shut.{IsRightIn}
use Rattle.ynl_search.proofs.ShutBelow.{passed, shut-closed}
use Rattle.ynl_search.proofs.open_child.has_none.Goals as goal

pub returns-then-is_passed : goal.returns-then-is_passed
returns-then-is_passed c = λ closed.
    let w = c.args.cluster.now in
    let p = c.args.p in
    let place = c.args.place.now in
    shut-closed w p place.queue place.headroom
    (passed w.config (state_in w) (label_of w p) (path_of w place.queue) c.noted.result place.headroom.room
    (subst (IsRightIn w p place.queue) (sym c.noted.ensures) (c.requires.notes.own p place.queue c.requires.there))
    (sym c.is_passed.ensures ∙ c.if-is_passed.true))

pub returns : goal.returns
returns c = λ large.
    let place = c.args.place.now in
    shut-closed c.args.cluster.now c.args.p place.queue place.headroom (c.has_too_large.ensures large)
