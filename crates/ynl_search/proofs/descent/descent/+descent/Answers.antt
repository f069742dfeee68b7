use Rattle.std.proofs.Common.{sym, ◌∙◌}
use Rattle.ynl_search.specs.descent.Scenes.{path_at}
use Rattle.ynl_search.proofs.descent.Turns.{fewer, first-below, mapped, none-below, nothing, of-child, tried-more}
use Rattle.ynl_search.proofs.descent.descent.+descent.Goals as goal

pub first_below-returns-then-is_some-clause-found : goal.first_below-returns-then-is_some-clause-found
first_below-returns-then-is_some-clause-found g t c =
    let tree = g.T.Tree in
    let item = tree.item c.args.tree.now in
    first-below (tree.branch c.args.tree.now c.args.queue.now) c.loop-next.last c.in-Some.next _ c.loop-next.invariant.tried c.in-Some.ensures.some c.requires.all
    (of-child _ _ c.in-Some.next.place _ c.child-child.ensures.child c.descend-found.ensures.found)
    (mapped item c.descend-found.result (sym c.is_some.ensures ∙ c.if-is_some.true))

pub first_below-loop-next-smaller : goal.first_below-loop-next-smaller
first_below-loop-next-smaller g t c = fewer (g.T.Tree.branch c.args.tree.now c.args.queue.now) c.loop-next.last c.in-Some.next c.in-Some.ensures.some

pub first_below-loop-next-preserved : goal.first_below-loop-next-preserved
first_below-loop-next-preserved g t c =
    let tree = g.T.Tree in
    let b = tree.branch c.args.tree.now c.args.queue.now in
    record {
      last = c.in-Some.ensures.some.standing;
      tried =
          tried-more b c.loop-next.last c.in-Some.next c.loop-next.invariant.tried c.in-Some.ensures.some
          (nothing b.scene (path_at b c.in-Some.next.place) (tree.item c.args.tree.now) c.descend-found.result (sym c.is_some.ensures ∙ c.if-is_some.false)
          (of-child _ _ c.in-Some.next.place _ c.child-child.ensures.child c.descend-found.ensures.found));
      notes = c.descend-found.ensures.notes;
    }

pub first_below-returns-clause-found : goal.first_below-returns-clause-found
first_below-returns-clause-found g t c = none-below (g.T.Tree.branch c.args.tree.now c.args.queue.now) c.loop-next.last c.loop-next.invariant.tried c.in_default.ensures.none c.requires.all
