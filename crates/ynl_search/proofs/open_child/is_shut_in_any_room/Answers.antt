use Rattle.std.proofs.Common.{get_or, subst, sym, ◌∙◌, arith}
use Rattle.ynl_cluster.specs.Cluster.{label_of, path_of, state_in}
use Rattle.ynl_search.specs.declared.place.Place.{Place}
use Rattle.ynl_search.specs.Places.{any_room, in_any_room}
use Rattle.ynl_search.specs.Shut.{IsClosedIn, IsRightIn}
use Rattle.ynl_search.proofs.ShutAnywhere.{closed-more, shut-anywhere}
use Rattle.ynl_search.proofs.ShutBelow.{passed, shut-above}
use Rattle.ynl_search.proofs.Trees.{child-in}
use Rattle.ynl_search.proofs.open_child.is_shut_in_any_room.Goals as goal
use Rattle.ynl_search.proofs.open_child.is_shut_in_any_room.Goals.{else-not-is_passed-via-then-not-is_passed+else-is_child_open, else-not-is_passed-via-else-not-is_passed}

pub loop-at-init : goal.loop-at-init
loop-at-init c = λ k below. absurd (omega (arith, below))

pub loop-at-preserved : goal.loop-at-preserved
loop-at-preserved c =
    let w = c.args.cluster.now in
    let p = c.args.p in
    let q = c.args.queue.now in
    let child = get_or q.children.now c.loop-at.at 0 in
    let there = child-in w q.place q.children.now c.requires.reached c.loop-at.at c.loop-at-test.true in
    closed-more w p (in_any_room q.place).headroom q.children.now c.loop-at.at c.loop-at.invariant
    (elim c.else-not-is_passed.branch [
      | else-not-is_passed-via-then-not-is_passed+else-is_child_open v ↦ subst (λ (place : Place). IsClosedIn w p place.headroom child) c.in_any_room.ensures (v.is_child_open.ensures v.if-is_child_open.false)
      | else-not-is_passed-via-else-not-is_passed v ↦
          shut-above w p child (in_any_room q.place).headroom
          (passed w.config (state_in w) (label_of w p) (path_of w child) c.noted.result any_room
          (subst (IsRightIn w p child) (sym c.noted.ensures) (c.requires.notes.own p child (record { partition = c.requires.partition; queue = there.there })))
          (sym c.is_passed.ensures ∙ v.if-not-is_passed.false))
    ])

pub returns : goal.returns
returns c = λ closed.
    let w = c.args.cluster.now in
    let q = c.args.queue.now in
    shut-anywhere w c.args.p c.requires.partition q.place q.children.now c.requires.reached any_room
    (λ k below. c.loop-at.invariant k (omega (arith, below, c.loop-at-test.false)))
    (omega (arith, c.if-queue-eq0.false))
