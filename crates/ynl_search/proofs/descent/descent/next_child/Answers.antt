use Rattle.std.proofs.Common.{◌+◌, sym, subst, ◌∙◌}
use Rattle.ynl_search.proofs.descent.Turns.{Holds, holds-after, holds-better, holds-none, holds-tried, places-best, places-last}
use Rattle.ynl_search.proofs.descent.descent.next_child.Goals as goal
use Rattle.ynl_search.proofs.descent.descent.next_child.Goals.{in-Some+then-is_left+then-is_before+then-is_open, in-Some+else-is_left, else-is_left-via-then-is_left+then-is_before+else-is_open, else-is_left-via-then-is_left+else-is_before, else-is_left-via-else-is_left, in_default}

pub loop-place-preserved : goal.loop-place-preserved
loop-place-preserved g c =
    let b = g.T.Tree.branch c.args.tree.now c.args.queue.now in
    let last = c.args.last in
    let best = c.loop-place.best in
    let n = c.loop-place.place in
    let ordered = c.children-place-end.ensures.order in
    let holds : Holds b n last best = record { best = c.loop-place.invariant.best; none = c.loop-place.invariant.none } in
    let lasts = places-last b last c.requires.last in
    let bests = places-best b last best holds.best in
    let now : Holds b (n + 1) last c.match-look.best =
    elim c.match-look.branch [
      | in-Some+then-is_left+then-is_before+then-is_open w ↦
          subst (Holds b (n + 1) last) (sym w.best-is)
          (holds-better b n last best w.in-Some.standing holds w.in-Some.ensures.standing w.in-Some.ensures.place
          (sym (w.is_left.ensures b ordered lasts w.in-Some.ensures.standing.there) ∙ w.if-is_left.true)
          (sym (w.is_before.ensures b ordered bests w.in-Some.ensures.standing.there) ∙ w.if-is_before.true))
      | in-Some+else-is_left w ↦
          subst (Holds b (n + 1) last) (sym w.best-is)
          (elim w.else-is_left.branch [
            | else-is_left-via-then-is_left+then-is_before+else-is_open v ↦ holds-none b n last best holds (v.is_open.ensures v.if-is_open.false)
            | else-is_left-via-then-is_left+else-is_before v ↦
                holds-after b n last best w.in-Some.standing holds w.in-Some.ensures.standing w.in-Some.ensures.place
                (sym (v.is_before.ensures b ordered bests w.in-Some.ensures.standing.there) ∙ v.if-is_before.false)
            | else-is_left-via-else-is_left v ↦
                holds-tried b n last best w.in-Some.standing holds w.in-Some.ensures.standing w.in-Some.ensures.place
                (sym (w.is_left.ensures b ordered lasts w.in-Some.ensures.standing.there) ∙ v.if-is_left.false)
          ])
      | in_default w ↦ subst (Holds b (n + 1) last) (sym w.best-is) (holds-none b n last best holds w.in_default.ensures.none)
    ] in
    record { best = now.best; none = now.none }
