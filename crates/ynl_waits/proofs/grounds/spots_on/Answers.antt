use Rattle.std.proofs.Common.{◌≡◌, true, false, [], rules, append-nil, take_all, sym, ap, ◌∙◌}
use Rattle.ynl_resource.specs.Names.{same_label}
use Rattle.ynl_waits.specs.Grounds.{spots_on}
use Rattle.ynl_waits.specs.declared.grounds.Spot.{Spot}
use Rattle.ynl_waits.proofs.Loops.{kept}
use Rattle.ynl_waits.proofs.grounds.spots_on.Goals.{then-eq+in_ok-push, else-eq}
use Rattle.ynl_waits.proofs.grounds.spots_on.Goals as goal

-- one more node is added where it is in the partition
pub loop-spot-preserved : goal.loop-spot-preserved
loop-spot-preserved c =
    let old = c.loop-spot.list.items in
    let test : same_label c.spot-item.result.node.label c.args.label.now ≡ c.eq.result = search rules in
    let turn = kept (λ (spot : Spot). same_label spot.node.label c.args.label.now) [] c.args.spots.now c.loop-spot.spot-index c.spot-item.result old c.if-eq.list.items c.loop-spot-test.true c.spot-item.is c.loop-spot.invariant in
    elim c.if-eq.branch [
      | then-eq+in_ok-push w ↦ turn true (test ∙ w.if-eq.true) (ap (λ v. v.items) w.list-is ∙ w.in_ok-push.ensures.items)
      | else-eq w ↦ turn false (test ∙ w.if-eq.false) (ap (λ v. v.items) w.list-is ∙ sym (append-nil old))
    ]

pub returns : goal.returns
returns c = c.loop-spot.invariant ∙ ap (spots_on c.args.label.now) (take_all _ _ c.loop-spot-test.false)
