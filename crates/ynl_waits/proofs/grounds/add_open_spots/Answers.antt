use Rattle.std.proofs.Common.{true, false, cond, [], ◌++◌, filter, append-nil, take_all, sym, ap, ◌∙◌}
use Rattle.ynl_resource.specs.Amounts.{fits_in}
use Rattle.ynl_waits.specs.declared.grounds.Spot.{Spot}
use Rattle.ynl_waits.proofs.Loops.{kept}
use Rattle.ynl_waits.proofs.grounds.add_open_spots.Goals.{then-fits_in+in_ok-push, else-fits_in}
use Rattle.ynl_waits.proofs.grounds.add_open_spots.Goals as goal

pub loop-spot-preserved : goal.loop-spot-preserved
loop-spot-preserved c =
    let old = c.loop-spot.list.items in
    let turn = kept (λ (spot : Spot). fits_in c.args.size.now spot.free) c.args.list.now.items c.as_slice-spot-items.result.now c.loop-spot.spot-index c.spot-item.result old c.if-fits_in.list.items c.loop-spot-test.true c.spot-item.is c.loop-spot.invariant in
    elim c.if-fits_in.branch [
      | then-fits_in+in_ok-push w ↦ turn true (sym c.fits_in.ensures ∙ w.if-fits_in.true) (ap (λ v. v.items) w.list-is ∙ w.in_ok-push.ensures.items)
      | else-fits_in w ↦ turn false (sym c.fits_in.ensures ∙ w.if-fits_in.false) (ap (λ v. v.items) w.list-is ∙ sym (append-nil old))
    ]

pub returns : goal.returns
returns c =
    let front = c.args.list.now.items in
    let passes = λ (spot : Spot). fits_in c.args.size.now spot.free in
    c.loop-spot.invariant ∙ ap (λ spots. front ++ filter passes spots) (take_all _ _ c.loop-spot-test.false ∙ c.as_slice-spot-items.ensures)
    ∙ ap (λ b. front ++ cond b [] (filter passes c.args.ground.now.spots)) (sym c.if-ground.false)
