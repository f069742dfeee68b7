use Rattle.std.proofs.Common.{◌≡◌, ℕ, ◌<◌, ◌+◌, length, get_or, sym, subst, refl, arith}
use Rattle.std.proofs.lemmas.Bool.{false≢true}
use Rattle.std.proofs.lemmas.List.{get_or_default}
use Rattle.ynl_live.specs.declared.receipts.Receipt.{Receipt}
use Rattle.ynl_live.specs.Marks.{CanMark}
use Rattle.ynl_live.specs.Misfits.{IsFirstMisfit}
use Rattle.ynl_live.proofs.Kept.{any_receipt}
use Rattle.ynl_live.proofs.Marks.{IsMarkedTo, IsMarkedTo-more, IsFirstMisfit-here}
use Rattle.ynl_live.proofs.matching.mark_list.Goals as goal

pub overflow_add-front : goal.overflow_add-front
overflow_add-front c =
    let r : Receipt = get_or c.args.list.now c.loop-i.i any_receipt in
    let can : CanMark c.args.entries.now c.loop-i.marks c.loop-i.front r = (c.if-not-mark.ensures.fits any_receipt).0 refl in
    let place : c.place-place.result ≡ r.place = c.place-place.ensures any_receipt in
    omega (arith, can.1, place, c.requires)

pub loop-i-preserved : goal.loop-i-preserved
loop-i-preserved c =
    let list = c.args.list.now in
    let i = c.loop-i.i in
    let r : Receipt = get_or list i any_receipt in
    let inside : i < length list = omega (arith, c.loop-i-test.true, c.len-i-end.ensures) in
    let can : CanMark c.args.entries.now c.loop-i.marks c.loop-i.front r = (c.if-not-mark.ensures.fits any_receipt).0 refl in
    let more = IsMarkedTo-more c.args.entries.now c.args.marks.now c.loop-i.marks c.mark.new.marks list i c.loop-i.front r c.loop-i.invariant inside (get_or_default list i any_receipt r inside) (omega arith) can
    (c.if-not-mark.ensures.marked any_receipt) in
    subst (λ (n : ℕ). IsMarkedTo c.args.entries.now c.args.marks.now c.mark.new.marks list (i + 1) (n + 1)) (sym (c.place-place.ensures any_receipt)) more

pub returns-then-not-mark-clause-misfit : goal.returns-then-not-mark-clause-misfit
returns-then-not-mark-clause-misfit c seen met =
    let list = c.args.list.now in
    let i = c.loop-i.i in
    let r : Receipt = get_or list i any_receipt in
    let inside : i < length list = omega (arith, c.loop-i-test.true, c.len-i-end.ensures) in
    let fits = c.if-not-mark.ensures.fits any_receipt in
    let here = IsFirstMisfit-here c.args.entries.now c.args.marks.now c.loop-i.marks list i c.loop-i.front r c.loop-i.invariant inside (get_or_default list i any_receipt r inside)
    (λ can. let told = fits.1 can in absurd (false≢true told)) seen met in
    subst (λ (n : ℕ). IsFirstMisfit c.args.entries.now seen list n) (sym (c.place-place.ensures any_receipt)) here
