use Rattle.std.proofs.Common.{arith, List, All, refl, subst}
use Rattle.std.proofs.lemmas.List.{take_all}
use Rattle.ynl_live.specs.declared.receipts.Receipt.{Receipt}
use Rattle.ynl_live.specs.Receipts.{ListFits}
use Rattle.ynl_live.specs.Misfits.{IsMisfit}
use Rattle.ynl_live.proofs.Lists.{lists_marked, IsMisfit-in_list, IfErr-told}
use Rattle.ynl_live.proofs.matching.mark_lists.Goals as goal

pub loop-list-preserved : goal.loop-list-preserved
loop-list-preserved c =
    let e = c.in_ok-mark_list.ensures in
    lists_marked c.args.entries.now c.loop-list.marks c.mark_list.new.marks c.args.lists.now c.loop-list.list-index c.list-item.result c.list-item.result (omega arith) c.list-item.is refl c.loop-list.invariant.0 c.loop-list.invariant.1 e.fits e.marks

pub returns-clause-fit : goal.returns-clause-fit
returns-clause-fit c =
    let P : List (List Receipt) → Type 0 = λ xs. All (λ v. ListFits c.args.entries.now v) xs in
    subst P (take_all c.loop-list.list-index c.args.lists.now (omega arith)) c.loop-list.invariant.0

pub returns-in_err-mark_list-clause-misfit : goal.returns-in_err-mark_list-clause-misfit
returns-in_err-mark_list-clause-misfit c =
    let place = c.in_err-mark_list.field-0.0 in
    IfErr-told c.from_residual.result (IsMisfit c.args.entries.now c.args.lists.now) place
    (IsMisfit-in_list c.args.entries.now c.loop-list.marks c.args.lists.now c.loop-list.list-index c.list-item.result c.list-item.result place (omega arith) c.list-item.is refl c.loop-list.invariant.0 c.loop-list.invariant.1 c.in_err-mark_list.ensures.misfit)
    c.from_residual.ensures.1
