use Rattle.std.proofs.Common.{sym, subst}
use Rattle.std.proofs.lemmas.Result.{err_from_is_err_and}
use Rattle.std.specs.Prelude.{IfErr}
use Rattle.ynl_live.specs.Causes.{IsCause}
use Rattle.ynl_live.specs.declared.closing.Cause.{Cause}
use Rattle.ynl_live.proofs.closing.close_copy.Goals as goal

pub returns-in_err-check_handed-clause-cause : goal.returns-in_err-check_handed-clause-cause
returns-in_err-check_handed-clause-cause c =
    let p = err_from_is_err_and c.from_residual.result c.from_residual.ensures.1 in
    let C : Cause → Type 0 = IsCause c.args.start.now c.args.events.now c.args.seats.now c.args.lists.now in
    subst (λ r. IfErr r C) (sym p.1) (subst C (sym p.2) (c.in_err-check_handed.ensures.cause c.args.start.now c.args.events.now (sym c.len.ensures.value)))
