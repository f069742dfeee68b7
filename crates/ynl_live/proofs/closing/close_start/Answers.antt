use Rattle.std.proofs.Common.{length, sym, ap, subst, ◌∙◌}
use Rattle.std.proofs.lemmas.Result.{err_from_is_err_and}
use Rattle.std.specs.Prelude.{IfErr}
use Rattle.ynl_journal.specs.Journal.{events_in}
use Rattle.ynl_live.specs.Causes.{IsCause}
use Rattle.ynl_live.specs.declared.closing.Cause.{Cause}
use Rattle.ynl_live.proofs.closing.close_start.Goals as goal

pub returns-in_err-check_handed-clause-cause : goal.returns-in_err-check_handed-clause-cause
returns-in_err-check_handed-clause-cause c =
    let p = err_from_is_err_and c.from_residual.result c.from_residual.ensures.1 in
    let C : Cause → Type 0 = IsCause c.args.start.value (events_in c.args.book.entries) c.args.seats.now c.args.lists.now in
    subst (λ r. IfErr r C) (sym p.1)
    (subst C (sym p.2) (c.in_err-check_handed.ensures.cause c.args.start.value (events_in c.args.book.entries) (ap length (sym c.into_events-events.ensures) ∙ sym c.len.ensures.value)))
