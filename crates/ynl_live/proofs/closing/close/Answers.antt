use Rattle.std.proofs.Common.{List, subst, ◌∙◌}
use Rattle.ynl_core.specs.World.{World}
use Rattle.ynl_journal.specs.Journal.{IsHistoryFrom, events_in}
use Rattle.ynl_live.specs.Causes.{IsCause}
use Rattle.ynl_live.specs.Seats.{Standing}
use Rattle.ynl_live.proofs.Alone.{shown-alone}
use Rattle.ynl_live.proofs.closing.close.Goals as goal

pub returns-in-Ok-clause-alone : goal.returns-in-Ok-clause-alone
returns-in-Ok-clause-alone c =
    let entries = c.in-Ok.closed.entries in
    shown-alone c.args.live entries (subst (λ (w : World). IsHistoryFrom w.config w.state entries) (c.deref.ensures ∙ c.into_parts-start.ensures) c.in-Ok.ensures.closed.history)

pub returns-in-Err-clause-cause : goal.returns-in-Err-clause-cause
returns-in-Err-clause-cause c =
    let events = events_in c.into_parts-start.result.1.entries in
    let C : World → List Standing → Type 0 = λ w seats. IsCause w events seats c.args.lists.now c.in-Err.cause in
    (events, subst (λ w. C w c.args.seats.items) (c.deref.ensures ∙ c.into_parts-start.ensures) (subst (C c.deref.result.now) c.as_slice.ensures.value c.in-Err.ensures.cause))
