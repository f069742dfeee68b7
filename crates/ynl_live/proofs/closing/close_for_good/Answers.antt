use Rattle.std.proofs.Common.{subst}
use Rattle.std.proofs.lemmas.Result.{IfOk-weaker}
use Rattle.ynl_core.specs.World.{World}
use Rattle.ynl_journal.specs.Journal.{IsHistoryFrom, events_in}
use Rattle.ynl_live.specs.Alone.{ShowTenantsAloneFrom}
use Rattle.ynl_live.specs.Closing.{IsClosing}
use Rattle.ynl_live.proofs.Alone.{shown-alone}
use Rattle.ynl_live.proofs.closing.close_for_good.Goals as goal

pub returns-clause-alone : goal.returns-clause-alone
returns-clause-alone c =
    let parts = c.into_parts-start.result in
    IfOk-weaker c.close_start.result (IsClosing parts.0.value (events_in parts.1.entries) c.args.seats.now c.args.lists.now) (λ closed. ShowTenantsAloneFrom c.args.live closed.entries)
    (λ closed is. shown-alone c.args.live closed.entries (subst (λ (w : World). IsHistoryFrom w.config w.state closed.entries) c.into_parts-start.ensures is.history)) c.close_start.ensures.closed
