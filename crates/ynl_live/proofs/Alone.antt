-- A history from where a scheduler began shows tenants alone.
use Rattle.std.proofs.Common.{◌++◌, List, ap, subst}
use Rattle.ynl_model.specs.declared.entries.Entry.{Entry}
use Rattle.ynl_model.specs.Cluster.{opening}
use Rattle.ynl_model.specs.Events.{state_after}
use Rattle.ynl_core.specs.World.{World}
use Rattle.ynl_journal.specs.Journal.{IsHistoryFrom, events_in}
use Rattle.ynl_journal.proofs.Joined.{joined}
use Rattle.ynl_journal.proofs.Shown.{histories_show_alone}
use Rattle.ynl_live.specs.Alone.{ShowTenantsAloneFrom}

pub shown-alone : (w : World) (entries : List Entry) → IsHistoryFrom w.config w.state entries → ShowTenantsAloneFrom w entries
shown-alone w entries own before closed leads accepted t p sole =
    let behind : IsHistoryFrom w.config (state_after w.config (events_in before)) entries = subst (λ s. IsHistoryFrom w.config s entries) (ap (λ (w : World). w.state) leads) own in
    histories_show_alone w.config (before ++ entries) t p (joined w.config (opening w.config) before entries closed behind) accepted sole
