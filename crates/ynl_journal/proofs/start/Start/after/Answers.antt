use Rattle.std.proofs.Common.{◌≡◌, ◌++◌, sym, ap, ◌∙◌}
use Rattle.ynl_model.specs.Cluster.{opening}
use Rattle.ynl_model.specs.Events.{after}
use Rattle.ynl_core.specs.World.{World}
use Rattle.ynl_journal.specs.Journal.{replayed_from}
use Rattle.ynl_journal.specs.StartFields.{cluster_at, led_to}
use Rattle.ynl_journal.proofs.Joined.{after_both}
use Rattle.ynl_journal.proofs.start.Start.after.Goals as goal

-- one that was opened, and led here, is led on
pub returns-in_ok-append-in-Opened-clause-start : goal.returns-in_ok-append-in-Opened-clause-start
returns-in_ok-append-in-Opened-clause-start c =
    let config = c.in-Opened.config in
    let before = c.in-Opened.before in
    let history = c.in_ok-history-in-Opened.history in
    let events = c.args.events.now in
    let here : led_to config before ≡ c.args.self = sym (ap cluster_at c.in-Opened.is) ∙ c.self.view_is in
    let on : led_to config (before ++ events) ≡ replayed_from config (after config (opening config) before) history =
    λ i. record { config = config; state = (after_both config (opening config) before events ∙ ap (after config (after config (opening config) before)) (sym c.in_ok-history-in-Opened.ensures.events)) i } in
    ap (led_to config) c.in_ok-append-in-Opened.ensures.ok ∙ on ∙ ap (λ (w : World). replayed_from w.config w.state history) here
