use Rattle.ynl_commands.proofs.Tellings.{told_of_view}
use Rattle.ynl_commands.proofs.tenant.tell_view.Goals as goal

pub returns : goal.returns
returns g c =
    told_of_view (g.W.Write.contents c.args.writer.now) (g.W.Write.contents c.tell_events.new.writer) c.args.config.now c.args.tenant.now c.args.label.now c.in_ok-stand.stand c.args.events.now c.tell_events.result
    c.in_ok-stand.ensures c.tell_events.ensures
