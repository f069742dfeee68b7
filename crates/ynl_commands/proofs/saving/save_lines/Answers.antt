use Rattle.ynl_commands.specs.Input.{between}
use Rattle.ynl_commands.specs.Saving.{SavesScript}
use Rattle.ynl_commands.proofs.ClustersAfter.{saves_script, saves_whole}
use Rattle.ynl_commands.proofs.saving.save_lines.Goals as goal

pub returns : goal.returns
returns g c =
    let reader = between (g.R.Read.remaining c.args.reader.now) (g.R.Read.remaining c.apply_script.new.reader) in
    let writer = between (g.W.Write.contents c.args.writer.now) (g.W.Write.contents c.save.new.writer) in
    let core = c.args.core in
    let r = c.save.result in
    let steps : SavesScript reader writer core.config core.state r = saves_script reader writer core c.in_ok-script.script c.in_ok-script.ensures r c.save.ensures.text c.save.ensures.fault in
    record { whole = saves_whole reader writer core.config core.state r steps; steps = steps }
