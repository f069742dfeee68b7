use Rattle.ynl_commands.specs.Input.{between}
use Rattle.ynl_commands.specs.Explaining.{Explains}
use Rattle.ynl_commands.proofs.ClustersAfter.{explains_script, explains_whole}
use Rattle.ynl_commands.proofs.explaining.explain_lines.Goals as goal

pub returns : goal.returns
returns g c =
    let reader = between (g.R.Read.remaining c.args.reader.now) (g.R.Read.remaining c.apply_script.new.reader) in
    let writer = between (g.W.Write.contents c.args.writer.now) (g.W.Write.contents c.tell.new.writer) in
    let core = c.args.core in
    let r = c.tell.result in
    let steps : Explains reader writer core.config core.state c.args.question.now r = explains_script reader writer core c.in_ok-script.script c.in_ok-script.ensures c.args.question.now r c.tell.ensures.text c.tell.ensures.fault in
    record { whole = explains_whole reader writer core.config core.state c.args.question.now r steps; steps = steps }
