use Rattle.ynl_commands.proofs.Fronts.{front_either_way}
use Rattle.ynl_tool.proofs.jobs.tell_bad_state.Goals as goal

pub returns : goal.returns
returns g c =
    let old = g.E.Write.contents c.args.errors.now in
    let new = g.E.Write.contents c.write_bad_state-told.new.errors in
    front_either_way c.write_bad_state-told.result old new _ c.write_bad_state-told.ensures.ok c.write_bad_state-told.ensures.err
