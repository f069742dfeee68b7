use Rattle.std.proofs.Common.{sym, subst}
use Rattle.ynl_commands.specs.Lines.{AppendsFront}
use Rattle.ynl_tool.specs.Jobs.{refusal_line}
use Rattle.ynl_commands.proofs.Fronts.{front_either_way}
use Rattle.ynl_tool.proofs.jobs.tell_refusal.Goals as goal

pub returns-in-NotSole : goal.returns-in-NotSole
returns-in-NotSole g c =
    let old = g.E.Write.contents c.args.errors.now in
    let new = g.E.Write.contents c.write_text-told.new.writer in
    subst (λ refusal. AppendsFront old new (refusal_line refusal)) (sym c.in-NotSole.is)
    (front_either_way c.write_text-told.result old new _ c.write_text-told.ensures.ok c.write_text-told.ensures.err)
