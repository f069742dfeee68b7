use Rattle.std.proofs.Common.{◌++◌}
use Rattle.std.proofs.lemmas.Result.{on_err_weaker}
use Rattle.ynl_commands.proofs.Fronts.{part_of_more, part_after, on_err}
use Rattle.ynl_commands.proofs.lines_out.write_three.Goals as goal

pub returns-in_err-write_text-clause-err : goal.returns-in_err-write_text-clause-err
returns-in_err-write_text-clause-err g c =
    on_err c.from_residual.result (part_of_more _ _ c.args.first.now (c.args.second.now ++ c.args.third.now) c.in_err-write_text.ensures.err)

pub returns-in_err-write_text-2-clause-err : goal.returns-in_err-write_text-2-clause-err
returns-in_err-write_text-2-clause-err g c =
    on_err c.from_residual-in_err-write_text-2.result
    (part_after _ (g.W.Write.contents c.write_text.new.writer) _ c.args.first.now (c.args.second.now ++ c.args.third.now) c.in_ok-write_text.ensures.ok
    (part_of_more _ _ c.args.second.now c.args.third.now c.in_err-write_text-2.ensures.err))

pub returns-clause-err : goal.returns-clause-err
returns-clause-err g c =
    on_err_weaker c.write_text-3.result
    (λ h. part_after _ (g.W.Write.contents c.write_text.new.writer) _ c.args.first.now (c.args.second.now ++ c.args.third.now) c.in_ok-write_text.ensures.ok
    (part_after _ (g.W.Write.contents c.write_text-2.new.writer) _ c.args.second.now c.args.third.now c.in_ok-write_text-2.ensures.ok h))
    c.write_text-3.ensures.err
