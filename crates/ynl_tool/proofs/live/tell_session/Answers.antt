use Rattle.std.proofs.Common.{Err, sym, ap, subst, ◌∙◌}
use Rattle.std.proofs.lemmas.Result.{err_from_is_err_and}
use Rattle.ynl_tool.specs.Living.{journal_lines, session_lines}
use Rattle.ynl_commands.specs.Run.{fault_lines}
use Rattle.ynl_commands.specs.Script.{script_read}
use Rattle.ynl_commands.specs.Telling.{SaysLines}
use Rattle.ynl_commands.proofs.Tellings.{leaves_more, says_after}
use Rattle.ynl_tool.proofs.live.tell_session.Goals as goal

-- the entries were not told to their end
pub returns-in_err-tell_entries-clause-told : goal.returns-in_err-tell_entries-clause-told
returns-in_err-tell_entries-clause-told g c =
    let p = err_from_is_err_and c.from_residual.result c.from_residual.ensures.1 in
    let w = g.W.Write.contents c.args.writer.now in
    let v = g.W.Write.contents c.tell_entries.new.writer in
    let s = script_read c.args.script.now in
    let lines = journal_lines 0 c.args.entries.now in
    let left = subst (SaysLines w v lines) (c.in_err-tell_entries.was ∙ ap Err (sym p.2)) c.tell_entries.ensures in
    subst (SaysLines w v (session_lines c.args.entries.now s)) (sym p.1) (leaves_more w v lines (fault_lines s) p.0 left)

pub returns-clause-told : goal.returns-clause-told
returns-clause-told g c =
    let w = g.W.Write.contents c.args.writer.now in
    let v = g.W.Write.contents c.tell_entries.new.writer in
    let u = g.W.Write.contents c.tell_end.new.writer in
    let lines = journal_lines 0 c.args.entries.now in
    let said = subst (SaysLines w v lines) c.in_ok-tell_entries.was c.tell_entries.ensures in
    says_after w v u lines (fault_lines (script_read c.args.script.now)) c.tell_end.result said c.tell_end.ensures.told
