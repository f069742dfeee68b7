use Rattle.std.proofs.Common.{Err, ap, sym, subst, ◌∙◌}
use Rattle.std.proofs.lemmas.Result.{err_from_is_err_and}
use Rattle.ynl_commands.specs.Input.{between}
use Rattle.ynl_commands.specs.Auditing.{Finds, AuditsJournal}
use Rattle.ynl_commands.proofs.Audits.{untold, told, audits_whole}
use Rattle.ynl_commands.proofs.audit.audit_lines.Goals as goal

-- the journal was not read to its end
pub returns-in_err-found : goal.returns-in_err-found
returns-in_err-found g c =
    let p = err_from_is_err_and c.from_residual.result c.from_residual.ensures.1 in
    let reader = between (g.R.Read.remaining c.args.reader.now) (g.R.Read.remaining c.audit_entries.new.reader) in
    let w = g.W.Write.contents c.args.writer.now in
    let k = c.args.core.config in
    let s = c.args.core.state in
    let finds = subst (Finds reader k s) (c.in_err-found.was ∙ ap Err (sym p.2)) c.audit_entries.ensures in
    let steps : AuditsJournal reader (between w w) k s c.from_residual.result = subst (AuditsJournal reader (between w w) k s) (sym p.1) (untold reader w k s p.0 finds) in
    record { whole = audits_whole reader (between w w) k s c.from_residual.result steps; steps = steps }

-- what was found is told
pub returns : goal.returns
returns g c =
    let reader = between (g.R.Read.remaining c.args.reader.now) (g.R.Read.remaining c.audit_entries.new.reader) in
    let w = g.W.Write.contents c.args.writer.now in
    let v = g.W.Write.contents c.tell.new.writer in
    let k = c.args.core.config in
    let s = c.args.core.state in
    let finds = subst (Finds reader k s) c.in_ok-found.was c.audit_entries.ensures in
    let steps : AuditsJournal reader (between w v) k s c.tell.result = told reader w v k s c.in_ok-found.found c.tell.result finds c.tell.ensures.text c.tell.ensures.fault in
    record { whole = audits_whole reader (between w v) k s c.tell.result steps; steps = steps }
