use Rattle.std.proofs.Common.{Err, ap, sym, subst, ◌∙◌}
use Rattle.std.proofs.lemmas.Result.{err_from_is_err_and}
use Rattle.ynl_commands.specs.Answering.{Answers, Finds}
use Rattle.ynl_commands.specs.Evidence.{evidence_way, found_answer, placed_answer}
use Rattle.ynl_commands.specs.Input.{between}
use Rattle.ynl_commands.proofs.Answerings.{answers_nothing, answers_found, answers_whole}
use Rattle.ynl_commands.proofs.evidence_audit.audit_evidence_lines.Goals as goal

-- the input was not read to its end
pub returns-in_err-found : goal.returns-in_err-found
returns-in_err-found g c =
    let p = err_from_is_err_and c.from_residual.result c.from_residual.ensures.1 in
    let reader = between (g.R.Read.remaining c.args.reader.now) (g.R.Read.remaining c.audit_placed.new.reader) in
    let v = g.W.Write.contents c.args.writer.now in
    let w = evidence_way c.args.whose.now in
    let answer = placed_answer in
    let finds = subst (Finds w answer found_answer reader) (c.in_err-found.was ∙ ap Err (sym p.2)) c.audit_placed.ensures in
    let steps : Answers w answer reader (between v v) c.from_residual.result = subst (Answers w answer reader (between v v)) (sym p.1) (answers_nothing w answer found_answer reader v p.0 finds) in
    record { whole = answers_whole w answer reader (between v v) c.from_residual.result steps; steps = steps }

-- what was found is told
pub returns : goal.returns
returns g c =
    let reader = between (g.R.Read.remaining c.args.reader.now) (g.R.Read.remaining c.audit_placed.new.reader) in
    let v = g.W.Write.contents c.args.writer.now in
    let u = g.W.Write.contents c.tell.new.writer in
    let w = evidence_way c.args.whose.now in
    let answer = placed_answer in
    let finds = subst (Finds w answer found_answer reader) c.in_ok-found.was c.audit_placed.ensures in
    let steps : Answers w answer reader (between v u) c.tell.result = answers_found w answer found_answer reader v u c.in_ok-found.found c.tell.result finds c.tell.ensures.text c.tell.ensures.fault in
    record { whole = answers_whole w answer reader (between v u) c.tell.result steps; steps = steps }
