use Rattle.std.proofs.Common.{◌++◌, codes, subst, ◌∙◌}
use Rattle.std.proofs.KnownBytes.{Appends-trans}
use Rattle.std.proofs.lemmas.Result.{on_err_weaker, on_ok_weaker}
use Rattle.std.specs.Io.KnownBytes.{Appends}
use Rattle.ynl_commands.specs.Lines.{AppendsPart}
use Rattle.ynl_commands.proofs.Fronts.{part_of_more, part_after, on_err}
use Rattle.ynl_tool.specs.Jobs.{place_text}
use Rattle.ynl_tool.proofs.jobs.write_bad_state.Goals as goal

pub returns-in_err-write_text-clause-err : goal.returns-in_err-write_text-clause-err
returns-in_err-write_text-clause-err g c = on_err c.from_residual.result (part_of_more _ _ (codes "ynl: state: ") _ c.in_err-write_text.ensures.err)

pub returns-in_err-write_text-2-clause-err : goal.returns-in_err-write_text-2-clause-err
returns-in_err-write_text-2-clause-err g c =
    let old = g.E.Write.contents c.args.errors.now in
    let new = g.E.Write.contents c.write_text-2.new.writer in
    on_err c.from_residual-in_err-write_text-2.result
    (subst (λ word. AppendsPart old new (codes "ynl: state: " ++ (word ++ place_text c.args.bad.line))) (c.as_bytes.ensures.value ∙ c.word.ensures)
    (part_after _ (g.E.Write.contents c.write_text.new.writer) _ (codes "ynl: state: ") _ c.in_ok-write_text.ensures.ok
    (part_of_more _ _ c.as_bytes.result.now (place_text c.args.bad.line) c.in_err-write_text-2.ensures.err)))

pub returns-clause-err : goal.returns-clause-err
returns-clause-err g c =
    let old = g.E.Write.contents c.args.errors.now in
    let new = g.E.Write.contents c.write_place.new.errors in
    on_err_weaker c.write_place.result
    (λ h. subst (λ word. AppendsPart old new (codes "ynl: state: " ++ (word ++ place_text c.args.bad.line))) (c.as_bytes.ensures.value ∙ c.word.ensures)
    (part_after _ (g.E.Write.contents c.write_text.new.writer) _ (codes "ynl: state: ") _ c.in_ok-write_text.ensures.ok
    (part_after _ (g.E.Write.contents c.write_text-2.new.writer) _ c.as_bytes.result.now (place_text c.args.bad.line) c.in_ok-write_text-2.ensures.ok h)))
    c.write_place.ensures.err

pub returns-clause-ok : goal.returns-clause-ok
returns-clause-ok g c =
    let old = g.E.Write.contents c.args.errors.now in
    let first = g.E.Write.contents c.write_text.new.writer in
    let second = g.E.Write.contents c.write_text-2.new.writer in
    let new = g.E.Write.contents c.write_place.new.errors in
    let place = place_text c.args.bad.line in
    on_ok_weaker c.write_place.result
    (λ h. subst (λ word. Appends old new (codes "ynl: state: " ++ (word ++ place))) (c.as_bytes.ensures.value ∙ c.word.ensures)
    (Appends-trans old first new (codes "ynl: state: ") _ c.in_ok-write_text.ensures.ok (Appends-trans first second new c.as_bytes.result.now place c.in_ok-write_text-2.ensures.ok h)))
    c.write_place.ensures.ok
