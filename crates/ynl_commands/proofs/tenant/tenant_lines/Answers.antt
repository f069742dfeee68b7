use Rattle.std.proofs.Common.{Ok, Err, None, refl, ap, sym, subst, ◌∙◌}
use Rattle.std.specs.Prelude.{option_map}
use Rattle.std.proofs.lemmas.Result.{err_from_is_err_and}
use Rattle.ynl_model.specs.Accepted.{is_accepted}
use Rattle.ynl_lines.specs.declared.faults.InputFault.TheVariants.{Script as InScript}
use Rattle.ynl_commands.specs.declared.run.Summary.{Summary}
use Rattle.ynl_commands.specs.Input.{between}
use Rattle.ynl_commands.specs.Script.{ReadsScript, script_read}
use Rattle.ynl_commands.specs.Telling.{SaysLines, TellsTenant, view_lines}
use Rattle.ynl_commands.proofs.Tellings.{fails_early, ends_whole, ends_broken, tells_whole}
use Rattle.ynl_commands.proofs.tenant.tenant_lines.Goals as goal

-- what is seen was not told to its end
pub returns-in_err-tell_view : goal.returns-in_err-tell_view
returns-in_err-tell_view g c =
    let p = err_from_is_err_and c.from_residual-in_err-tell_view.result c.from_residual-in_err-tell_view.ensures.1 in
    let k = c.args.config in
    let t = c.args.tenant.now in
    let l = c.args.label.now in
    let reader = between (g.R.Read.remaining c.args.reader.now) (g.R.Read.remaining c.read_script.new.reader) in
    let w = g.W.Write.contents c.args.writer.now in
    let v = g.W.Write.contents c.tell_view.new.writer in
    let script = c.in_ok-script.script in
    let read = subst (ReadsScript reader) c.in_ok-script.was c.read_script.ensures.steps in
    let said = subst (SaysLines w v (view_lines k t l script.events)) (c.in_err-tell_view.was ∙ ap Err (sym p.2)) c.tell_view.ensures in
    let steps = subst (TellsTenant reader (between w v) (is_accepted k) k t l) (sym p.1) (fails_early reader w v k t l (is_accepted k) (script_read script) read p.0 said) in
    record { whole = tells_whole reader (between w v) (is_accepted k) k t l c.from_residual-in_err-tell_view.result steps; steps = steps }

-- a line had a fault
pub returns-in-Some : goal.returns-in-Some
returns-in-Some g c =
    let k = c.args.config in
    let t = c.args.tenant.now in
    let l = c.args.label.now in
    let reader = between (g.R.Read.remaining c.args.reader.now) (g.R.Read.remaining c.read_script.new.reader) in
    let w = g.W.Write.contents c.args.writer.now in
    let v = g.W.Write.contents c.tell_view.new.writer in
    let u = g.W.Write.contents c.report.new.writer in
    let script = c.in_ok-script.script in
    let read = subst (ReadsScript reader) c.in_ok-script.was c.read_script.ensures.steps in
    let said = subst (SaysLines w v (view_lines k t l script.events)) c.in_ok-tell_view.was c.tell_view.ensures in
    let steps = ends_broken reader w u k t l (is_accepted k) (script_read script) read c.requires (λ is. is) v c.in-Some.fault c.report.result c.in-Some.is said c.report.ensures.text c.report.ensures.fault in
    record { whole = tells_whole reader (between w u) (is_accepted k) k t l c.report.result steps; steps = steps }

-- no line had one
pub returns : goal.returns
returns g c =
    let k = c.args.config in
    let t = c.args.tenant.now in
    let l = c.args.label.now in
    let reader = between (g.R.Read.remaining c.args.reader.now) (g.R.Read.remaining c.read_script.new.reader) in
    let w = g.W.Write.contents c.args.writer.now in
    let v = g.W.Write.contents c.tell_view.new.writer in
    let script = c.in_ok-script.script in
    let read = subst (ReadsScript reader) c.in_ok-script.was c.read_script.ensures.steps in
    let said = subst (SaysLines w v (view_lines k t l script.events)) c.in_ok-tell_view.was c.tell_view.ensures in
    let summary : Summary = record { lines = script.lines; fault = None } in
    let steps : TellsTenant reader (between w v) (is_accepted k) k t l (Ok summary) = ends_whole reader w v k t l (is_accepted k) (script_read script) read c.requires (λ is. is) summary refl (ap (option_map InScript) (sym c.in-None.is)) c.in-None.is said in
    record { whole = tells_whole reader (between w v) (is_accepted k) k t l (Ok summary) steps; steps = steps }
