use Rattle.std.proofs.Common.{Some, Ok, ap, sym, subst, ◌∙◌}
use Rattle.std.proofs.lemmas.Result.{err_from_is_err_and}
use Rattle.ynl_commands.specs.Input.{between, Takes}
use Rattle.ynl_commands.specs.Lines.{tool_fault}
use Rattle.ynl_commands.specs.Readings.{come_to, ReadsTo}
use Rattle.ynl_commands.specs.Script.{Adds, script_way, ReadsScript}
use Rattle.ynl_commands.proofs.Readings.{ReadSoFar, at_first, reading_failed, line_failed, ends_too_long, ends_faulty, ends_well, took, of_reading, no_read}
use Rattle.ynl_commands.proofs.Scripts.{adds_events, has_fault, reads_whole}
use Rattle.ynl_commands.proofs.script_in.read_script.Goals as goal

pub lines-init : goal.lines-init
lines-init g c =
    let a = g.R.Read.remaining c.args.reader.now in
    subst (ReadSoFar script_way (between a a) c.new-input.result) (sym c.new-events.ensures) (at_first script_way a c.new-input.result c.new-input.ensures.count c.new-input.ensures.budget c.new-input.ensures.ongoing)

-- the reader failed
pub returns-in_err-next : goal.returns-in_err-next
returns-in_err-next g c =
    let p = err_from_is_err_and c.from_residual.result c.from_residual.ensures.1 in
    let a = g.R.Read.remaining c.args.reader.now in
    let d = g.R.Read.remaining c.next.new.reader in
    let some = reading_failed script_way _ _ _ _ c.next.new.self _ c.lines.invariant (tool_fault p.0) (of_reading p.0) c.in_err-next.ensures.broken in
    let steps : ReadsScript (between a d) c.from_residual.result = subst (ReadsScript (between a d)) (sym p.1) some in
    record { whole = reads_whole a d c.from_residual.result steps; steps = steps }

-- the byte past the limit
pub returns-in-TooLong : goal.returns-in-TooLong
returns-in-TooLong g c =
    let a = g.R.Read.remaining c.args.reader.now in
    let d = g.R.Read.remaining c.next.new.reader in
    let t = subst (Takes _ _ _) c.in-TooLong.is c.in_ok-next.ensures.next in
    let steps : ReadsScript (between a d) (Ok c.end_script.result) = subst (ReadsTo script_way (between a d)) (sym c.end_script.ensures) (ends_too_long script_way _ _ _ _ _ _ c.lines.invariant t) in
    record { whole = reads_whole a d (Ok c.end_script.result) steps; steps = steps }

-- the end
pub returns-in-End : goal.returns-in-End
returns-in-End g c =
    let a = g.R.Read.remaining c.args.reader.now in
    let d = g.R.Read.remaining c.next.new.reader in
    let t = subst (Takes _ _ _) c.in-End.is c.in_ok-next.ensures.next in
    let steps : ReadsScript (between a d) (Ok c.end_script-in-End.result) = subst (ReadsTo script_way (between a d)) (sym c.end_script-in-End.ensures) (ends_well script_way _ _ _ _ _ _ c.lines.invariant t) in
    record { whole = reads_whole a d (Ok c.end_script-in-End.result) steps; steps = steps }

-- no memory for the event of a line
pub returns-in_err-fault : goal.returns-in_err-fault
returns-in_err-fault g c =
    let p = err_from_is_err_and c.from_residual-in_err-fault.result c.from_residual-in_err-fault.ensures.1 in
    let a = g.R.Read.remaining c.args.reader.now in
    let d = g.R.Read.remaining c.next.new.reader in
    let t = subst (Takes _ _ _) c.in-Line.is c.in_ok-next.ensures.next in
    let some = line_failed script_way _ _ _ _ _ _ c.lines.invariant t (tool_fault p.0) (no_read p.0 p.2) in
    let steps : ReadsScript (between a d) c.from_residual-in_err-fault.result = subst (ReadsScript (between a d)) (sym p.1) some in
    record { whole = reads_whole a d c.from_residual-in_err-fault.result steps; steps = steps }

-- a line with a fault
pub returns-in-Some : goal.returns-in-Some
returns-in-Some g c =
    let a = g.R.Read.remaining c.args.reader.now in
    let d = g.R.Read.remaining c.next.new.reader in
    let events = c.lines.events in
    let new = c.next.new.self in
    let t = subst (Takes _ _ _) c.in-Line.is c.in_ok-next.ensures.next in
    let added = subst (λ l. Adds events c.add_line.new.events l c.add_line.result) c.deref.ensures.value c.add_line.ensures in
    let bad = subst (Adds events c.add_line.new.events new.line.items) (c.in_ok-fault.was ∙ ap Ok c.in-Some.is) added in
    let made = c.end_script-in-Some.ensures ∙ ap (λ es. come_to es new.count (Some c.in-Some.fault)) bad.1 in
    let steps : ReadsScript (between a d) (Ok c.end_script-in-Some.result) = subst (ReadsTo script_way (between a d)) (sym made) (ends_faulty script_way _ _ _ _ _ _ c.lines.invariant t c.in-Some.fault (has_fault events new.line.items c.in-Some.fault bad.0)) in
    record { whole = reads_whole a d (Ok c.end_script-in-Some.result) steps; steps = steps }

-- a line without one
pub lines-preserved : goal.lines-preserved
lines-preserved g c =
    let a = g.R.Read.remaining c.args.reader.now in
    let d = g.R.Read.remaining c.next.new.reader in
    let events = c.lines.events in
    let new = c.next.new.self in
    let t = subst (Takes _ _ _) c.in-Line.is c.in_ok-next.ensures.next in
    let added = subst (λ l. Adds events c.add_line.new.events l c.add_line.result) c.deref.ensures.value c.add_line.ensures in
    let good = subst (Adds events c.add_line.new.events new.line.items) (c.in_ok-fault.was ∙ ap Ok c.in_default.is) added in
    subst (ReadSoFar script_way (between a d) new) (sym good.1) (took script_way _ _ _ _ _ _ c.lines.invariant t _ (adds_events events new.line.items good.0))
