use Rattle.std.proofs.Common.{◌≡◌, Ok, Err, Some, refl, ap, sym, subst, ◌∙◌}
use Rattle.std.proofs.lemmas.Result.{err_from_is_err_and}
use Rattle.std.specs.Io.KnownBytes.{Appends}
use Rattle.std.proofs.KnownBytes.{Appends-nil}
use Rattle.ynl_commands.specs.Lines.{AppendsPart}
use Rattle.ynl_commands.specs.Script.{part}
use Rattle.ynl_commands.specs.Running.{GoesOn, Holds, Runs}
use Rattle.ynl_commands.proofs.Held.{held_at_start, released, holds_on, holds_more, stops_after_line, going_stops}
use Rattle.ynl_commands.proofs.Runs.{long_reported, ends, fault_reported, no_reply}
use Rattle.ynl_commands.proofs.run.answer_lines.Goals as goal

pub lines-init : goal.lines-init
lines-init g c = held_at_start _ _ c.args.core.now c.new-input.result _ c.new-input.ensures.count c.new-input.ensures.budget c.new-input.ensures.ongoing c.new-held.ensures.items

-- a write failed before more was read, or the reader did
pub returns-in_err-go_on : goal.returns-in_err-go_on
returns-in_err-go_on g c =
    let p = err_from_is_err_and c.from_residual.result c.from_residual.ensures.1 in
    subst (Runs _ _ c.args.core.now.config c.args.core.now.state) (sym p.1)
    (going_stops _ _ _ _ _ _ _ _ _ c.go_on.new.input _ _ c.lines.invariant c.go_on.new.held.items p.0 (subst (GoesOn _ _ _ _ _ _) (c.in_err-go_on.was ∙ ap Err (sym p.2)) c.go_on.ensures))

-- the byte past the limit
pub returns-in-TooLong : goal.returns-in-TooLong
returns-in-TooLong g c =
    let h = subst (GoesOn _ _ _ _ _ _) (c.in_ok-go_on.was ∙ ap Ok c.in-TooLong.is) c.go_on.ensures in
    let so = released _ _ (g.R.Read.remaining c.go_on.new.reader) _ _ _ _ _ _ c.go_on.new.input _ _ c.lines.invariant h.1.0 in
    long_reported _ _ _ _ _ _ _ _ _ _ _ so h.0 c.report.result c.report.ensures.text c.report.ensures.fault

-- the end
pub returns-in-End : goal.returns-in-End
returns-in-End g c =
    let h = subst (GoesOn _ _ _ _ _ _) (c.in_ok-go_on.was ∙ ap Ok c.in-End.is) c.go_on.ensures in
    let so = released _ _ (g.R.Read.remaining c.go_on.new.reader) _ _ _ _ _ _ c.go_on.new.input _ _ c.lines.invariant h.1.0 in
    ends _ _ _ _ _ (g.W.Write.contents c.go_on.new.writer) _ _ _ _ _ so h.0 _ refl refl

-- a line without a fault
pub lines-preserved : goal.lines-preserved
lines-preserved g c =
    let h = subst (GoesOn _ _ _ _ _ _) (c.in_ok-go_on.was ∙ ap Ok c.in-Line.is) c.go_on.ensures in
    let so = holds_on _ _ (g.R.Read.remaining c.go_on.new.reader) _ _ _ _ _ _ c.go_on.new.input _ _ c.lines.invariant c.go_on.new.held.items h.1 in
    let done = subst (Holds c.go_on.new.held.items c.answer.new.held.items c.lines.core.config c.lines.core.state c.answer.new.core c.deref.result.now) (c.in-Ok-None.is ∙ ap Ok c.in-Ok-None.field-0-is) c.answer.ensures in
    holds_more _ _ (g.R.Read.remaining c.go_on.new.reader) _ _ (g.W.Write.contents c.go_on.new.writer) _ _ _ _ _ _ so h.0 c.answer.new.core c.deref.result.now _ c.deref.ensures.value done

-- a write failed after a line with a fault
pub returns-in_err-write_held-in-Ok-Some : goal.returns-in_err-write_held-in-Ok-Some
returns-in_err-write_held-in-Ok-Some g c =
    let h = subst (GoesOn _ _ _ _ _ _) (c.in_ok-go_on.was ∙ ap Ok c.in-Line.is) c.go_on.ensures in
    let so = holds_on _ _ (g.R.Read.remaining c.go_on.new.reader) _ _ _ _ _ _ c.go_on.new.input _ _ c.lines.invariant c.go_on.new.held.items h.1 in
    let p = err_from_is_err_and c.from_residual-in_err-write_held-in-Ok-Some.result c.from_residual-in_err-write_held-in-Ok-Some.ensures.1 in
    let bad = subst (Holds c.go_on.new.held.items c.answer.new.held.items c.lines.core.config c.lines.core.state c.answer.new.core c.deref.result.now) (c.in-Ok-Some.is ∙ ap Ok c.in-Ok-Some.field-0-is) c.answer.ensures in
    subst (Runs _ _ c.args.core.now.config c.args.core.now.state) (sym (p.1 ∙ ap Err p.2))
    (stops_after_line _ _ _ _ _ _ _ _ _ _ _ _ so h.0 (subst (λ k. AppendsPart (g.W.Write.contents c.go_on.new.writer) (g.W.Write.contents c.write_held.new.writer) k) bad.1 c.in_err-write_held-in-Ok-Some.ensures.err))

-- a line with a fault
pub returns-in-Ok-Some : goal.returns-in-Ok-Some
returns-in-Ok-Some g c =
    let h = subst (GoesOn _ _ _ _ _ _) (c.in_ok-go_on.was ∙ ap Ok c.in-Line.is) c.go_on.ensures in
    let so = holds_on _ _ (g.R.Read.remaining c.go_on.new.reader) _ _ _ _ _ _ c.go_on.new.input _ _ c.lines.invariant c.go_on.new.held.items h.1 in
    let bad = subst (Holds c.go_on.new.held.items c.answer.new.held.items c.lines.core.config c.lines.core.state c.answer.new.core c.deref.result.now) (c.in-Ok-Some.is ∙ ap Ok c.in-Ok-Some.field-0-is) c.answer.ensures in
    let all = released _ _ (g.R.Read.remaining c.go_on.new.reader) _ _ _ _ _ _ c.go_on.new.input _ _ so (subst (λ k. Appends (g.W.Write.contents c.go_on.new.writer) (g.W.Write.contents c.write_held.new.writer) k) bad.1 c.in_ok-write_held-in-Ok-Some.ensures.ok) in
    fault_reported _ _ (g.R.Read.remaining c.go_on.new.reader) _ _ _ _ _ _ _ _ all h.0 c.in-Ok-Some.fault (subst (λ k. (part k).fault ≡ Some c.in-Ok-Some.fault) c.deref.ensures.value bad.0) c.report-in-Ok-Some.result c.report-in-Ok-Some.ensures.text c.report-in-Ok-Some.ensures.fault

-- a write failed after a line that there was no memory for
pub returns-in_err-write_held-in-Err : goal.returns-in_err-write_held-in-Err
returns-in_err-write_held-in-Err g c =
    let h = subst (GoesOn _ _ _ _ _ _) (c.in_ok-go_on.was ∙ ap Ok c.in-Line.is) c.go_on.ensures in
    let so = holds_on _ _ (g.R.Read.remaining c.go_on.new.reader) _ _ _ _ _ _ c.go_on.new.input _ _ c.lines.invariant c.go_on.new.held.items h.1 in
    let p = err_from_is_err_and c.from_residual-in_err-write_held-in-Err.result c.from_residual-in_err-write_held-in-Err.ensures.1 in
    let same = subst (Holds c.go_on.new.held.items c.answer.new.held.items c.lines.core.config c.lines.core.state c.answer.new.core c.deref.result.now) c.in-Err.is c.answer.ensures in
    subst (Runs _ _ c.args.core.now.config c.args.core.now.state) (sym (p.1 ∙ ap Err p.2))
    (stops_after_line _ _ _ _ _ _ _ _ _ _ _ _ so h.0 (subst (λ k. AppendsPart (g.W.Write.contents c.go_on.new.writer) (g.W.Write.contents c.write_held-in-Err.new.writer) k) same c.in_err-write_held-in-Err.ensures.err))

-- no memory for a line
pub returns-in-Err : goal.returns-in-Err
returns-in-Err g c =
    let h = subst (GoesOn _ _ _ _ _ _) (c.in_ok-go_on.was ∙ ap Ok c.in-Line.is) c.go_on.ensures in
    let so = holds_on _ _ (g.R.Read.remaining c.go_on.new.reader) _ _ _ _ _ _ c.go_on.new.input _ _ c.lines.invariant c.go_on.new.held.items h.1 in
    let same = subst (Holds c.go_on.new.held.items c.answer.new.held.items c.lines.core.config c.lines.core.state c.answer.new.core c.deref.result.now) c.in-Err.is c.answer.ensures in
    let all = released _ _ (g.R.Read.remaining c.go_on.new.reader) _ _ _ _ _ _ c.go_on.new.input _ _ so (subst (λ k. Appends (g.W.Write.contents c.go_on.new.writer) (g.W.Write.contents c.write_held-in-Err.new.writer) k) same c.in_ok-write_held-in-Err.ensures.ok) in
    no_reply _ _ (g.R.Read.remaining c.go_on.new.reader) _ _ _ _ _ _ _ _ all h.0 (Appends-nil (g.W.Write.contents c.write_held-in-Err.new.writer))
