use Rattle.std.proofs.Common.{Ok, Err, None, refl, ap, sym, subst, ◌∙◌}
use Rattle.std.proofs.lemmas.Result.{err_from_is_err_and}
use Rattle.ynl_commands.specs.declared.evidence.Gathering.{Gathering}
use Rattle.ynl_commands.specs.declared.run.ToolFault.TheVariants.{NoMemory}
use Rattle.ynl_commands.specs.Answering.{Finds, Steps}
use Rattle.ynl_commands.specs.Audit.{journal_way}
use Rattle.ynl_commands.specs.Evidence.{evidence_answer, gathered_answer, text_or_fault, IsGathering}
use Rattle.ynl_commands.specs.Input.{between, Takes}
use Rattle.ynl_commands.proofs.Answerings.{comes_first, comes_on, ends, finds_failed}
use Rattle.ynl_commands.proofs.Readings.{reading_failed, line_failed, ends_too_long, ends_faulty, ends_well, OfReading, of_reading}
use Rattle.ynl_commands.proofs.evidence.gather_entries.Goals as goal

pub lines-init : goal.lines-init
lines-init g c =
    comes_first journal_way (IsGathering c.args.whose.now) (λ (x : Gathering). x.entries) (g.R.Read.remaining c.args.reader.now) c.new-input.result c.new-gathering.result
    c.new-input.ensures.count c.new-input.ensures.budget c.new-input.ensures.ongoing c.new-gathering.ensures c.new-gathering.ensures.count

-- the reader failed
pub returns-in_err-next : goal.returns-in_err-next
returns-in_err-next g c =
    let p = err_from_is_err_and c.from_residual.result c.from_residual.ensures.1 in
    let reader = between (g.R.Read.remaining c.args.reader.now) (g.R.Read.remaining c.next.new.reader) in
    let whose = c.args.whose.now in
    let other = subst OfReading (sym p.2) (of_reading _) in
    let some = reading_failed journal_way _ _ _ _ c.next.new.self _ c.lines.invariant.read p.0 other c.in_err-next.ensures.broken in
    subst (Finds journal_way (evidence_answer whose) gathered_answer reader) (sym p.1) (finds_failed journal_way (evidence_answer whose) gathered_answer reader p.0 other some)

-- the byte past the limit
pub returns-in-TooLong : goal.returns-in-TooLong
returns-in-TooLong g c =
    let t = subst (Takes _ _ _) c.in-TooLong.is c.in_ok-next.ensures.next in
    ends journal_way (evidence_answer c.args.whose.now) _ _ _ (ends_too_long journal_way _ _ _ _ _ _ c.lines.invariant.read t) refl

-- the end
pub returns-in-End : goal.returns-in-End
returns-in-End g c =
    let t = subst (Takes _ _ _) c.in-End.is c.in_ok-next.ensures.next in
    ends journal_way (evidence_answer c.args.whose.now) _ _ _ (ends_well journal_way _ _ _ _ _ _ c.lines.invariant.read t)
    (ap (λ text. text_or_fault text c.next.new.self.count None) c.lines.invariant.now.text)

-- no memory for what a line says, or for what is written of it
pub returns-in_err-fault : goal.returns-in_err-fault
returns-in_err-fault g c =
    let p = err_from_is_err_and c.from_residual-in_err-fault.result c.from_residual-in_err-fault.ensures.1 in
    let reader = between (g.R.Read.remaining c.args.reader.now) (g.R.Read.remaining c.next.new.reader) in
    let whose = c.args.whose.now in
    let t = subst (Takes _ _ _) c.in-Line.is c.in_ok-next.ensures.next in
    let some = line_failed journal_way _ _ _ _ _ _ c.lines.invariant.read t NoMemory (λ e. cc) in
    subst (Finds journal_way (evidence_answer whose) gathered_answer reader) (sym p.1) (subst (λ e. Finds journal_way (evidence_answer whose) gathered_answer reader (Err e)) (sym p.2) some)

-- a line with a fault
pub returns-in-Some : goal.returns-in-Some
returns-in-Some g c =
    let so = c.lines.invariant in
    let whose = c.args.whose.now in
    let line = c.next.new.self.line.items in
    let t = subst (Takes _ _ _) c.in-Line.is c.in_ok-next.ensures.next in
    let steps = subst (λ l. Steps journal_way (IsGathering whose) so.made c.take_line.new.self l c.take_line.result) c.deref.ensures.value (c.take_line.ensures.steps so.made so.now) in
    let bad = subst (Steps journal_way (IsGathering whose) so.made c.take_line.new.self line) (c.in_ok-fault.was ∙ ap Ok c.in-Some.is) steps in
    ends journal_way (evidence_answer whose) _ _ _ (ends_faulty journal_way _ _ _ _ _ _ so.read t c.in-Some.fault bad) refl

-- a line without one
pub lines-preserved : goal.lines-preserved
lines-preserved g c =
    let so = c.lines.invariant in
    let whose = c.args.whose.now in
    let line = c.next.new.self.line.items in
    let t = subst (Takes _ _ _) c.in-Line.is c.in_ok-next.ensures.next in
    let steps = subst (λ l. Steps journal_way (IsGathering whose) so.made c.take_line.new.self l c.take_line.result) c.deref.ensures.value (c.take_line.ensures.steps so.made so.now) in
    let good = subst (Steps journal_way (IsGathering whose) so.made c.take_line.new.self line) (c.in_ok-fault.was ∙ ap Ok c.in_default.is) steps in
    comes_on journal_way (IsGathering whose) (λ (x : Gathering). x.entries) _ _ _ _ c.next.new.self _ _ so t c.in_ok-fault.ensures.few good.0 good.1 good.2
