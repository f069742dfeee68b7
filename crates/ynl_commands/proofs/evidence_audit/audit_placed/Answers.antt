use Rattle.std.proofs.Common.{Ok, Err, None, refl, ap, sym, subst, ◌∙◌}
use Rattle.std.proofs.lemmas.Result.{err_from_is_err_and}
use Rattle.ynl_commands.specs.declared.evidence_audit.EvidenceAudit.{EvidenceAudit}
use Rattle.ynl_commands.specs.declared.run.ToolFault.TheVariants.{NoMemory}
use Rattle.ynl_commands.specs.Answering.{Finds, Steps}
use Rattle.ynl_commands.specs.Audit.{answer_of}
use Rattle.ynl_commands.specs.Evidence.{evidence_way, placed_answer, found_answer, IsEvidenceAudit}
use Rattle.ynl_commands.specs.Input.{between, Takes}
use Rattle.ynl_commands.proofs.Answerings.{comes_first, comes_on, ends, finds_failed}
use Rattle.ynl_commands.proofs.Readings.{nothing_read, reading_failed, line_failed, ends_too_long, ends_faulty, ends_well, OfReading, of_reading}
use Rattle.ynl_commands.proofs.evidence_audit.audit_placed.Goals as goal

-- no memory for the cluster
pub returns-in_err-audit : goal.returns-in_err-audit
returns-in_err-audit g c =
    let p = err_from_is_err_and c.from_residual.result c.from_residual.ensures.1 in
    let a = g.R.Read.remaining c.args.reader.now in
    let w = evidence_way c.args.whose.now in
    subst (Finds w placed_answer found_answer (between a a)) (sym p.1) (subst (λ e. Finds w placed_answer found_answer (between a a) (Err e)) (sym p.2) (nothing_read w a _))

pub lines-init : goal.lines-init
lines-init g c =
    comes_first (evidence_way c.args.whose.now) (IsEvidenceAudit c.args.whose.now) (λ (x : EvidenceAudit). x.entries) (g.R.Read.remaining c.args.reader.now) c.new-input.result c.in_ok-audit.audit
    c.new-input.ensures.count c.new-input.ensures.budget c.new-input.ensures.ongoing c.in_ok-audit.ensures c.in_ok-audit.ensures.count

-- the reader failed
pub returns-in_err-next : goal.returns-in_err-next
returns-in_err-next g c =
    let p = err_from_is_err_and c.from_residual-in_err-next.result c.from_residual-in_err-next.ensures.1 in
    let reader = between (g.R.Read.remaining c.args.reader.now) (g.R.Read.remaining c.next.new.reader) in
    let w = evidence_way c.args.whose.now in
    let other = subst OfReading (sym p.2) (of_reading _) in
    let some = reading_failed w _ _ _ _ c.next.new.self _ c.lines.invariant.read p.0 other c.in_err-next.ensures.broken in
    subst (Finds w placed_answer found_answer reader) (sym p.1) (finds_failed w placed_answer found_answer reader p.0 other some)

-- the byte past the limit
pub returns-in-TooLong : goal.returns-in-TooLong
returns-in-TooLong g c =
    let t = subst (Takes _ _ _) c.in-TooLong.is c.in_ok-next.ensures.next in
    let w = evidence_way c.args.whose.now in
    ends w placed_answer _ _ _ (ends_too_long w _ _ _ _ _ _ c.lines.invariant.read t) refl

-- the end
pub returns-in-End : goal.returns-in-End
returns-in-End g c =
    let t = subst (Takes _ _ _) c.in-End.is c.in_ok-next.ensures.next in
    let w = evidence_way c.args.whose.now in
    ends w placed_answer _ _ _ (ends_well w _ _ _ _ _ _ c.lines.invariant.read t) (ap (λ n. answer_of n c.next.new.self.count None) c.lines.invariant.now.count)

-- no memory for what a line says
pub returns-in_err-fault : goal.returns-in_err-fault
returns-in_err-fault g c =
    let p = err_from_is_err_and c.from_residual-in_err-fault.result c.from_residual-in_err-fault.ensures.1 in
    let reader = between (g.R.Read.remaining c.args.reader.now) (g.R.Read.remaining c.next.new.reader) in
    let w = evidence_way c.args.whose.now in
    let t = subst (Takes _ _ _) c.in-Line.is c.in_ok-next.ensures.next in
    let some = line_failed w _ _ _ _ _ _ c.lines.invariant.read t NoMemory (λ e. cc) in
    subst (Finds w placed_answer found_answer reader) (sym p.1) (subst (λ e. Finds w placed_answer found_answer reader (Err e)) (sym p.2) some)

-- a line with a fault
pub returns-in-Some : goal.returns-in-Some
returns-in-Some g c =
    let so = c.lines.invariant in
    let w = evidence_way c.args.whose.now in
    let is = IsEvidenceAudit c.args.whose.now in
    let line = c.next.new.self.line.items in
    let t = subst (Takes _ _ _) c.in-Line.is c.in_ok-next.ensures.next in
    let steps = subst (λ l. Steps w is so.made c.take_line.new.self l c.take_line.result) c.deref.ensures.value (c.take_line.ensures.steps so.made so.now) in
    let bad = subst (Steps w is so.made c.take_line.new.self line) (c.in_ok-fault.was ∙ ap Ok c.in-Some.is) steps in
    ends w placed_answer _ _ _ (ends_faulty w _ _ _ _ _ _ so.read t c.in-Some.fault bad) refl

-- a line without one
pub lines-preserved : goal.lines-preserved
lines-preserved g c =
    let so = c.lines.invariant in
    let w = evidence_way c.args.whose.now in
    let is = IsEvidenceAudit c.args.whose.now in
    let line = c.next.new.self.line.items in
    let t = subst (Takes _ _ _) c.in-Line.is c.in_ok-next.ensures.next in
    let steps = subst (λ l. Steps w is so.made c.take_line.new.self l c.take_line.result) c.deref.ensures.value (c.take_line.ensures.steps so.made so.now) in
    let good = subst (Steps w is so.made c.take_line.new.self line) (c.in_ok-fault.was ∙ ap Ok c.in_default.is) steps in
    comes_on w is (λ (x : EvidenceAudit). x.entries) _ _ _ _ c.next.new.self _ _ so t c.in_ok-fault.ensures.few good.0 good.1 good.2
