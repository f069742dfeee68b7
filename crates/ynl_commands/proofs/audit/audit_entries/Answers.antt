use Rattle.std.proofs.Common.{Ok, Err, refl, ap, sym, subst, ◌∙◌}
use Rattle.std.proofs.lemmas.Result.{err_from_is_err_and}
use Rattle.ynl_commands.specs.declared.run.ToolFault.TheVariants.{NoMemory}
use Rattle.ynl_commands.specs.Input.{between, Takes}
use Rattle.ynl_commands.specs.Audit.{audit_way}
use Rattle.ynl_commands.specs.Auditing.{Passes, Finds}
use Rattle.ynl_commands.proofs.Readings.{reading_failed, line_failed, ends_too_long, ends_faulty, ends_well, OfReading, of_reading}
use Rattle.ynl_commands.proofs.Audits.{audit_at_start, line_passed, found, failed}
use Rattle.ynl_commands.proofs.audit.audit_entries.Goals as goal

pub lines-init : goal.lines-init
lines-init g c =
    audit_at_start c.args.core.config c.args.core.state (g.R.Read.remaining c.args.reader.now) c.new-input.result c.new-audit.result
    c.new-input.ensures.count c.new-input.ensures.budget c.new-input.ensures.ongoing c.new-audit.ensures

-- the reader failed
pub returns-in_err-next : goal.returns-in_err-next
returns-in_err-next g c =
    let p = err_from_is_err_and c.from_residual.result c.from_residual.ensures.1 in
    let a = g.R.Read.remaining c.args.reader.now in
    let d = g.R.Read.remaining c.next.new.reader in
    let k = c.args.core.config in
    let s = c.args.core.state in
    let other = subst OfReading (sym p.2) (of_reading _) in
    let some = reading_failed (audit_way k s) _ _ _ _ c.next.new.self _ c.lines.invariant.read p.0 other c.in_err-next.ensures.broken in
    subst (Finds (between a d) k s) (sym p.1) (failed (between a d) k s p.0 other some)

-- the byte past the limit
pub returns-in-TooLong : goal.returns-in-TooLong
returns-in-TooLong g c =
    let t = subst (Takes _ _ _) c.in-TooLong.is c.in_ok-next.ensures.next in
    found _ _ _ _ _ (ends_too_long (audit_way c.args.core.config c.args.core.state) _ _ _ _ _ _ c.lines.invariant.read t) c.lines.invariant.now.count refl refl

-- the end
pub returns-in-End : goal.returns-in-End
returns-in-End g c =
    let t = subst (Takes _ _ _) c.in-End.is c.in_ok-next.ensures.next in
    found _ _ _ _ _ (ends_well (audit_way c.args.core.config c.args.core.state) _ _ _ _ _ _ c.lines.invariant.read t) c.lines.invariant.now.count refl refl

-- no memory for what a line says
pub returns-in_err-fault : goal.returns-in_err-fault
returns-in_err-fault g c =
    let p = err_from_is_err_and c.from_residual-in_err-fault.result c.from_residual-in_err-fault.ensures.1 in
    let a = g.R.Read.remaining c.args.reader.now in
    let d = g.R.Read.remaining c.next.new.reader in
    let k = c.args.core.config in
    let s = c.args.core.state in
    let t = subst (Takes _ _ _) c.in-Line.is c.in_ok-next.ensures.next in
    let some = line_failed (audit_way k s) _ _ _ _ _ _ c.lines.invariant.read t NoMemory (λ e. cc) in
    subst (Finds (between a d) k s) (sym p.1) (subst (λ e. Finds (between a d) k s (Err e)) (sym p.2) some)

-- a line with a fault
pub returns-in-Some : goal.returns-in-Some
returns-in-Some g c =
    let so = c.lines.invariant in
    let line = c.next.new.self.line.items in
    let t = subst (Takes _ _ _) c.in-Line.is c.in_ok-next.ensures.next in
    let k = c.args.core.config in
    let s = c.args.core.state in
    let passes = subst (λ l. Passes k s so.entries c.take_line.new.self l c.take_line.result) c.deref.ensures.value (c.take_line.ensures.passes k s so.entries so.now) in
    let bad = subst (Passes k s so.entries c.take_line.new.self line) (c.in_ok-fault.was ∙ ap Ok c.in-Some.is) passes in
    found _ _ _ _ _ (ends_faulty (audit_way k s) _ _ _ _ _ _ so.read t c.in-Some.fault bad.0) bad.1 refl refl

-- a line without one
pub lines-preserved : goal.lines-preserved
lines-preserved g c =
    let so = c.lines.invariant in
    let line = c.next.new.self.line.items in
    let t = subst (Takes _ _ _) c.in-Line.is c.in_ok-next.ensures.next in
    let k = c.args.core.config in
    let s = c.args.core.state in
    let passes = subst (λ l. Passes k s so.entries c.take_line.new.self l c.take_line.result) c.deref.ensures.value (c.take_line.ensures.passes k s so.entries so.now) in
    let good = subst (Passes k s so.entries c.take_line.new.self line) (c.in_ok-fault.was ∙ ap Ok c.in_default.is) passes in
    line_passed k s _ _ _ _ c.next.new.self _ _ so t c.take_line.ensures.few good
