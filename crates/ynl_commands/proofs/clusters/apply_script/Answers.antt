use Rattle.std.proofs.Common.{Ok, [], ap, refl, sym, subst, ◌∙◌}
use Rattle.std.proofs.lemmas.Result.{err_from_is_err_and}
use Rattle.ynl_commands.specs.Clusters.{Applies, AppliesScript}
use Rattle.ynl_commands.specs.Input.{between, Takes}
use Rattle.ynl_commands.specs.Lines.{tool_fault}
use Rattle.ynl_commands.specs.Script.{script_way}
use Rattle.ynl_commands.proofs.ClustersAfter.{applied_more}
use Rattle.ynl_commands.proofs.Readings.{at_first, reading_failed, line_failed, ends_too_long, ends_faulty, ends_well, took, of_reading, no_read}
use Rattle.ynl_commands.proofs.Scripts.{adds_events, has_fault}
use Rattle.ynl_commands.proofs.clusters.apply_script.Goals as goal

pub lines-init : goal.lines-init
lines-init g c =
    let a = g.R.Read.remaining c.args.reader.now in
    record {
      events = [];
      now = refl;
      read = at_first script_way a c.new-input.result c.new-input.ensures.count c.new-input.ensures.budget c.new-input.ensures.ongoing;
    }

-- the reader failed
pub returns-in_err-next : goal.returns-in_err-next
returns-in_err-next g c =
    let p = err_from_is_err_and c.from_residual.result c.from_residual.ensures.1 in
    let a = g.R.Read.remaining c.args.reader.now in
    let d = g.R.Read.remaining c.next.new.reader in
    let some = reading_failed script_way _ _ _ _ c.next.new.self _ c.lines.invariant.read (tool_fault p.0) (of_reading p.0) c.in_err-next.ensures.broken in
    subst (AppliesScript (between a d) c.args.core) (sym p.1) some

-- the byte past the limit
pub returns-in-TooLong : goal.returns-in-TooLong
returns-in-TooLong g c =
    let so = c.lines.invariant in
    let t = subst (Takes _ _ _) c.in-TooLong.is c.in_ok-next.ensures.next in
    record { events = so.events; core = so.now; read = ends_too_long script_way _ _ _ _ _ _ so.read t }

-- the end
pub returns-in-End : goal.returns-in-End
returns-in-End g c =
    let so = c.lines.invariant in
    let t = subst (Takes _ _ _) c.in-End.is c.in_ok-next.ensures.next in
    record { events = so.events; core = so.now; read = ends_well script_way _ _ _ _ _ _ so.read t }

-- no memory for a line, or for its event
pub returns-in_err-fault : goal.returns-in_err-fault
returns-in_err-fault g c =
    let p = err_from_is_err_and c.from_residual-in_err-fault.result c.from_residual-in_err-fault.ensures.1 in
    let a = g.R.Read.remaining c.args.reader.now in
    let d = g.R.Read.remaining c.next.new.reader in
    let t = subst (Takes _ _ _) c.in-Line.is c.in_ok-next.ensures.next in
    let some = line_failed script_way _ _ _ _ _ _ c.lines.invariant.read t (tool_fault p.0) (no_read p.0 p.2) in
    subst (AppliesScript (between a d) c.args.core) (sym p.1) some

-- a line with a fault
pub returns-in-Some : goal.returns-in-Some
returns-in-Some g c =
    let so = c.lines.invariant in
    let core = c.lines.core in
    let new = c.next.new.self in
    let t = subst (Takes _ _ _) c.in-Line.is c.in_ok-next.ensures.next in
    let added = subst (λ l. Applies core c.apply_line.new.core l c.apply_line.result) c.deref.ensures.value c.apply_line.ensures in
    let bad = subst (Applies core c.apply_line.new.core new.line.items) (c.in_ok-fault.was ∙ ap Ok c.in-Some.is) added in
    record {
      events = so.events;
      core = bad.1 ∙ so.now;
      read = ends_faulty script_way _ _ _ _ _ _ so.read t c.in-Some.fault (has_fault so.events new.line.items c.in-Some.fault bad.0);
    }

-- a line without one
pub lines-preserved : goal.lines-preserved
lines-preserved g c =
    let so = c.lines.invariant in
    let core = c.lines.core in
    let new = c.next.new.self in
    let t = subst (Takes _ _ _) c.in-Line.is c.in_ok-next.ensures.next in
    let added = subst (λ l. Applies core c.apply_line.new.core l c.apply_line.result) c.deref.ensures.value c.apply_line.ensures in
    let good = subst (Applies core c.apply_line.new.core new.line.items) (c.in_ok-fault.was ∙ ap Ok c.in_default.is) added in
    record {
      events = _;
      now = applied_more c.args.core core c.apply_line.new.core so.events _ so.now good.1;
      read = took script_way _ _ _ _ _ _ so.read t _ (adds_events so.events new.line.items good.0);
    }
