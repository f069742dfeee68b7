-- A line more is read.
use Rattle.std.proofs.Common.{◌∙◌, Err, sym, ap, arith}
use Rattle.ynl_saved.specs.Restoring.{is_sound_line}
use Rattle.ynl_states.proofs.Steps.{blank-step, fault-step, line-counted, sound-step, unsound-step}
use Rattle.ynl_states.proofs.reading.Reading.take.Goals as goal

pub returns-then-is_blank-clause-step : goal.returns-then-is_blank-clause-step
returns-then-is_blank-clause-step c configured p at =
    blank-step configured c.args.self.now.told c.args.self.now.lines c.args.self.now.count p at c.args.line.now (sym c.is_blank.ensures ∙ c.if-is_blank.true)

pub returns-in-Err-clause-step : goal.returns-in-Err-clause-step
returns-in-Err-clause-step c configured p at =
    fault-step configured c.args.self.now.told c.args.self.now.lines c.args.self.now.count p at c.args.line.now (sym c.is_blank.ensures ∙ c.if-is_blank.false) c.in-Err.fault
    (rw c.in-Err.is at c.in_ok-fault.ensures.line)
    ∙ ap Err (sym c.bad.ensures)

pub take-requires-clause-few : goal.take-requires-clause-few
take-requires-clause-few c = let at = c.requires.at.1 in let fewer = at.fewer in let few = c.requires.few in omega (arith, fewer, few)

pub returns-then-not-branch-clause-step : goal.returns-then-not-branch-clause-step
returns-then-not-branch-clause-step c configured p at =
    let takes = rw (c.if-not-branch.true, c.line.ensures) at c.in_ok-take.ensures p.restored at.tells in
    unsound-step configured c.args.self.now.told c.args.self.now.lines c.args.self.now.count p at c.args.line.now (sym c.is_blank.ensures ∙ c.if-is_blank.false) c.read.new.self.line
    (rw c.in_default.is at c.in_ok-fault.ensures.line) (ap (λ configured. is_sound_line configured p.restored c.read.new.self.line) (sym at.config) ∙ takes.sound)
    ∙ ap Err (sym c.bad-then-not-branch.ensures)

pub returns-clause-step : goal.returns-clause-step
returns-clause-step c configured p at =
    let takes = rw (c.if-not-branch.false, c.line.ensures) at c.in_ok-take.ensures p.restored at.tells in
    sound-step configured c.args.self.now.told c.args.self.now.lines c.args.self.now.count p at c.args.line.now (sym c.is_blank.ensures ∙ c.if-is_blank.false) c.take.new.self c.read.new.self
    (rw c.in_default.is at c.in_ok-fault.ensures.line) (rw c.in_default.is at c.in_ok-fault.ensures.before) takes (line-counted c.read.new.self.line (rw c.in_default.is at c.in_ok-fault.ensures.ranged))
