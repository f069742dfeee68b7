-- The lines of a state are measured, and then the one that counts them.
use Rattle.ynl_states.proofs.Measured.{state-breaks-off, state-fails-at-end, state-measured}
use Rattle.ynl_states.proofs.measure.measure_lines.Goals as goal

pub returns-in_err-tell : goal.returns-in_err-tell
returns-in_err-tell c =
    state-breaks-off c.args.saving.now.config c.args.saving.now.state c.args.measure.now c.tell.new.sink c.in_err-tell.field-0.0 c.from_residual.result c.in_err-tell.ensures c.from_residual.ensures.1

pub returns-in_err-take : goal.returns-in_err-take
returns-in_err-take c =
    state-fails-at-end c.args.saving.now.config c.args.saving.now.state c.args.measure.now c.tell.new.sink c.take.new.self c.lines-lines.result c.requires c.in_ok-tell.ensures c.lines-lines.ensures
    c.in_err-take.field-0.0 c.from_residual-in_err-take.result c.in_err-take.ensures c.from_residual-in_err-take.ensures.1

pub returns : goal.returns
returns c =
    state-measured c.args.saving.now.config c.args.saving.now.state c.args.measure.now c.tell.new.sink c.take.new.self c.lines-lines.result c.requires c.in_ok-tell.ensures c.lines-lines.ensures c.in_ok-take.ensures
