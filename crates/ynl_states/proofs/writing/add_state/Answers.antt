-- The lines of a state are added, and then the one that counts them.
use Rattle.ynl_states.proofs.Added.{state-added, state-on, state-too-long}
use Rattle.ynl_states.proofs.writing.add_state.Goals as goal

pub returns-in_err-tell : goal.returns-in_err-tell
returns-in_err-tell c =
    state-on c.args.saving.now.config c.args.saving.now.state c.args.text.now c.tell.new.sink c.in_err-tell.field-0.0 c.from_residual.result
    (state-too-long c.args.saving.now.config c.args.saving.now.state c.args.text.now c.tell.new.sink c.in_err-tell.field-0.0 c.in_err-tell.ensures) c.from_residual.ensures.1

pub returns : goal.returns
returns c =
    state-added c.args.saving.now.config c.args.saving.now.state c.args.text.now c.tell.new.sink c.take.new.self c.lines-lines.result c.take.result c.requires c.in_ok-tell.ensures c.lines-lines.ensures c.take.ensures
