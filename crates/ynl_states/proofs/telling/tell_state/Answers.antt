-- All lines but the last are told, and then that one.
use Rattle.std.proofs.Common.{[], ◌∷◌, length, subst}
use Rattle.ynl_saved.specs.declared.lines.StateLine.TheVariants.{End}
use Rattle.ynl_saved.specs.Saving.{lines_before_end, state_lines}
use Rattle.ynl_saved.proofs.Handing.{fails-front, fails-on, hands-behind, hands-one}
use Rattle.ynl_states.proofs.telling.tell_state.Goals as goal

pub returns-in_err-tell : goal.returns-in_err-tell
returns-in_err-tell g c =
    let gives = g.S.LineSink.gives in
    let s = c.args.saving.now in
    fails-on gives c.args.sink.now c.tell.new.sink (state_lines s.config s.state) c.in_err-tell.field-0.0 c.from_residual.result
    (fails-front gives c.args.sink.now c.tell.new.sink (lines_before_end s.config s.state) (End (length (lines_before_end s.config s.state)) ∷ []) c.in_err-tell.field-0.0 c.in_err-tell.ensures)
    c.from_residual.ensures.1

pub returns : goal.returns
returns g c =
    let gives = g.S.LineSink.gives in
    let s = c.args.saving.now in
    let n = length (lines_before_end s.config s.state) in
    hands-behind gives c.args.sink.now c.tell.new.sink c.take.new.self (lines_before_end s.config s.state) (End n ∷ []) c.take.result c.in_ok-tell.ensures
    (hands-one gives c.tell.new.sink c.take.new.self (End n) c.take.result (subst (λ n. gives c.tell.new.sink (End n) c.take.new.self c.take.result) c.requires c.take.ensures))
