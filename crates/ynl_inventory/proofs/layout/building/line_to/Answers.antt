use Rattle.std.proofs.Common.{◌∷◌, ◌+◌, suc, map, sym, subst, ◌∙◌, ap, arith}
use Rattle.ynl_queues.proofs.Trees.{blank_row}
use Rattle.ynl_inventory.specs.layout.Paths.{IsLine, paths_of}
use Rattle.ynl_inventory.proofs.layout.Lines.{line-of, step-below, take-all}
use Rattle.ynl_inventory.proofs.layout.building.line_to.Goals as goal

pub overflow_add-step : goal.overflow_add-step
overflow_add-step c =
    let low = step-below c.args.config.now _ c.way-steps.result.now c.loop-step.step-index (c.way-steps.ensures blank_row) c.loop-step-test.true in
    omega (arith, low, c.requires.few)

pub returns : goal.returns
returns c =
    let config = c.args.config.now in
    let is = line-of config c.args.place c.requires.place blank_row c.way-steps.result.now (c.way-steps.ensures blank_row) in
    subst (IsLine (paths_of config) (suc c.args.place)) (sym (c.loop-step.invariant ∙ ap (λ steps. 0 ∷ map (λ k. k + 1) steps) (take-all c.way-steps.result.now c.loop-step.step-index c.loop-step-test.false))) is
