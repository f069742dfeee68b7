use Rattle.std.proofs.Common.{List, [], take, fold, ap, sym, ◌∙◌}
use Rattle.ynl_model.specs.Queues.{given, accessible, AllLabels, Inherited, setting}
use Rattle.ynl_resource.specs.declared.names.Name.{Name}
use Rattle.ynl_resource.specs.declared.paths.Path.{Path}
use Rattle.ynl_resource.specs.Names.{way_to}
use Rattle.ynl_queues.proofs.Prefixes.{way_fold, way_end}
use Rattle.ynl_queues.proofs.draft.Draft.reach.Goals as goal

pub loop-depth-preserved : goal.loop-depth-preserved
loop-depth-preserved c =
    let config = c.args.self.now in
    let queue = c.args.queue.now in
    let f : List Name → Path → List Name = λ above step. given above config (setting (λ row. row.access) Inherited config step) in
    c.step_reach-reach.ensures
    ∙ ap (λ (above : List Name). f above c.step_at-step.result.now) c.loop-depth.invariant
    ∙ ap (λ (step : Path). f (fold f (given [] config AllLabels) (take c.loop-depth.depth (way_to queue))) step) c.step_at-step.ensures
    ∙ sym (way_fold f (given [] config AllLabels) queue c.loop-depth.depth c.loop-depth-test.true)

pub returns : goal.returns
unfolding accessible
returns c =
    let config = c.args.self.now in
    let f : List Name → Path → List Name = λ above step. given above config (setting (λ row. row.access) Inherited config step) in
    c.loop-depth.invariant
    ∙ ap (λ (steps : List Path). fold f (given [] config AllLabels) steps) (way_end c.args.queue.now c.loop-depth.depth c.loop-depth-test.false)
