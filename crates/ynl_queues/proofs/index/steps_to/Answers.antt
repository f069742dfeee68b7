use Rattle.std.proofs.Common.{ℕ, ◌+◌, Option, take, sym, ap, subst, ◌∙◌}
use Rattle.std.specs.Prelude.{is_some}
use Rattle.std.specs.List.{position}
use Rattle.ynl_resource.specs.Names.{same_path}
use Rattle.ynl_resource.specs.declared.paths.Path.{Path}
use Rattle.ynl_queues.specs.Index.{AreStepsTo, IsPlaceOf}
use Rattle.ynl_queues.proofs.Places.{place_found, steps_more}
use Rattle.ynl_queues.proofs.index.steps_to.Goals as goal

pub loop-depth-preserved : goal.loop-depth-preserved
loop-depth-preserved c = λ rows are.
    let queue = c.args.queue.now in
    let depth = c.loop-depth.depth in
    let place = c.in-Some.place in
    let found : IsPlaceOf rows c.step_at.result.now place = place_found rows c.step_at.result.now place (sym (c.place_of.ensures rows are) ∙ c.in-Some.is) in
    let stands : IsPlaceOf rows (take (depth + 1) queue) place = subst (λ (q : Path). IsPlaceOf rows q place) c.step_at.ensures found in
    subst (AreStepsTo rows queue (depth + 1)) (sym c.in_ok-push.ensures.items) (steps_more rows queue depth c.loop-depth.steps.items place (c.loop-depth.invariant rows are) stands)

pub returns-in_default-clause-sure : goal.returns-in_default-clause-sure
returns-in_default-clause-sure c = λ rows are has.
    let queue = c.args.queue.now in
    let found = c.place_of.ensures rows are ∙ ap (λ (q : Path). position (λ row. same_path row.path q) rows) c.step_at.ensures in
    ap (λ (o : Option ℕ). is_some o) (sym c.in_default.is ∙ found) ∙ has c.loop-depth.depth c.loop-depth-test.true
