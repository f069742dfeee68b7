use Rattle.std.proofs.Common.{List, ℕ, IfSome, sym, ap, subst, ◌∙◌}
use Rattle.std.specs.Prelude.{is_some}
use mathlib.Core.Bool.{true≢false}
use Rattle.ynl_resource.specs.declared.paths.Path.{Path}
use Rattle.ynl_queues.specs.Index.{AreSteps, HasSteps}
use Rattle.ynl_queues.specs.declared.index.IndexRow.{IndexRow}
use Rattle.ynl_queues.proofs.draft.Draft.steps_at.Goals as goal

pub returns-in-Some-clause-steps : goal.returns-in-Some-clause-steps
returns-in-Some-clause-steps c = λ d.
    let rows = c.args.self.now.queues in
    let row : IndexRow = c.in_ok-row.row.now in
    let index = c.index.ensures in
    let kept = c.in_ok-row.ensures.kept rows index.rows in
    let steps : AreSteps rows row.path c.in-Some.steps.items = subst (λ (o : _). IfSome o (λ steps. AreSteps rows row.path steps.items)) c.in-Some.is kept.steps in
    let found : AreSteps rows row.path c.deref.result.now = subst (λ (places : List ℕ). AreSteps rows row.path places) (sym c.deref.ensures.value) steps in
    subst (λ (queue : Path). AreSteps rows queue c.deref.result.now) (c.in_ok-row.ensures.path rows d index.paths) found

pub returns-in_err-row-clause-sure : goal.returns-in_err-row-clause-sure
returns-in_err-row-clause-sure c = λ d inside has.
    absurd (true≢false (sym (c.row_at.ensures.sure c.args.self.now.queues c.index.ensures.paths inside) ∙ ap (λ (o : _). is_some o) c.in_err-row.was))

pub returns-in-None-clause-sure : goal.returns-in-None-clause-sure
returns-in-None-clause-sure c = λ d inside has.
    let rows = c.args.self.now.queues in
    let row : IndexRow = c.in_ok-row.row.now in
    let index = c.index.ensures in
    let kept = c.in_ok-row.ensures.kept rows index.rows in
    sym (ap (λ (o : _). is_some o) c.in-None.is) ∙ kept.sure (subst (HasSteps rows) (sym (c.in_ok-row.ensures.path rows d index.paths)) has)
