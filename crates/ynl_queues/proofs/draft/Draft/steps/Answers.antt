use Rattle.std.proofs.Common.{List, ℕ, sym, subst}
use Rattle.std.specs.Prelude.{IfSome}
use Rattle.ynl_resource.specs.declared.paths.Path.{Path}
use Rattle.ynl_queues.specs.Index.{AreSteps}
use Rattle.ynl_queues.specs.declared.index.IndexRow.{IndexRow}
use Rattle.ynl_queues.proofs.draft.Draft.steps.Goals as goal

pub returns-in-Some : goal.returns-in-Some
returns-in-Some c =
    let rows = c.args.self.now.queues in
    let row : IndexRow = c.in_ok-row.row.now in
    let steps : AreSteps rows row.path c.in-Some.steps.items = subst (λ (o : _). IfSome o (λ steps. AreSteps rows row.path steps.items)) c.in-Some.is c.in_ok-row.ensures.kept.steps in
    let found : AreSteps rows row.path c.deref.result.now = subst (λ (places : List ℕ). AreSteps rows row.path places) (sym c.deref.ensures.value) steps in
    subst (λ (queue : Path). AreSteps rows queue c.deref.result.now) c.in_ok-row.ensures.path found
