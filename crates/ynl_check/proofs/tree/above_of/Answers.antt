use Rattle.std.proofs.Common.{◌≡◌, map, sym, subst, ◌∙◌}
use Rattle.ynl_resource.specs.declared.paths.Path.{Path}
use Rattle.ynl_queues.proofs.Places.{same_path_equal}
use Rattle.ynl_check.specs.Tree.{portion}
use Rattle.ynl_check.proofs.tree.above_of.Goals as goal

pub returns-then-eq-clause-queue : goal.returns-then-eq-clause-queue
returns-then-eq-clause-queue c = same_path_equal c.args.kept.queue.now c.args.parent.now (sym c.eq.ensures ∙ c.if-eq.true)

pub returns-then-eq-clause-portions : goal.returns-then-eq-clause-portions
returns-then-eq-clause-portions c =
    subst (λ (queue : Path). c.args.kept.portions.items ≡ map (portion c.args.config.now queue) c.args.labels.now)
    (same_path_equal c.args.kept.queue.now c.args.parent.now (sym c.eq.ensures ∙ c.if-eq.true)) c.requires
