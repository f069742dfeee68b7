-- Each queue on the line stands below the one before.
use Rattle.std.proofs.Common.{◌≡◌, sym, ap, subst, ◌∙◌, arith}
use Rattle.std.specs.Prelude.{slice_index_or, List}
use Rattle.ynl_resource.specs.declared.paths.Path.{Path}
use Rattle.ynl_inventory.specs.layout.Paths.{IsChild, IsLine}
use Rattle.ynl_inventory.specs.Parts.{Held}
use Rattle.ynl_search.proofs.Along.{next-below}
use Rattle.ynl_service.proofs.limits.place_of.Goals as goal

pub child_at-place-requires-clause-child : goal.child_at-place-requires-clause-child
child_at-place-requires-clause-child c =
    let paths = c.args.cluster.now.rows.paths in
    let are : c.layout.result.now ≡ paths = c.layout.ensures ∙ ap (λ (h : Held). h.rows.paths) c.inventory-inventory.ensures.value in
    let line : IsLine paths c.args.queue c.line-line.result.now = subst (λ (ps : List Path). IsLine ps c.args.queue c.line-line.result.now) are c.line-line.ensures.line in
    subst (λ q. IsChild paths q (slice_index_or c.line-line.result.now c.loop-at.at 0)) (sym c.loop-at.invariant.2)
    (next-below paths c.args.queue c.line-line.result.now line c.loop-at.at c.loop-at.invariant.3 (omega (arith, c.loop-at-test.true)))

pub loop-at-preserved : goal.loop-at-preserved
loop-at-preserved c = (
  c.child_at-place.ensures.place c.args.room c.loop-at.invariant.0,
  c.child_at-place.ensures.small,
  c.child_at-place.ensures.queue ∙ ap (λ k. slice_index_or c.line-line.result.now k 0) (omega arith),
  omega arith,
)
