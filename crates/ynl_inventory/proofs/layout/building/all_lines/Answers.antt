use Rattle.std.proofs.Common.{◌+◌, subst, ap, length, arith}
use Rattle.ynl_model.specs.Queues.{Config}
use Rattle.ynl_inventory.proofs.layout.Filled.{Hold}
use Rattle.ynl_inventory.proofs.layout.Lines.{HasLine, tree-of-lines}
use Rattle.ynl_inventory.proofs.layout.building.all_lines.Goals as goal

pub returns : goal.returns
returns c =
    let config = c.args.config.now in
    tree-of-lines config c.loop-place.lines.items c.in_ok-vec.field-0 c.draft.ensures.tree
    (subst (λ n. Hold (HasLine config) (n + 1) c.loop-place.lines.items) (omega (arith, c.loop-place-test.false, c.loop-place.auto.place-end, ap length c.queues-count.ensures, ap (λ (d : Config). length d.queues) c.draft.ensures.value)) c.loop-place.invariant)
