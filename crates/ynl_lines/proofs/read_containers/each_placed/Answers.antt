use Rattle.std.proofs.Common.{◌∙◌, sym, ap}
use Rattle.ynl_lines.specs.ReadingReplies.{placed_at}
use Rattle.ynl_lines.proofs.Lists.{step}
use Rattle.ynl_lines.proofs.read_containers.each_placed.Goals as goal

pub loop-value-preserved : goal.loop-value-preserved
loop-value-preserved c =
    step placed_at c.args.values.now c.loop-value.value-index c.value-item.result c.loop-value-test.true c.value-item.is c.loop-value.list.items
    c.push_copy.new.list.items c.in-Ok.one (ap placed_at (sym c.value.ensures) ∙ sym c.placed_at.ensures ∙ c.in-Ok.is) c.in_ok-push_copy-in-Ok.ensures
    ∙ c.loop-value.invariant
