use Rattle.std.proofs.Common.{arith}
use Rattle.ynl_inventory.proofs.layout.building.all_children.Goals as goal

pub returns : goal.returns
returns c = record {
  many = omega (arith, c.loop-queue.invariant.many, c.loop-queue-test.false, c.loop-queue.auto.queue-end, c.requires.lines.many);
  each = λ n d there. c.loop-queue.invariant.each n (omega (arith, there, c.loop-queue-test.false, c.requires.lines.many)) d there;
}
