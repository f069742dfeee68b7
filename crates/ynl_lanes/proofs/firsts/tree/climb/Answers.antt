use Rattle.std.proofs.Common.{◌/◌, ◌∙◌, arith, length-set}
use Rattle.ynl_lanes.proofs.firsts.Ordered.{climbed, values-set_node}
use Rattle.ynl_lanes.proofs.firsts.tree.climb.Goals as goal

pub loop-node-preserved : goal.loop-node-preserved
loop-node-preserved g c =
    let at = c.loop-node in
    let least = c.least_below-least in
    record {
      some = omega arith;
      inside = omega (arith, length-set at.tree (at.node / 2) least.result);
      ordered = climbed g.T.Least.below at.tree (at.node / 2) least.result (omega arith) (omega arith) least.ensures at.invariant.ordered;
      values = values-set_node at.tree (at.node / 2) least.result (omega arith) ∙ at.invariant.values;
    }
