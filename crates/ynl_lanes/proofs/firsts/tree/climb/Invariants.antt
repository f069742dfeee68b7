use Rattle.std.proofs.Common.{◌≡◌, ◌/◌, ◌<◌, length}
use Rattle.ynl_lanes.specs.firsts.Tree.{values_of, IsOrderedBut}
use Rattle.ynl_lanes.proofs.firsts.tree.climb.Given as goal

abbrev pub invariant-loop-node : goal.invariant-loop-node
invariant-loop-node g l = record {
  some : 0 < l.node;
  inside : l.node < length l.tree;
  ordered : IsOrderedBut g.T.Least.below (l.node / 2) l.tree;
  values : values_of l.tree ≡ values_of l.initial.tree;
}

abbrev pub decreases-loop-node : goal.decreases-loop-node
decreases-loop-node g l = l.node
