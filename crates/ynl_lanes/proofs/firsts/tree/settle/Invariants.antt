use Rattle.std.proofs.Common.{◌≡◌, ℕ, ◌/◌, ◌<◌, ◌≤◌, length}
use Rattle.ynl_lanes.specs.firsts.Tree.{values_of, IsAboveParent}
use Rattle.ynl_lanes.proofs.firsts.tree.settle.Given as goal

abbrev pub invariant-loop-node : goal.invariant-loop-node
invariant-loop-node g l = record {
  low : l.node ≤ length l.tree / 2;
  ordered : (i : ℕ) → 2 ≤ i → i < length l.tree → l.node ≤ i / 2 → IsAboveParent g.T.Least.below l.tree i;
  values : values_of l.tree ≡ values_of l.initial.tree;
}

abbrev pub decreases-loop-node : goal.decreases-loop-node
decreases-loop-node g l = l.node
