use Rattle.std.proofs.Common.{◌≡◌, ◌++◌, replicate}
use Rattle.std.specs.Prelude.{vec_capacity}
use Rattle.ynl_lanes.proofs.firsts.tree.widen.Given as goal

abbrev pub invariant-loop-node : goal.invariant-loop-node
invariant-loop-node g l = record {
  nodes : l.tree.items ≡ l.initial.tree.items ++ replicate l._node g.T.Least.none;
  capacity : vec_capacity l.tree ≡ vec_capacity l.initial.tree;
}
