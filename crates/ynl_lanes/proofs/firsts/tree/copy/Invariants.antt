use Rattle.std.proofs.Common.{◌≡◌, take}
use Rattle.std.specs.Prelude.{vec_capacity}
use Rattle.ynl_lanes.proofs.firsts.tree.copy.Given as goal

abbrev pub invariant-loop-i : goal.invariant-loop-i
invariant-loop-i g l = record {
  nodes : l.copy.items ≡ take l.i l.tree;
  room : vec_capacity l.copy ≡ l.room;
}
