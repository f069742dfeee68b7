use Rattle.std.proofs.Common.{◌≡◌, ◌≤◌, length, drop, true}
use Rattle.json.specs.Value.{members_view}
use Rattle.ynl_fields.specs.Trees.{are_plain, are_distinct}
use Rattle.ynl_fields.proofs.trees.+is_plain.Given as goal

abbrev pub decreases-is_plain : goal.decreases-is_plain
decreases-is_plain l = l.depth

abbrev pub invariant-loop-left : goal.invariant-loop-left
invariant-loop-left l = record {
  inside : l.left ≤ length l.members.items;
  plain : are_plain (members_view (drop l.left l.members.items)) ≡ true;
  distinct : are_distinct (members_view (drop l.left l.members.items)) ≡ true;
}

abbrev pub decreases-loop-left : goal.decreases-loop-left
decreases-loop-left l = l.left
