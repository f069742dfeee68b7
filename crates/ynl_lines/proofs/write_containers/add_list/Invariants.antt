use Rattle.std.proofs.Common.{◌≡◌, ◌++◌, All, take, drop, map, false}
use Rattle.serde_json.specs.View.{items_of}
use Rattle.serde_json.specs.Written.{items_text}
use Rattle.ynl_lines.proofs.write_containers.add_list.Given as goal

-- with the text of those that are left it is the text of all, and those before are sound
abbrev pub invariant-loop-one : goal.invariant-loop-one
invariant-loop-one g l = record {
  added : l.text.items ++ items_text l.later (items_of (map g.T.Listed.told (drop l.one-index l.list))) ≡ l.initial.text.items ++ items_text false (items_of (map g.T.Listed.told l.list));
  sound : All g.T.Listed.is_sound (take l.one-index l.list);
}
