use Rattle.std.proofs.Common.{◌≡◌, ◌≤◌, ℕ, List, ◌∷◌, ◌++◌, true, take, codes, vec_capacity}
use Rattle.std.specs.List.{list_all, join_with_byte}
use Rattle.json.specs.Print.{escape}
use Rattle.ynl_resource.specs.NameText.{is_name}
use Rattle.ynl_fields.proofs.adding.add_path.Given as goal

-- the names so far are added, and are names
abbrev pub invariant-loop-name : goal.invariant-loop-name
invariant-loop-name g l = record {
  added : (old : List ℕ) → l.initial.text.items ≡ old ++ (l.front ++ escape (codes "root")) → l.text.items ≡ old ++ (l.front ++ escape (join_with_byte 46 (codes "root" ∷ take l.name-index l.name-items)));
  capacity : vec_capacity l.fn.text ≤ vec_capacity l.text;
  sound : list_all is_name (take l.name-index l.name-items) ≡ true;
}
