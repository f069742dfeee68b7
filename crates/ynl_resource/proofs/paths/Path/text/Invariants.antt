use Rattle.std.proofs.Common.{◌≡◌, true, ◌∷◌, take, codes, string_bytes}
use Rattle.std.specs.List.{list_all, join_with_byte}
use Rattle.ynl_resource.specs.NameText.{is_name}
use Rattle.ynl_resource.proofs.paths.Path.text.Given as goal

abbrev pub invariant-loop-name : goal.invariant-loop-name
invariant-loop-name l = record {
  text : string_bytes l.text ≡ join_with_byte 46 (codes "root" ∷ take l.name-index l.name-items);
  names : list_all is_name (take l.name-index l.name-items) ≡ true;
}
