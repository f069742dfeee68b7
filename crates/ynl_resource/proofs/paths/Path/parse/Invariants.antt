use Rattle.std.proofs.Common.{◌≡◌, ◌+◌, ◌≤◌, true, [], ◌∷◌, ◌++◌, length, take, codes}
use Rattle.std.specs.Option.{option_map_or}
use Rattle.std.specs.List.{list_all, slice_split}
use Rattle.ynl_resource.specs.NameText.{is_name}
use Rattle.ynl_resource.specs.Padded.{IsPadded}
use Rattle.ynl_resource.specs.PathFields.{filler}
use Rattle.ynl_resource.specs.Texts.{is_dot}
use Rattle.ynl_resource.proofs.paths.Path.parse.Given as goal

abbrev pub invariant-parts : goal.invariant-parts
invariant-parts l = record {
  parts : slice_split is_dot l.text ≡ codes "root" ∷ (take l.len l.names ++ option_map_or (λ rest. slice_split is_dot rest.now) l.rest []);
  names : list_all is_name (take l.len l.names) ≡ true;
  kept : IsPadded 7 filler l.names l.len;
  few : length (slice_split is_dot l.text) ≤ 8;
}

abbrev pub decreases-parts : goal.decreases-parts
decreases-parts l = option_map_or (λ rest. length rest.now + 1) l.rest 0
