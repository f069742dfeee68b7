use Rattle.std.proofs.Common.{◌≡◌, drop, take}
use Rattle.std.specs.List.{list_any}
use Rattle.ynl_resource.specs.Names.{same_path}
use Rattle.ynl_config.proofs.tree_places.has_path.Given as goal

abbrev pub invariant-loop-i : goal.invariant-loop-i
invariant-loop-i l = list_any (λ other. same_path l.path other.path) (take l.count l.rows) ≡ list_any (λ other. same_path l.path other.path) (drop l.i l.before)
