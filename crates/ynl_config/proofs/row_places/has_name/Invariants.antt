use Rattle.std.proofs.Common.{◌≡◌, drop, take}
use Rattle.std.specs.List.{list_any}
use Rattle.ynl_resource.specs.Names.{same_name}
use Rattle.ynl_config.proofs.row_places.has_name.Given as goal

abbrev pub invariant-loop-i : goal.invariant-loop-i
invariant-loop-i l = list_any (λ other. same_name l.name other.name) (take l.count l.rows) ≡ list_any (λ other. same_name l.name other.name) (drop l.i l.before)
