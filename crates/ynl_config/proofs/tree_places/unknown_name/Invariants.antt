use Rattle.std.proofs.Common.{◌≡◌, drop, find}
use Rattle.ynl_config.specs.RowPlaces.{is_unknown}
use Rattle.ynl_config.proofs.tree_places.unknown_name.Given as goal

abbrev pub invariant-loop-i : goal.invariant-loop-i
invariant-loop-i l = find (is_unknown l.config) l.names ≡ find (is_unknown l.config) (drop l.i l.names)
