use Rattle.std.proofs.Common.{◌≡◌, ◌+◌, drop}
use Rattle.ynl_config.specs.RowPlaces.{repeated_label}
use Rattle.ynl_config.specs.Places.{first_from}
use Rattle.ynl_config.proofs.row_places.first_repeated_label.Given as goal

abbrev pub invariant-loop-i : goal.invariant-loop-i
invariant-loop-i l = first_from (repeated_label l.rows) 1 l.rows ≡ first_from (repeated_label l.rows) (l.i + 1) (drop l.i l.rows)
