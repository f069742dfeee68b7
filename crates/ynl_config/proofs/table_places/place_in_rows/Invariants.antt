use Rattle.std.proofs.Common.{◌≡◌, ◌+◌, drop}
use Rattle.toml.specs.View.{items_view}
use Rattle.ynl_config.specs.Places.{first_from, place_in_row}
use Rattle.ynl_config.specs.Tables.{values_in}
use Rattle.ynl_config.proofs.table_places.place_in_rows.Given as goal

abbrev pub invariant-loop-i : goal.invariant-loop-i
invariant-loop-i l =
    first_from (place_in_row l.fault l.version l.kind) 1 (values_in (items_view l.values))
    ≡ first_from (place_in_row l.fault l.version l.kind) (l.i + 1) (values_in (items_view (drop l.i l.values)))
