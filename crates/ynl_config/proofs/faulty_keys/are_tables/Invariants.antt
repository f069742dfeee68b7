use Rattle.std.proofs.Common.{◌≡◌, drop}
use Rattle.std.specs.List.{list_all}
use Rattle.toml.specs.View.{items_view}
use Rattle.ynl_config.specs.Places.{is_table}
use Rattle.ynl_config.specs.Tables.{values_in}
use Rattle.ynl_config.proofs.faulty_keys.are_tables.Given as goal

abbrev pub invariant-loop-i : goal.invariant-loop-i
invariant-loop-i l = list_all is_table (values_in (items_view l.values)) ≡ list_all is_table (values_in (items_view (drop l.i l.values)))
