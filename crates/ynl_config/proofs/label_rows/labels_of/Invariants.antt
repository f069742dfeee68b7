use Rattle.std.proofs.Common.{◌≡◌, drop, map, fold}
use Rattle.toml.specs.View.{items_view}
use Rattle.ynl_config.specs.Earliest.{and_one, all_of, items_in}
use Rattle.ynl_config.specs.Tables.{in_table, label_in, values_in}
use Rattle.ynl_config.proofs.label_rows.labels_of.Given as goal

abbrev pub invariant-loop-value : goal.invariant-loop-value
invariant-loop-value l =
    fold and_one (items_in l.rows) (map (in_table label_in) (values_in (items_view (drop l.value-index l.values))))
    ≡ all_of (map (in_table label_in) (values_in (items_view l.values)))
