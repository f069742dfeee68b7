use Rattle.std.proofs.Common.{◌≡◌}
use Rattle.std.specs.Prelude.{find}
use Rattle.toml.specs.View.{table_view, members_view}
use Rattle.ynl_config.specs.KeyTables.{is_faulty}
use Rattle.ynl_config.specs.Places.{keys_in}
use Rattle.ynl_config.proofs.keys.faulty_key.Given as goal

abbrev pub invariant-loop-key : goal.invariant-loop-key
invariant-loop-key l =
    find (is_faulty l.fault (table_view l.table)) (keys_in (table_view l.table)) ≡ find (is_faulty l.fault (table_view l.table)) (keys_in (members_view l.key-iterator))
