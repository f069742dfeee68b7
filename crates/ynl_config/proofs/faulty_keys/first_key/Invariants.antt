use Rattle.std.proofs.Common.{◌≡◌, drop, map}
use Rattle.toml.specs.View.{table_view}
use Rattle.ynl_resource.specs.Refusals.{first_that_holds}
use Rattle.ynl_config.specs.KeyTables.{has_at}
use Rattle.ynl_config.proofs.faulty_keys.first_key.Given as goal

abbrev pub invariant-loop-i : goal.invariant-loop-i
invariant-loop-i l =
    first_that_holds (map (λ key. (key.0.now, has_at l.fault l.version (table_view l.table) key.0.now key.1)) l.keys)
    ≡ first_that_holds (map (λ key. (key.0.now, has_at l.fault l.version (table_view l.table) key.0.now key.1)) (drop l.i l.keys))
