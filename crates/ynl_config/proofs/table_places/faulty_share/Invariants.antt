use Rattle.std.proofs.Common.{◌≡◌}
use Rattle.std.specs.Prelude.{find, is_some}
use Rattle.toml.specs.View.{table_view, members_view}
use Rattle.ynl_config.specs.Places.{key_in_share, keys_in}
use Rattle.ynl_config.proofs.table_places.faulty_share.Given as goal

abbrev pub invariant-loop-name : goal.invariant-loop-name
invariant-loop-name l =
    find (λ key. is_some (key_in_share l.fault l.version (table_view l.shares) key)) (keys_in (table_view l.shares))
    ≡ find (λ key. is_some (key_in_share l.fault l.version (table_view l.shares) key)) (keys_in (members_view l.name-iterator))
