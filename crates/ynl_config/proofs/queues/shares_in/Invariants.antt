use Rattle.std.proofs.Common.{◌≡◌, map, fold}
use Rattle.toml.specs.View.{table_view, members_view}
use Rattle.ynl_config.specs.Earliest.{and_one, all_of, items_in}
use Rattle.ynl_config.specs.Tables.{share_of, pairs_in}
use Rattle.ynl_config.proofs.queues.shares_in.Given as goal

abbrev pub invariant-loop-name : goal.invariant-loop-name
invariant-loop-name l =
    fold and_one (items_in l.rows) (map (share_of l.version) (pairs_in (members_view l.name-iterator))) ≡ all_of (map (share_of l.version) (pairs_in (table_view l.table)))
