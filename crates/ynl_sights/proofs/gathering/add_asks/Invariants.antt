use Rattle.std.proofs.Common.{◌≡◌, ◌++◌, map, take, nat_eq, Some}
use Rattle.std.specs.Map.{lookup}
use Rattle.ynl_inventory.specs.Rows.{AppRow}
use Rattle.ynl_sights.specs.Copying.{asks_shown}
use Rattle.ynl_sights.specs.Rows.{shown}
use Rattle.ynl_sights.proofs.gathering.add_asks.Given as goal

abbrev pub invariant-loop-ask : goal.invariant-loop-ask
invariant-loop-ask l =
    (row : AppRow) → lookup (nat_eq l.app) l.cluster.rows.apps ≡ Some row
    → map shown l.out.items ≡ map shown l.initial.out.items ++ asks_shown l.cluster.rows l.p l.fn.place row (take l.ask-index l.asks)
