use Rattle.std.proofs.Common.{◌≡◌, map, take}
use Rattle.ynl_cluster.specs.requests.Laws.{in_leaf}
use Rattle.ynl_sights.specs.Copying.{asked_shown, master_shown, one_by_one}
use Rattle.ynl_sights.specs.Rows.{shown}
use Rattle.ynl_sights.proofs.gathering.list_of.Given as goal

abbrev pub invariant-loop-i : goal.invariant-loop-i
invariant-loop-i l = record {
  masters : map shown l.masters.items ≡ one_by_one (master_shown l.cluster.rows l.p) 0 (take l.i (in_leaf l.leaf l.cluster.rows.apps));
  asks : map shown l.asks.items ≡ one_by_one (asked_shown l.cluster.rows l.p) 0 (take l.i (in_leaf l.leaf l.cluster.rows.apps));
}
