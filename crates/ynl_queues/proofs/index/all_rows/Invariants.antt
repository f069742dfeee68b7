use Rattle.std.proofs.Common.{◌≡◌, map, take}
use Rattle.std.specs.List.{All}
use Rattle.ynl_queues.specs.Index.{IsKeptOf}
use Rattle.ynl_queues.proofs.index.all_rows.Given as goal

abbrev pub invariant-loop-row : goal.invariant-loop-row
invariant-loop-row l = record {
  kept : All (IsKeptOf l.rows) l.kept.items;
  paths : map (λ row. row.path) l.kept.items ≡ map (λ row. row.path) (take l.row-index l.rows);
}
