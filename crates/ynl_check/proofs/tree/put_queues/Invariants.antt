use Rattle.std.proofs.Common.{◌≡◌, ◌++◌, take, map}
use Rattle.std.specs.List.{flat_map}
use Rattle.ynl_check.specs.Tree as spec
use Rattle.ynl_check.proofs.tree.put_queues.Given as goal

abbrev pub invariant-loop-row : goal.invariant-loop-row
invariant-loop-row l = record {
  lines : l.longer.items ≡ l.initial.longer.items ++ flat_map (λ row. spec.queue_lines l.style l.config row.now) (take l.row-index l.rows);
  above : l.above.portions.items ≡ map (spec.portion l.config l.above.queue.now) l.labels.items;
}
