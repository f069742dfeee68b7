use Rattle.std.proofs.Common.{◌≡◌, map, take}
use Rattle.ynl_model.specs.Service.{last_name}
use Rattle.ynl_model.specs.Queues.{QueueRow}
use Rattle.ynl_inventory.proofs.layout.building.last_names.Given as goal

abbrev pub invariant-loop-row : goal.invariant-loop-row
invariant-loop-row l = l.names.items ≡ map last_name (map (λ (row : QueueRow). row.path) (take l.row-index l.rows))
