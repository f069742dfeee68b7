use Rattle.std.proofs.Common.{◌≡◌, map, take}
use Rattle.ynl_resource.specs.declared.labels.Label.{Label}
use Rattle.ynl_model.specs.Queues.{capacity_on}
use Rattle.ynl_queues.specs.Grants.{capacity_at}
use Rattle.ynl_queues.proofs.index.all_grants.Given as goal

abbrev pub invariant-loop-row : goal.invariant-loop-row
invariant-loop-row l = (label : Label) → map (λ s. capacity_at l.config.labels s label) l.grants.items ≡ map (λ row. capacity_on l.config row.path label) (take l.row-index l.row-items)
