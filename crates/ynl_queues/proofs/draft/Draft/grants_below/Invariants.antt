use Rattle.std.proofs.Common.{◌≡◌, ◌≤◌, map, take, length}
use Rattle.std.specs.List.{filter}
use Rattle.ynl_resource.specs.Names.{same_path}
use Rattle.ynl_resource.specs.declared.labels.Label.{Label}
use Rattle.ynl_model.specs.Queues.{capacity_on}
use Rattle.ynl_model.specs.Accepted.{parent_of}
use Rattle.ynl_queues.specs.Grants.{capacity_at}
use Rattle.ynl_queues.proofs.draft.Draft.grants_below.Given as goal

abbrev pub invariant-loop-row : goal.invariant-loop-row
invariant-loop-row l = record {
  few : length l.below.items ≤ l.row-index;
  capacities : (label : Label) → map (λ s. capacity_at l.self.labels s label) l.below.items ≡ map (λ row. capacity_on l.self row.path label) (filter (λ row. same_path (parent_of row.path) l.queue) (take l.row-index l.row-items));
}
