use Rattle.std.proofs.Common.{◌≡◌, length}
use Rattle.std.specs.List.{filter}
use Rattle.ynl_resource.specs.Names.{same_path}
use Rattle.ynl_model.specs.Accepted.{parent_of}
use Rattle.ynl_queues.proofs.children.Children.next.Given as goal

abbrev pub invariant-loop-row : goal.invariant-loop-row
invariant-loop-row l =
    filter (λ row. same_path (parent_of row.path) l.self-inside.queue.now) l.self-inside.rest.now
    ≡ filter (λ row. same_path (parent_of row.path) l.initial.self-inside.queue.now) l.initial.self-inside.rest.now

abbrev pub decreases-loop-row : goal.decreases-loop-row
decreases-loop-row l = length l.self-inside.rest.now
