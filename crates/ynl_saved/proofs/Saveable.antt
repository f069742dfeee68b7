-- What is known of a state in range whose lines tell it again: it works, and so does each state that events in range reach from it.
use Rattle.std.specs.List.{AllByRecursion}
use Rattle.ynl_resource.specs.Amounts.{IsSize}
use Rattle.ynl_model.specs.Cluster.{State}
use Rattle.ynl_model.specs.Queues.{Config}
use Rattle.ynl_model.specs.declared.nodes.Node.{Node}
use Rattle.ynl_laws.specs.Working.{IsWorking}
use Rattle.ynl_saved.proofs.Tellable.{IsTellable}

-- its lines tell it, and its sizes are in range
pub record IsSaveable (c : Config) (s : State) : Type 0 where
  pub tellable : IsTellable c s
  pub sizes : AllByRecursion (λ (node : Node). IsSize node.size) s.nodes

-- such a state works
pub saveable-works : (c : Config) (s : State) → IsSaveable c s → IsWorking c s
saveable-works c s h =
    let tellable = h.tellable in
    let base = tellable.base in
    let stamped = tellable.stamped in
    record { kept = base.kept; apart = base.apart; housed = tellable.housed; ordered = base.ordered; sizes = h.sizes; counts = stamped.counts }
