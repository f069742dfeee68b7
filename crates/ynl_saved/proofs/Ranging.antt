-- The lines of a state whose sizes are in range tell sizes in range, and so what they tell is known as well as the state. Those of one whose asks count no
-- more than an ask may tell no ask that does.
use Rattle.std.specs.List.{AllByRecursion}
use Rattle.ynl_model.specs.Cluster.{State, Partition as PartitionRow}
use Rattle.ynl_model.specs.Queues.{Config}
use Rattle.ynl_saved.specs.Saving.{state_lines}
use Rattle.ynl_laws.proofs.Lists.{Each-all}
use Rattle.ynl_saved.specs.Asks.{AllWithin}
use Rattle.ynl_saved.specs.Lines.{IsCountedLine}
use Rattle.ynl_saved.proofs.Walking.{each-line}

-- no ask that they tell counts more than an ask may, where none of the state does
pub lines-counted : (c : Config) (s : State) → AllWithin s.leaves → AllByRecursion IsCountedLine (state_lines c s)
lines-counted c s counts = each-line IsCountedLine c s (record {
  begin = tt;
  partitions = Each-all _ (λ row. tt) s.partitions;
  nodes = Each-all _ (λ node. tt) s.nodes;
  lives = λ app. tt;
  asks = counts;
  finished = λ queue name. tt;
  containers = Each-all _ (λ (row : PartitionRow). Each-all _ (λ k. tt) row.containers) s.partitions;
  stopped = λ queue. tt;
  maxima = λ queue label share. tt;
  end = λ lines. tt;
})
