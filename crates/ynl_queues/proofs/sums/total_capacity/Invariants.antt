use Rattle.std.proofs.Common.{◌≡◌, ◌≤◌, ◌*◌, map, take, sum}
use Rattle.ynl_queues.specs.Grants.{capacity_at}
use Rattle.ynl_queues.proofs.sums.total_capacity.Given as goal

abbrev pub invariant-loop-grant : goal.invariant-loop-grant
invariant-loop-grant l = record {
  so_far : l.total ≡ sum (map (λ s. capacity_at l.labels s l.label) (take l.grant-index l.grants));
  small : l.total ≤ 10000 * l.grant-index;
}
