use Rattle.std.proofs.Common.{◌≡◌, map, take}
use Rattle.ynl_queues.specs.Grants.{capacity_at}
use Rattle.ynl_queues.proofs.index.shares_on.Given as goal

abbrev pub invariant-loop-grant : goal.invariant-loop-grant
invariant-loop-grant l = l.shares.items ≡ map (λ s. capacity_at l.labels s l.label) (take l.grant-index l.grants)
