use Rattle.std.proofs.Common.{◌≡◌, replicate, map}
use Rattle.ynl_lanes.specs.table.Lanes.{no_seats}
use Rattle.ynl_lanes.proofs.table.lanes.Lanes.new.Given as goal

abbrev pub invariant-loop-partition : goal.invariant-loop-partition
invariant-loop-partition l = map (λ row. row.items) l.lanes.items ≡ replicate l._partition (replicate l.queues no_seats)
