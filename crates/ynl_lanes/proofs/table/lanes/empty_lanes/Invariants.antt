use Rattle.std.proofs.Common.{◌≡◌, replicate}
use Rattle.ynl_lanes.specs.table.Lanes.{no_seats}
use Rattle.ynl_lanes.proofs.table.lanes.empty_lanes.Given as goal

abbrev pub invariant-loop-queue : goal.invariant-loop-queue
invariant-loop-queue l = l.lanes.items ≡ replicate l._queue no_seats
