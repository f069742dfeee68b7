use Rattle.std.proofs.Common.{◌≡◌}
use Rattle.ynl_lanes.proofs.lane.Packing.{IsPacking}
use Rattle.ynl_lanes.proofs.lane.pack.pack.Given as goal

abbrev pub invariant-loop-slot : goal.invariant-loop-slot
invariant-loop-slot g l =
    IsPacking l.level l.initial.line l.line l.initial.seats.entries l.seats.entries l.slot l.next × (l.seats.room ≡ l.initial.seats.room)
