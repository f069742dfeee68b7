use Rattle.ynl_lanes.proofs.lane.Packing.{none_moved, moved_filled}
use Rattle.ynl_lanes.proofs.lane.pack.make_room.Goals as goal

pub returns-then-not-is_sparse-clause-moved : goal.returns-then-not-is_sparse-clause-moved
returns-then-not-is_sparse-clause-moved g c = none_moved c.args.level c.args.line.now c.args.seats.now.entries

pub returns-clause-moved : goal.returns-clause-moved
returns-clause-moved g c = moved_filled c.args.level _ _ _ _ _ _ c.pack.ensures.line c.pack.ensures.seats c.pack.ensures.moved c.reserve.ensures.masters c.reserve.ensures.asks
