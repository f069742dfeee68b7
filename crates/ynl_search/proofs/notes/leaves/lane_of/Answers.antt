use Rattle.ynl_search.proofs.notes.LaneOf.{lane-is}
use Rattle.ynl_search.proofs.notes.leaves.lane_of.Goals as goal

pub returns-clause-lane : goal.returns-clause-lane
returns-clause-lane c = lane-is c.args.cluster.now c.args.p c.args.leaf c.requires c.lane.result.now c.lane.ensures.lane c.lane.ensures.sound c.lane.ensures.sizes
