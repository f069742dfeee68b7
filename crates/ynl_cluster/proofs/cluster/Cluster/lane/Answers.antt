use Rattle.ynl_cluster.proofs.Shares.{lane-there}
use Rattle.ynl_cluster.proofs.cluster.Cluster.lane.Goals as goal

pub lane-requires : goal.lane-requires
lane-requires c = lane-there c.self.inside c.self.invariant c.args.self.now c.self.view_is c.args.p c.args.leaf c.requires
