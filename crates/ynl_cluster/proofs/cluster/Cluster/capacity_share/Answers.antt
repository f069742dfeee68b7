use Rattle.ynl_cluster.proofs.Reading.{cell-there}
use Rattle.ynl_cluster.proofs.Shares.{capacity-means}
use Rattle.ynl_cluster.proofs.cluster.Cluster.capacity_share.Goals as goal

pub capacity-requires : goal.capacity-requires
capacity-requires c = cell-there c.self.inside c.self.invariant c.args.self.now c.self.view_is c.args.p c.args.queue c.requires.there

pub returns : goal.returns
returns c = capacity-means c.self.inside c.self.invariant c.args.self.now c.self.view_is c.args.p c.args.queue c.requires.below_root c.requires.there c.capacity.result c.capacity.ensures
