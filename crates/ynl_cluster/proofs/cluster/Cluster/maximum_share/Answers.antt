use Rattle.ynl_cluster.proofs.Reading.{cell-there}
use Rattle.ynl_cluster.proofs.Shares.{maximum-is}
use Rattle.ynl_cluster.proofs.cluster.Cluster.maximum_share.Goals as goal

pub maximum-requires : goal.maximum-requires
maximum-requires c = cell-there c.self.inside c.self.invariant c.args.self.now c.self.view_is c.args.p c.args.queue c.requires.there

pub returns : goal.returns
returns c = maximum-is c.self.inside c.self.invariant c.args.self.now c.self.view_is c.args.p c.args.queue c.requires.below_root c.requires.there c.maximum.result c.maximum.ensures
