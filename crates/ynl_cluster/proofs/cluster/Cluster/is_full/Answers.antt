use Rattle.ynl_cluster.proofs.Reading.{full-means, total-there}
use Rattle.ynl_cluster.proofs.cluster.Cluster.is_full.Goals as goal

pub nodes-requires : goal.nodes-requires
nodes-requires c = total-there c.self.inside c.self.invariant c.args.self.now c.self.view_is c.args.p c.requires

pub returns : goal.returns
returns c = full-means c.self.inside c.self.invariant c.args.self.now c.self.view_is c.args.p c.requires c.nodes.result c.nodes.ensures
