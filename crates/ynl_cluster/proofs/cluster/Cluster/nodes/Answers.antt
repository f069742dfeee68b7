use Rattle.ynl_cluster.proofs.Reading.{nodes-mean, total-there}
use Rattle.ynl_cluster.proofs.cluster.Cluster.nodes.Goals as goal

pub nodes-requires : goal.nodes-requires
nodes-requires c = total-there c.self.inside c.self.invariant c.args.self.now c.self.view_is c.args.p c.requires

pub returns : goal.returns
returns c = nodes-mean c.self.inside c.self.invariant c.args.self.now c.self.view_is c.args.p c.requires c.nodes.result c.nodes.ensures
