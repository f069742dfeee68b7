use Rattle.ynl_cluster.proofs.Reading.{accepts-means}
use Rattle.ynl_cluster.proofs.cluster.Cluster.accepts.Goals as goal

pub returns : goal.returns
returns c =
    accepts-means c.self.inside c.self.invariant c.args.self.now c.self.view_is c.layout.result.now c.layout.ensures c.args.queue c.way_to.result.now c.way_to.ensures.line c.way_to.ensures.way c.any.result c.any.ensures
