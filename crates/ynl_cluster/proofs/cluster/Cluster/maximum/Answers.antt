use Rattle.ynl_cluster.proofs.Reading.{amount-small, most-mean, layout-number, layout-tree, total-there, way-there}
use Rattle.ynl_cluster.proofs.cluster.Cluster.maximum.Goals as goal

pub amount-total-requires : goal.amount-total-requires
amount-total-requires c = total-there c.self.inside c.self.invariant c.args.self.now c.self.view_is c.args.p c.requires.partition

pub way_to-way-requires-clause-tree : goal.way_to-way-requires-clause-tree
way_to-way-requires-clause-tree c = layout-tree c.self.inside c.self.invariant c.args.self.now c.self.view_is c.layout.result.now c.layout.ensures

pub way_to-way-requires-clause-there : goal.way_to-way-requires-clause-there
way_to-way-requires-clause-there c = layout-number c.self.inside c.self.invariant c.args.self.now c.self.view_is c.layout.result.now c.layout.ensures c.args.queue c.requires.queue

pub most-requires-clause-way : goal.most-requires-clause-way
most-requires-clause-way c =
    way-there c.self.inside c.self.invariant c.args.self.now c.self.view_is c.layout.result.now c.layout.ensures c.args.queue c.way_to-way.result.now c.way_to-way.ensures.line c.way_to-way.ensures.way
    c.args.p c.requires.partition c.amount-total.result c.amount-total.ensures

pub most-requires-clause-small : goal.most-requires-clause-small
most-requires-clause-small c = amount-small c.self.inside c.self.invariant c.args.self.now c.self.view_is c.args.p c.requires.partition c.amount-total.result c.amount-total.ensures

pub returns : goal.returns
returns c =
    most-mean c.self.inside c.self.invariant c.args.self.now c.self.view_is c.layout.result.now c.layout.ensures c.args.queue c.way_to-way.result.now c.way_to-way.ensures.line c.way_to-way.ensures.way
    c.args.p c.requires.partition c.amount-total.result c.amount-total.ensures c.most.result c.most.ensures.value
