use Rattle.ynl_cluster.proofs.Reading.{amount-small, guarantee-means, layout-number, layout-tree, total-there, way-there}
use Rattle.ynl_cluster.proofs.cluster.Cluster.guaranteed.Goals as goal

pub amount-total-requires : goal.amount-total-requires
amount-total-requires c = total-there c.self.inside c.self.invariant c.args.self.now c.self.view_is c.args.p c.requires.partition

pub way_to-way-requires-clause-tree : goal.way_to-way-requires-clause-tree
way_to-way-requires-clause-tree c = layout-tree c.self.inside c.self.invariant c.args.self.now c.self.view_is c.layout.result.now c.layout.ensures

pub way_to-way-requires-clause-there : goal.way_to-way-requires-clause-there
way_to-way-requires-clause-there c = layout-number c.self.inside c.self.invariant c.args.self.now c.self.view_is c.layout.result.now c.layout.ensures c.args.queue c.requires.queue

pub guaranteed-requires-clause-way : goal.guaranteed-requires-clause-way
guaranteed-requires-clause-way c =
    way-there c.self.inside c.self.invariant c.args.self.now c.self.view_is c.layout.result.now c.layout.ensures c.args.queue c.way_to-way.result.now c.way_to-way.ensures.line c.way_to-way.ensures.way
    c.args.p c.requires.partition c.amount-total.result c.amount-total.ensures

pub guaranteed-requires-clause-small : goal.guaranteed-requires-clause-small
guaranteed-requires-clause-small c = amount-small c.self.inside c.self.invariant c.args.self.now c.self.view_is c.args.p c.requires.partition c.amount-total.result c.amount-total.ensures

pub returns : goal.returns
returns c =
    guarantee-means c.self.inside c.self.invariant c.args.self.now c.self.view_is c.layout.result.now c.layout.ensures c.args.queue c.way_to-way.result.now c.way_to-way.ensures.line c.way_to-way.ensures.way
    c.args.p c.requires.partition c.amount-total.result c.amount-total.ensures c.guaranteed.result c.guaranteed.ensures.value
