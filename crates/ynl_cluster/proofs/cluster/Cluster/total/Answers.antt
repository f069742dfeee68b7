use Rattle.ynl_cluster.proofs.Reading.{amount-total, total-means, total-there}
use Rattle.ynl_cluster.proofs.cluster.Cluster.total.Goals as goal

pub amount-requires : goal.amount-requires
amount-requires c = total-there c.self.inside c.self.invariant c.args.self.now c.self.view_is c.args.p c.requires

pub returns-clause-value : goal.returns-clause-value
returns-clause-value c = total-means c.self.inside c.self.invariant c.args.self.now c.self.view_is c.args.p c.requires c.amount.result c.amount.ensures

pub returns-clause-small : goal.returns-clause-small
returns-clause-small c = amount-total c.self.inside c.self.invariant c.args.self.now c.self.view_is c.args.p c.requires c.amount.result c.amount.ensures
