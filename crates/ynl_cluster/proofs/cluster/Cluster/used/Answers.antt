use Rattle.ynl_cluster.proofs.Reading.{use-means, use-small, use-there, uses-there}
use Rattle.ynl_cluster.proofs.cluster.Cluster.used.Goals as goal

pub of-requires-clause-partition : goal.of-requires-clause-partition
of-requires-clause-partition c = uses-there c.self.inside c.self.invariant c.args.self.now c.self.view_is c.args.p c.requires.partition

pub of-requires-clause-queue : goal.of-requires-clause-queue
of-requires-clause-queue c = use-there c.self.inside c.self.invariant c.args.self.now c.self.view_is c.args.p c.args.queue c.requires

pub returns-clause-value : goal.returns-clause-value
returns-clause-value c = use-means c.self.inside c.self.invariant c.args.self.now c.self.view_is c.args.p c.args.queue c.requires c.of.result.now c.of.ensures

pub returns-clause-small : goal.returns-clause-small
returns-clause-small c = use-small c.self.inside c.self.invariant c.args.self.now c.self.view_is c.args.p c.args.queue c.of.result.now c.of.ensures
