-- What is known of the rows of a cluster.
use Rattle.std.proofs.Common.{◌≡◌, length, subst}
use Rattle.ynl_inventory.specs.Sound.{IsFor, IsSound}
use Rattle.ynl_cluster.specs.ledger.Ledger.{IsBounded}
use Rattle.ynl_cluster.specs.Cluster.{ClusterView}
use Rattle.ynl_cluster.specs.Whole.{AreNumbered, AskSizes}
use Rattle.ynl_cluster.proofs.cluster.Cluster.inventory.Goals as goal

pub returns-clause-configured : goal.returns-clause-configured
returns-clause-configured c = subst (λ (w : ClusterView). IsFor w.config w.rows) c.self.view_is c.self.invariant.parts.configured

pub returns-clause-bounded : goal.returns-clause-bounded
returns-clause-bounded c = subst (λ (w : ClusterView). IsBounded w.rows) c.self.view_is c.self.invariant.parts.bounded

pub returns-clause-sizes : goal.returns-clause-sizes
returns-clause-sizes c = subst (λ (w : ClusterView). AskSizes w.rows) c.self.view_is c.self.invariant.parts.sizes

pub returns-clause-sound : goal.returns-clause-sound
returns-clause-sound c = subst (λ (w : ClusterView). IsSound w.rows) c.self.view_is c.self.invariant.parts.sound

pub returns-clause-numbers : goal.returns-clause-numbers
returns-clause-numbers c = subst (λ (w : ClusterView). AreNumbered w.rows) c.self.view_is c.self.invariant.parts.numbers

pub returns-clause-rooms : goal.returns-clause-rooms
returns-clause-rooms c = subst (λ (w : ClusterView). length w.rooms ≡ length w.rows.partitions) c.self.view_is c.partition_count.ensures.rooms
