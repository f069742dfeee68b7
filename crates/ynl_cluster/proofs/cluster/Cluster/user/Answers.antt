-- What is known where a user gets a number.
use Rattle.std.proofs.Common.{ap}
use Rattle.ynl_inventory.specs.Parts.{Held}
use Rattle.ynl_cluster.proofs.Naming.{parts-after, state-after}
use Rattle.ynl_cluster.proofs.cluster.Cluster.user.Goals as goal

pub invariant_of-self-2 : goal.invariant_of-self-2
invariant_of-self-2 c = record {
  settings = c.self.invariant.settings;
  parts =
      parts-after c.self.inside c.self.invariant c.args.name.now c.user.new.self.rows (ap (λ (h : Held). h.rows) c.in_ok-user.ensures.ok) c.partition_count.ensures.sound;
}

pub returns-clause-state : goal.returns-clause-state
returns-clause-state c =
    state-after c.self.inside c.self.invariant c.args.name.now c.user.new.self.rows (ap (λ (h : Held). h.rows) c.in_ok-user.ensures.ok) c.args.self.now c.self.view_is
