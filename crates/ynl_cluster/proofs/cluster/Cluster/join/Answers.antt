-- What is known where a node joins.
use Rattle.std.proofs.Common.{ap, subst, ◌∙◌}
use Rattle.ynl_slots.specs.Slots.{IsUnused}
use Rattle.ynl_inventory.specs.Changes.{with_joined}
use Rattle.ynl_inventory.specs.Parts.{Held}
use Rattle.ynl_cluster.proofs.ledger.Calls.{has-total}
use Rattle.ynl_cluster.specs.Cluster.{ClusterView}
use Rattle.ynl_cluster.specs.Whole.{view_of}
use Rattle.ynl_cluster.proofs.Joining.{has-before, parts-after, small-before, state-after, unnamed-before}
use Rattle.ynl_cluster.proofs.cluster.Cluster.join.Goals as goal

pub join-requires-clause-partition : goal.join-requires-clause-partition
join-requires-clause-partition c = has-before c.self.inside c.self.invariant c.args.self.now c.self.view_is c.args.p c.requires.partition

pub join-requires-clause-new : goal.join-requires-clause-new
join-requires-clause-new c = unnamed-before c.self.inside c.self.invariant c.args.self.now c.self.view_is c.args.p c.requires.partition c.args.name.now c.requires.new

pub add-requires-clause-partition : goal.add-requires-clause-partition
add-requires-clause-partition c =
    has-total c.self.inside.inventory.rows c.self.inside.totals c.self.invariant.parts.totals_are c.args.p (has-before c.self.inside c.self.invariant c.args.self.now c.self.view_is c.args.p c.requires.partition)

pub add-requires-clause-small : goal.add-requires-clause-small
add-requires-clause-small c = small-before c.self.inside c.self.invariant c.args.self.now c.self.view_is c.args.p c.requires.partition

pub invariant_of-self-2 : goal.invariant_of-self-2
invariant_of-self-2 c = record {
  settings = c.self.invariant.settings;
  parts =
      parts-after c.self.inside c.self.invariant c.args.self.now c.self.view_is c.args.p c.requires.partition c.args.name.now c.requires.new c.args.size c.amount-amount.ensures.range c.in_ok-number.number c.in_ok-number.ensures.unused
      c.join.new.self.rows (ap (λ (h : Held). h.rows) c.in_ok-number.ensures.ok) c.requires.few c.add.new.self c.add.ensures;
}

pub returns-clause-ok : goal.returns-clause-ok
returns-clause-ok c =
    ap (λ (h : Held). record (view_of c.self.inside) { rows = h.rows; rooms = h.rooms; ready = h.ready }) c.in_ok-number.ensures.ok
    ∙ ap (λ (w : ClusterView). record w { rows = with_joined c.in_ok-number.number c.args.name.now c.args.p c.args.size w.rows }) c.self.view_is

pub returns-clause-unused : goal.returns-clause-unused
returns-clause-unused c = subst (λ (w : ClusterView). IsUnused c.in_ok-number.number w.rows.nodes) c.self.view_is c.in_ok-number.ensures.unused

pub returns-clause-state : goal.returns-clause-state
returns-clause-state c =
    state-after c.self.inside c.self.invariant c.args.self.now c.self.view_is c.args.p c.requires.partition c.args.name.now c.requires.new c.args.size c.amount-amount.ensures.range c.in_ok-number.number c.in_ok-number.ensures.unused
    c.join.new.self.rows (ap (λ (h : Held). h.rows) c.in_ok-number.ensures.ok)
