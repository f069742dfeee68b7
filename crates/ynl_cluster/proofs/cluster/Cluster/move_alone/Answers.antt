-- What is known where a node without containers moves.
use Rattle.std.proofs.Common.{◌≡◌, ap, subst, false, ◌∙◌}
use Rattle.ynl_slots.specs.Slots.{without, IsUnused}
use Rattle.ynl_inventory.specs.Changes.{with_joined, with_node_gone}
use Rattle.ynl_inventory.specs.Parts.{Held, node_row}
use Rattle.ynl_cluster.proofs.ledger.Calls.{has-total}
use Rattle.ynl_cluster.specs.Cluster.{ClusterView}
use Rattle.ynl_cluster.proofs.Leaving.{empty-before, node-there, place-there}
use Rattle.ynl_cluster.proofs.Moving.{at-row, has-before, moved-view, parts-after, total-small, total-there}
use Rattle.ynl_cluster.proofs.cluster.Cluster.move_alone.Goals as goal

pub node-row-requires : goal.node-row-requires
node-row-requires c = node-there c.self.inside c.args.self.now c.self.view_is c.args.node c.requires.there.0

pub take-requires : goal.take-requires
take-requires c =
    has-total c.self.inside.inventory.rows c.self.inside.totals c.self.invariant.parts.totals_are c.node-row.result.now.partition
    (place-there c.self.inside c.self.invariant c.args.self.now c.self.view_is c.args.node c.requires.empty (node_row c.node-row.result.now) c.node-row.ensures)

pub rejoin-number-requires-clause-live : goal.rejoin-number-requires-clause-live
rejoin-number-requires-clause-live c = node-there c.self.inside c.args.self.now c.self.view_is c.args.node c.requires.there.0

pub rejoin-number-requires-clause-empty : goal.rejoin-number-requires-clause-empty
rejoin-number-requires-clause-empty c = empty-before c.self.inside c.self.invariant c.args.self.now c.self.view_is c.args.node c.requires.empty

pub rejoin-number-requires-clause-partition : goal.rejoin-number-requires-clause-partition
rejoin-number-requires-clause-partition c =
    has-before c.self.inside c.self.invariant c.args.self.now c.self.view_is c.args.node c.requires.empty c.args.p c.requires.there.1 c.requires.few c.requires.other (node_row c.node-row.result.now) c.node-row.ensures c.amount-amount.ensures.range c.take.new.self c.take.ensures

pub rejoin-number-requires-clause-ready : goal.rejoin-number-requires-clause-ready
rejoin-number-requires-clause-ready c = ap (λ (w : ClusterView). w.ready) c.self.view_is ∙ c.requires.ready

pub add-requires-clause-partition : goal.add-requires-clause-partition
add-requires-clause-partition c =
    total-there c.self.inside c.self.invariant c.args.self.now c.self.view_is c.args.node c.requires.empty c.args.p c.requires.there.1 c.requires.few c.requires.other (node_row c.node-row.result.now) c.node-row.ensures c.amount-amount.ensures.range c.take.new.self c.take.ensures

pub add-requires-clause-small : goal.add-requires-clause-small
add-requires-clause-small c =
    total-small c.self.inside c.self.invariant c.args.self.now c.self.view_is c.args.node c.requires.empty c.args.p c.requires.there.1 c.requires.few c.requires.other (node_row c.node-row.result.now) c.node-row.ensures c.amount-amount.ensures.range c.take.new.self c.take.ensures

pub invariant_of-self : goal.invariant_of-self
invariant_of-self c = record {
  settings = c.self.invariant.settings;
  parts =
      parts-after c.self.inside c.self.invariant c.args.self.now c.self.view_is c.args.node c.requires.empty c.args.p c.requires.there.1 c.requires.few c.requires.other (node_row c.node-row.result.now) c.node-row.ensures c.amount-amount.ensures.range c.take.new.self c.take.ensures
      c.rejoin-number.result (subst (λ (w : ClusterView). IsUnused c.rejoin-number.result (without c.args.node w.rows.nodes)) c.self.view_is c.rejoin-number.ensures.unused) c.rejoin-number.new.self.rows
      (ap (λ (h : Held). h.rows)
      (at-row
      (λ row. c.rejoin-number.new.self ≡ record c.self.inside.inventory { rows = with_joined c.rejoin-number.result row.name c.args.p row.size (with_node_gone c.args.node c.self.inside.inventory.rows); ready = false })
      c.args.node c.self.inside.inventory.rows.nodes (node_row c.node-row.result.now) c.node-row.ensures c.rejoin-number.ensures.rows))
      c.add.new.self c.add.ensures;
}

pub returns-clause-rows : goal.returns-clause-rows
returns-clause-rows c = moved-view c.self.inside c.args.self.now c.self.view_is c.args.node c.args.p c.rejoin-number.result c.rejoin-number.new.self c.rejoin-number.ensures.rows

pub returns-clause-unused : goal.returns-clause-unused
returns-clause-unused c = subst (λ (w : ClusterView). IsUnused c.rejoin-number.result (without c.args.node w.rows.nodes)) c.self.view_is c.rejoin-number.ensures.unused
