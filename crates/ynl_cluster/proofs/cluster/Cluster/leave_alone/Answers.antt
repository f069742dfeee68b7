-- What is known where a node without containers leaves.
use Rattle.std.proofs.Common.{ap, ◌∙◌}
use Rattle.ynl_inventory.specs.Changes.{with_node_gone}
use Rattle.ynl_inventory.specs.Parts.{Held, node_row}
use Rattle.ynl_cluster.proofs.ledger.Calls.{has-total}
use Rattle.ynl_cluster.specs.Cluster.{ClusterView}
use Rattle.ynl_cluster.specs.Whole.{view_of}
use Rattle.ynl_cluster.proofs.Leaving.{empty-before, node-there, parts-after, place-there}
use Rattle.ynl_cluster.proofs.cluster.Cluster.leave_alone.Goals as goal

pub node-row-requires : goal.node-row-requires
node-row-requires c = node-there c.self.inside c.args.self.now c.self.view_is c.args.node c.requires.live

pub take-requires : goal.take-requires
take-requires c =
    has-total c.self.inside.inventory.rows c.self.inside.totals c.self.invariant.parts.totals_are c.node-row.result.now.partition
    (place-there c.self.inside c.self.invariant c.args.self.now c.self.view_is c.args.node c.requires.empty (node_row c.node-row.result.now) c.node-row.ensures)

pub leave-requires-clause-live : goal.leave-requires-clause-live
leave-requires-clause-live c = node-there c.self.inside c.args.self.now c.self.view_is c.args.node c.requires.live

pub leave-requires-clause-empty : goal.leave-requires-clause-empty
leave-requires-clause-empty c = empty-before c.self.inside c.self.invariant c.args.self.now c.self.view_is c.args.node c.requires.empty

pub invariant_of-self : goal.invariant_of-self
invariant_of-self c = record {
  settings = c.self.invariant.settings;
  parts =
      parts-after c.self.inside c.self.invariant c.args.self.now c.self.view_is c.args.node c.requires.empty (node_row c.node-row.result.now) c.node-row.ensures c.leave.new.self.rows (ap (λ (h : Held). h.rows) c.leave.ensures)
      c.take.new.self c.take.ensures;
}

pub returns : goal.returns
returns c =
    ap (λ (h : Held). record (view_of c.self.inside) { rows = h.rows; rooms = h.rooms; ready = h.ready }) c.leave.ensures
    ∙ ap (λ (w : ClusterView). record w { rows = with_node_gone c.args.node w.rows }) c.self.view_is
