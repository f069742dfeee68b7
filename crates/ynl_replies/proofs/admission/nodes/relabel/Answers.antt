use Rattle.std.proofs.Common.{ap, sym, ◌∙◌}
use Rattle.ynl_model.specs.Nodes.{is_full}
use Rattle.ynl_inventory.specs.Parts.{node_row}
use Rattle.ynl_inventory.specs.Rows.{NodeRow}
use Rattle.ynl_cluster.specs.Cluster.{state_in}
use Rattle.ynl_replies.proofs.admission.NodesNamed.{row-is}
use Rattle.ynl_replies.proofs.admission.nodes.relabel.Goals as goal

pub returns-clause-moves : goal.returns-clause-moves
returns-clause-moves c = record {
  node = c.in-Some-node_named.ensures.some;
  partition = c.in-Some.ensures.some;
  other = λ same.
      c.if-node-partition.false
      (sym (ap (λ (row : NodeRow). row.partition)
      (row-is c.args.cluster.now c.inventory.ensures.sound c.args.name.now c.in-Some-node_named.node c.in-Some-node_named.ensures.some (node_row c.node.result.now) (rw c.inventory.ensures.value at c.node.ensures)))
      ∙ same);
  few = ap (is_full (state_in c.args.cluster.now).nodes) (sym c.in-Some.ensures.some.own) ∙ sym c.is_full.ensures ∙ c.if-is_full.false;
}
