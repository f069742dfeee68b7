use Rattle.ynl_replies.proofs.admission.NodesNamed.{node-found, none-found}
use Rattle.ynl_replies.proofs.admission.nodes.node_named.Goals as goal

pub returns-clause-some : goal.returns-clause-some
returns-clause-some c = node-found c.args.cluster.now c.inventory.ensures.sound c.args.name.now c.find_node.result (rw c.inventory.ensures.value at c.find_node.ensures)

pub returns-clause-none : goal.returns-clause-none
returns-clause-none c = none-found c.args.cluster.now c.inventory.ensures.sound c.args.name.now c.find_node.result (rw c.inventory.ensures.value at c.find_node.ensures)
