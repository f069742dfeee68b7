-- The clock of the node's partition tells whether anything may be placed.
use Rattle.std.proofs.Common.{ap, is_some, true, false, ◌∙◌}
use Rattle.ynl_cluster.specs.Cluster.{state_in}
use Rattle.ynl_inventory.specs.Parts.{node_row}
use Rattle.ynl_replies.proofs.admission.FirstReasons.{first-heartbeat, first-propose}
use Rattle.ynl_replies.proofs.admission.NodesNamed.{is-spent, may-place}
use Rattle.ynl_replies.proofs.admission.nodes.placing.Goals as goal

pub returns-then-is_spent-clause-refused : goal.returns-then-is_spent-clause-refused
returns-then-is_spent-clause-refused c =
    first-heartbeat c.args.cluster.now.config (state_in c.args.cluster.now) c.args.name.now true true (ap is_some c.in-Some.ensures.some.named)
    (is-spent c.args.cluster.now c.inventory-inventory.ensures.sound c.args.name.now c.in-Some.node c.in-Some.ensures.some (node_row c.node.result.now) (rw c.inventory-inventory.ensures.value at c.node.ensures)
    c.inventory-inventory.ensures.configured c.is_spent.result (rw c.inventory-inventory.ensures.value at c.is_spent.ensures) ∙ c.if-is_spent.true)

pub returns-then-is_spent-clause-refused_too : goal.returns-then-is_spent-clause-refused_too
returns-then-is_spent-clause-refused_too c =
    first-propose c.args.cluster.now.config (state_in c.args.cluster.now) c.args.name.now true true (ap is_some c.in-Some.ensures.some.named)
    (is-spent c.args.cluster.now c.inventory-inventory.ensures.sound c.args.name.now c.in-Some.node c.in-Some.ensures.some (node_row c.node.result.now) (rw c.inventory-inventory.ensures.value at c.node.ensures)
    c.inventory-inventory.ensures.configured c.is_spent.result (rw c.inventory-inventory.ensures.value at c.is_spent.ensures) ∙ c.if-is_spent.true)

pub returns-clause-free : goal.returns-clause-free
returns-clause-free c =
    first-heartbeat c.args.cluster.now.config (state_in c.args.cluster.now) c.args.name.now true false (ap is_some c.in-Some.ensures.some.named)
    (is-spent c.args.cluster.now c.inventory-inventory.ensures.sound c.args.name.now c.in-Some.node c.in-Some.ensures.some (node_row c.node.result.now) (rw c.inventory-inventory.ensures.value at c.node.ensures)
    c.inventory-inventory.ensures.configured c.is_spent.result (rw c.inventory-inventory.ensures.value at c.is_spent.ensures) ∙ c.if-is_spent.false)

pub returns-clause-free_too : goal.returns-clause-free_too
returns-clause-free_too c =
    first-propose c.args.cluster.now.config (state_in c.args.cluster.now) c.args.name.now true false (ap is_some c.in-Some.ensures.some.named)
    (is-spent c.args.cluster.now c.inventory-inventory.ensures.sound c.args.name.now c.in-Some.node c.in-Some.ensures.some (node_row c.node.result.now) (rw c.inventory-inventory.ensures.value at c.node.ensures)
    c.inventory-inventory.ensures.configured c.is_spent.result (rw c.inventory-inventory.ensures.value at c.is_spent.ensures) ∙ c.if-is_spent.false)

pub returns-clause-node : goal.returns-clause-node
returns-clause-node c =
    may-place c.args.cluster.now c.inventory-inventory.ensures.sound c.args.name.now c.in-Some.node c.in-Some.ensures.some (node_row c.node.result.now) (rw c.inventory-inventory.ensures.value at c.node.ensures)
    c.inventory-inventory.ensures.configured c.is_spent.result (rw c.inventory-inventory.ensures.value at c.is_spent.ensures) c.if-is_spent.false
