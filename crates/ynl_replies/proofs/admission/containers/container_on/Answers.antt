-- The container of an id on a node is that of the clock, where the label is the partition's and the node is the container's.
use Rattle.std.proofs.Common.{sym, ◌∙◌}
use Rattle.ynl_inventory.specs.Parts.{node_row}
use Rattle.ynl_replies.proofs.admission.ContainersNamed.{exit-apart, exit-can, exit-none, exit-other}
use Rattle.ynl_replies.proofs.admission.containers.container_on.Goals as goal

pub returns-then-not-is_labelled-clause-none : goal.returns-then-not-is_labelled-clause-none
returns-then-not-is_labelled-clause-none c = λ name named.
    exit-apart c.args.cluster.now c.inventory.ensures.sound c.args.node (node_row c.node.result.now) (rw c.inventory.ensures.value at c.node.ensures) c.args.id.now name named
    (sym (rw c.inventory-2.ensures.value at c.is_labelled.ensures) ∙ c.if-not-is_labelled.true)

pub returns-in_default-clause-none : goal.returns-in_default-clause-none
returns-in_default-clause-none c = λ name named.
    exit-none c.args.cluster.now c.inventory.ensures.sound c.args.node (node_row c.node.result.now) (rw c.inventory.ensures.value at c.node.ensures) c.args.id.now name named
    (sym (rw c.inventory-2.ensures.value at c.is_labelled.ensures) ∙ c.if-not-is_labelled.false) c.in_default.ensures.value

pub returns-then-found-node-clause-none : goal.returns-then-found-node-clause-none
returns-then-found-node-clause-none c = λ name named.
    exit-other c.args.cluster.now c.inventory.ensures.sound c.args.node (node_row c.node.result.now) (rw c.inventory.ensures.value at c.node.ensures) c.args.id.now name named
    (sym (rw c.inventory-2.ensures.value at c.is_labelled.ensures) ∙ c.if-not-is_labelled.false) c.in-Some.found.container c.in-Some.ensures.value c.if-found-node.true

pub returns-clause-some : goal.returns-clause-some
returns-clause-some c = λ name named.
    exit-can c.args.cluster.now c.inventory.ensures.sound c.args.node (node_row c.node.result.now) (rw c.inventory.ensures.value at c.node.ensures) c.args.id.now name named
    (sym (rw c.inventory-2.ensures.value at c.is_labelled.ensures) ∙ c.if-not-is_labelled.false) c.in-Some.found.container c.in-Some.ensures.value c.in-Some.found.number c.in-Some.ensures.held
    c.if-found-node.false
