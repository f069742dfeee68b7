-- What is tested of the line of a node.
use Rattle.std.proofs.Common.{◌∙◌, ◌<◌, true, false, ap, sym, refl, arith}
use Rattle.ynl_model.specs.Accepted.{is_from_to}
use Rattle.ynl_model.specs.Cluster.{clock}
use Rattle.ynl_model.specs.Nodes.{is_full}
use Rattle.ynl_cluster.specs.Cluster.{state_in}
use Rattle.ynl_replies.proofs.admission.NodesNamed.{node-known}
use Rattle.ynl_snapshots.proofs.restoring.Clocks.{clock-told}
use Rattle.ynl_snapshots.proofs.restoring.Stamps.{later-stamp, no-stamp, node-sound, own-stamp}
use Rattle.ynl_snapshots.proofs.restoring.nodes.joined_partition.Goals as goal

pub returns-then-is_some-clause-sound : goal.returns-then-is_some-clause-sound
returns-then-is_some-clause-sound c r is told known =
    node-sound c.args.cluster.now.config r (state_in c.args.cluster.now) is c.args.node.now true (is_full (state_in c.args.cluster.now).nodes c.args.node.now.label) (is_from_to 1 (clock (state_in c.args.cluster.now) c.args.node.now.label) c.args.node.now.stamp) told
    (node-known c.args.cluster.now c.inventory-inventory.ensures.sound c.args.node.now.name c.find_node.result (rw c.inventory-inventory.ensures.value at c.find_node.ensures) ∙ sym c.is_some.ensures ∙ c.if-is_some.true) refl refl

pub returns-then-is_full-clause-sound : goal.returns-then-is_full-clause-sound
returns-then-is_full-clause-sound c r is told known =
    node-sound c.args.cluster.now.config r (state_in c.args.cluster.now) is c.args.node.now false true (is_from_to 1 (clock (state_in c.args.cluster.now) c.args.node.now.label) c.args.node.now.stamp) told
    (node-known c.args.cluster.now c.inventory-inventory.ensures.sound c.args.node.now.name c.find_node.result (rw c.inventory-inventory.ensures.value at c.find_node.ensures) ∙ sym c.is_some.ensures ∙ c.if-is_some.false)
    (ap (is_full (state_in c.args.cluster.now).nodes) (sym c.in-Some.ensures.some.own) ∙ sym c.is_full.ensures ∙ c.if-is_full.true) refl

pub returns-then-node-eq0-clause-sound : goal.returns-then-node-eq0-clause-sound
returns-then-node-eq0-clause-sound c r is told known =
    node-sound c.args.cluster.now.config r (state_in c.args.cluster.now) is c.args.node.now false false false told
    (node-known c.args.cluster.now c.inventory-inventory.ensures.sound c.args.node.now.name c.find_node.result (rw c.inventory-inventory.ensures.value at c.find_node.ensures) ∙ sym c.is_some.ensures ∙ c.if-is_some.false)
    (ap (is_full (state_in c.args.cluster.now).nodes) (sym c.in-Some.ensures.some.own) ∙ sym c.is_full.ensures ∙ c.if-is_full.false)
    (no-stamp (clock (state_in c.args.cluster.now) c.args.node.now.label) c.args.node.now.stamp c.if-node-eq0.true)

pub returns-then-clock-node-clause-sound : goal.returns-then-clock-node-clause-sound
returns-then-clock-node-clause-sound c r is told known =
    let shown = clock-told c.args.cluster.now c.inventory-inventory.ensures.sound c.inventory-inventory.ensures.configured c.args.node.now.label c.in-Some.p c.in-Some.ensures.some c.clock.result (rw c.inventory-inventory.ensures.value at c.clock.ensures) in
    node-sound c.args.cluster.now.config r (state_in c.args.cluster.now) is c.args.node.now false false false told
    (node-known c.args.cluster.now c.inventory-inventory.ensures.sound c.args.node.now.name c.find_node.result (rw c.inventory-inventory.ensures.value at c.find_node.ensures) ∙ sym c.is_some.ensures ∙ c.if-is_some.false)
    (ap (is_full (state_in c.args.cluster.now).nodes) (sym c.in-Some.ensures.some.own) ∙ sym c.is_full.ensures ∙ c.if-is_full.false)
    (ap (λ shown. is_from_to 1 shown c.args.node.now.stamp) shown ∙ later-stamp c.clock.result c.args.node.now.stamp c.if-clock-node.true)

pub returns-clause-sound : goal.returns-clause-sound
returns-clause-sound c r is told known =
    let shown = clock-told c.args.cluster.now c.inventory-inventory.ensures.sound c.inventory-inventory.ensures.configured c.args.node.now.label c.in-Some.p c.in-Some.ensures.some c.clock.result (rw c.inventory-inventory.ensures.value at c.clock.ensures) in
    let above : 0 < c.args.node.now.stamp = omega (arith, c.if-node-eq0.false) in
    node-sound c.args.cluster.now.config r (state_in c.args.cluster.now) is c.args.node.now false false true told
    (node-known c.args.cluster.now c.inventory-inventory.ensures.sound c.args.node.now.name c.find_node.result (rw c.inventory-inventory.ensures.value at c.find_node.ensures) ∙ sym c.is_some.ensures ∙ c.if-is_some.false)
    (ap (is_full (state_in c.args.cluster.now).nodes) (sym c.in-Some.ensures.some.own) ∙ sym c.is_full.ensures ∙ c.if-is_full.false)
    (ap (λ shown. is_from_to 1 shown c.args.node.now.stamp) shown ∙ own-stamp c.clock.result c.args.node.now.stamp above c.if-clock-node.false)
