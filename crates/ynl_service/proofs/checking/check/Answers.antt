-- What is told of a proposal step by step is what the model tests.
use Rattle.std.proofs.Common.{is_some, rules, sym, ap, ◌∙◌}
use Rattle.ynl_inventory.specs.Parts.{node_row}
use Rattle.ynl_cluster.specs.Cluster.{state_in}
use Rattle.ynl_service.proofs.Checked.{told-closed, told-first, told-no-application, told-placeable, told-proposed, told-stale, told-unwanted}
use Rattle.ynl_service.proofs.Reasons.{nothing-placed}
use Rattle.ynl_service.proofs.checking.check.Goals as goal

pub returns-in_err-node-clause-refused : goal.returns-in_err-node-clause-refused
returns-in_err-node-clause-refused c =
    let h = nothing-placed c.args.cluster.now.config (state_in c.args.cluster.now) c.args.proposal.now c.in_err-node.field-0.0 c.in_err-node.ensures.refused in
    search (rules, h)

pub returns-then-row-proposal-clause-refused : goal.returns-then-row-proposal-clause-refused
returns-then-row-proposal-clause-refused c =
    told-stale c.args.cluster.now c.inventory-inventory.ensures.sound c.inventory-inventory.ensures.configured c.args.proposal.now c.in_ok-node.node c.in_ok-node.ensures.node c.in_ok-node.ensures.free
    (node_row c.node-row.result.now) (rw c.inventory-inventory.ensures.value at c.node-row.ensures) c.if-row-proposal.true

pub returns-in_default-clause-refused : goal.returns-in_default-clause-refused
returns-in_default-clause-refused c =
    told-closed c.args.cluster.now c.inventory-inventory.ensures.sound c.inventory-inventory.ensures.configured c.args.proposal.now c.in_ok-node.node c.in_ok-node.ensures.node c.in_ok-node.ensures.free
    (node_row c.node-row.result.now) (rw c.inventory-inventory.ensures.value at c.node-row.ensures) c.if-row-proposal.false
    (sym c.accessible.ensures.access ∙ ap is_some c.in_default.is)

pub returns-in_default-app_named-clause-refused : goal.returns-in_default-app_named-clause-refused
returns-in_default-app_named-clause-refused c =
    told-no-application c.args.cluster.now c.inventory-inventory.ensures.sound c.inventory-inventory.ensures.configured c.args.proposal.now c.in_ok-node.node c.in_ok-node.ensures.node c.in_ok-node.ensures.free
    (node_row c.node-row.result.now) (rw c.inventory-inventory.ensures.value at c.node-row.ensures) c.if-row-proposal.false
    c.in-Some.role c.in-Some.ensures.some (sym c.accessible.ensures.access ∙ ap is_some c.in-Some.is) c.in_default-app_named.ensures.none

pub returns-then-not-wants-clause-refused : goal.returns-then-not-wants-clause-refused
returns-then-not-wants-clause-refused c =
    told-unwanted c.args.cluster.now c.inventory-inventory.ensures.sound c.inventory-inventory.ensures.configured c.args.proposal.now c.in_ok-node.node c.in_ok-node.ensures.node c.in_ok-node.ensures.free
    (node_row c.node-row.result.now) (rw c.inventory-inventory.ensures.value at c.node-row.ensures) c.if-row-proposal.false
    c.in-Some.role c.in-Some.ensures.some (sym c.accessible.ensures.access ∙ ap is_some c.in-Some.is) c.in-Some-app_named.app c.in-Some-app_named.ensures.some
    c.wants.result c.wants.ensures c.if-not-wants.true

pub request_refusal-requires-clause-placeable : goal.request_refusal-requires-clause-placeable
request_refusal-requires-clause-placeable c =
    told-placeable c.args.cluster.now c.inventory-inventory.ensures.sound c.inventory-inventory.ensures.configured c.args.proposal.now c.in_ok-node.node c.in_ok-node.ensures.node c.in_ok-node.ensures.free
    (node_row c.node-row.result.now) (rw c.inventory-inventory.ensures.value at c.node-row.ensures) c.if-row-proposal.false
    c.in-Some.role c.in-Some.ensures.some (sym c.accessible.ensures.access ∙ ap is_some c.in-Some.is) c.in-Some-app_named.app c.in-Some-app_named.ensures.some
    c.wants.result c.wants.ensures c.if-not-wants.false

pub returns-in-Some-request_refusal-clause-refused : goal.returns-in-Some-request_refusal-clause-refused
returns-in-Some-request_refusal-clause-refused c =
    told-first c.args.cluster.now c.inventory-inventory.ensures.sound c.inventory-inventory.ensures.configured c.args.proposal.now c.in_ok-node.node c.in_ok-node.ensures.node c.in_ok-node.ensures.free
    (node_row c.node-row.result.now) (rw c.inventory-inventory.ensures.value at c.node-row.ensures) c.if-row-proposal.false
    c.in-Some.role c.in-Some.ensures.some (sym c.accessible.ensures.access ∙ ap is_some c.in-Some.is) c.in-Some-app_named.app c.in-Some-app_named.ensures.some
    c.wants.result c.wants.ensures c.if-not-wants.false c.request_refusal.result c.request_refusal.ensures.reasons
    ∙ c.in-Some-request_refusal.is

pub returns-in-None-clause-free : goal.returns-in-None-clause-free
returns-in-None-clause-free c =
    told-first c.args.cluster.now c.inventory-inventory.ensures.sound c.inventory-inventory.ensures.configured c.args.proposal.now c.in_ok-node.node c.in_ok-node.ensures.node c.in_ok-node.ensures.free
    (node_row c.node-row.result.now) (rw c.inventory-inventory.ensures.value at c.node-row.ensures) c.if-row-proposal.false
    c.in-Some.role c.in-Some.ensures.some (sym c.accessible.ensures.access ∙ ap is_some c.in-Some.is) c.in-Some-app_named.app c.in-Some-app_named.ensures.some
    c.wants.result c.wants.ensures c.if-not-wants.false c.request_refusal.result c.request_refusal.ensures.reasons
    ∙ c.in-None.is

pub returns-in-None-clause-placement : goal.returns-in-None-clause-placement
returns-in-None-clause-placement c =
    told-proposed c.args.cluster.now c.inventory-inventory.ensures.sound c.inventory-inventory.ensures.configured c.args.proposal.now c.in_ok-node.node c.in_ok-node.ensures.node c.in_ok-node.ensures.free
    (node_row c.node-row.result.now) (rw c.inventory-inventory.ensures.value at c.node-row.ensures) c.if-row-proposal.false
    c.in-Some.role c.in-Some.ensures.some (sym c.accessible.ensures.access ∙ ap is_some c.in-Some.is) c.in-Some-app_named.app c.in-Some-app_named.ensures.some
    c.wants.result c.wants.ensures c.if-not-wants.false c.in-None.ensures.fits
