-- What the parts of a cluster tell of a name and a label is what the model tests.
use Rattle.std.proofs.Common.{ap, sym, refl, true, false, ◌∙◌}
use Rattle.ynl_model.specs.Nodes.{is_full}
use Rattle.ynl_cluster.specs.Cluster.{state_in}
use Rattle.ynl_replies.proofs.admission.FirstReasons.{first-register}
use Rattle.ynl_replies.proofs.admission.NodesNamed.{node-known}
use Rattle.ynl_replies.proofs.admission.nodes.register.Goals as goal

pub returns-then-is_some-clause-refused : goal.returns-then-is_some-clause-refused
returns-then-is_some-clause-refused c = λ size.
    first-register c.args.cluster.now.config (state_in c.args.cluster.now) c.args.name.now c.args.label.now size true true (is_full (state_in c.args.cluster.now).nodes c.args.label.now) (sym c.in-Some.ensures.known)
    (node-known c.args.cluster.now c.inventory.ensures.sound c.args.name.now c.find_node.result (rw c.inventory.ensures.value at c.find_node.ensures) ∙ sym c.is_some.ensures ∙ c.if-is_some.true) refl

pub returns-then-is_full-clause-refused : goal.returns-then-is_full-clause-refused
returns-then-is_full-clause-refused c = λ size.
    first-register c.args.cluster.now.config (state_in c.args.cluster.now) c.args.name.now c.args.label.now size true false true (sym c.in-Some.ensures.known)
    (node-known c.args.cluster.now c.inventory.ensures.sound c.args.name.now c.find_node.result (rw c.inventory.ensures.value at c.find_node.ensures) ∙ sym c.is_some.ensures ∙ c.if-is_some.false)
    (ap (is_full (state_in c.args.cluster.now).nodes) (sym c.in-Some.ensures.some.own) ∙ sym c.is_full.ensures ∙ c.if-is_full.true)

pub returns-clause-free : goal.returns-clause-free
returns-clause-free c = λ size.
    first-register c.args.cluster.now.config (state_in c.args.cluster.now) c.args.name.now c.args.label.now size true false false (sym c.in-Some.ensures.known)
    (node-known c.args.cluster.now c.inventory.ensures.sound c.args.name.now c.find_node.result (rw c.inventory.ensures.value at c.find_node.ensures) ∙ sym c.is_some.ensures ∙ c.if-is_some.false)
    (ap (is_full (state_in c.args.cluster.now).nodes) (sym c.in-Some.ensures.some.own) ∙ sym c.is_full.ensures ∙ c.if-is_full.false)
