-- What is known where the containers of a node go.
use Rattle.std.proofs.Common.{nat_eq, sym, ap, subst, ◌∙◌}
use Rattle.std.specs.Map.{lookup}
use Rattle.ynl_slots.specs.Slots.{IsLive}
use Rattle.ynl_tables.specs.containers.Chains.{IsFirst}
use Rattle.ynl_inventory.specs.Changes.{partition_of_node}
use Rattle.ynl_inventory.specs.Apps.{containers_of}
use Rattle.ynl_inventory.specs.Parts.{Held, node_row}
use Rattle.ynl_cluster.specs.Cluster.{ClusterView}
use Rattle.ynl_cluster.proofs.Leaving.{first-there, leaves-fewer, leaves-first, leaves-on, leaving-of, none-there, on-held}
use Rattle.ynl_cluster.proofs.cluster.Cluster.clear.Goals as goal

pub loop-number-init : goal.loop-number-init
loop-number-init c = leaves-first c.self.inside c.self.invariant c.args.self.now c.self.view_is c.args.node (node_row c.node.result.now) c.node.ensures

pub first_of_node-requires : goal.first_of_node-requires
first_of_node-requires c = subst (λ (h : Held). IsLive c.args.node h.rows.nodes) (sym c.inventory.ensures.value) c.loop-number.invariant.live

pub discard-requires : goal.discard-requires
discard-requires c =
    on-held c.loop-number.self.rows c.args.node c.node.result.now.partition c.in-Some.number
    (first-there c.loop-number.self c.inventory.result.now c.inventory.ensures.value c.args.node c.node.result.now.partition c.in-Some.number c.loop-number.invariant.place c.in-Some.ensures)

pub loop-number-smaller : goal.loop-number-smaller
loop-number-smaller c =
    leaves-fewer c.args.node c.node.result.now.partition c.in-Some.number c.args.self.now c.loop-number.self c.discard.new.self c.loop-number.invariant
    (first-there c.loop-number.self c.inventory.result.now c.inventory.ensures.value c.args.node c.node.result.now.partition c.in-Some.number c.loop-number.invariant.place c.in-Some.ensures) c.discard.ensures

pub loop-number-preserved : goal.loop-number-preserved
loop-number-preserved c =
    leaves-on c.args.node c.node.result.now.partition c.in-Some.number c.args.self.now c.loop-number.self c.discard.new.self c.loop-number.invariant
    (first-there c.loop-number.self c.inventory.result.now c.inventory.ensures.value c.args.node c.node.result.now.partition c.in-Some.number c.loop-number.invariant.place c.in-Some.ensures) c.discard.ensures

pub returns-clause-left : goal.returns-clause-left
returns-clause-left c = λ row found.
    leaving-of c.args.self.now c.args.node c.args.self.now c.loop-number.self (node_row c.node.result.now) (ap (λ (w : ClusterView). lookup (nat_eq c.args.node) w.rows.nodes) (sym c.self.view_is) ∙ c.node.ensures) c.loop-number.invariant row found

pub returns-clause-empty : goal.returns-clause-empty
returns-clause-empty c =
    none-there c.loop-number.self c.loop-number.invariant.sound c.inventory.result.now c.inventory.ensures.value c.args.node
    (subst (λ first. IsFirst (λ c. c.node) c.args.node (containers_of c.inventory.result.now.rows (partition_of_node c.inventory.result.now.rows.nodes c.args.node)) first) c.in_default.is c.first_of_node.ensures)
