-- A node joins as its line says.
use Rattle.std.proofs.Common.{◌≡◌, ◌∙◌, sym, ap, subst}
use Rattle.ynl_slots.specs.Slots.{IsLive}
use Rattle.ynl_inventory.specs.Changes.{with_joined}
use Rattle.ynl_inventory.specs.Sound.{CanShow, HasPartition}
use Rattle.ynl_inventory.proofs.Lookups.{place-there}
use Rattle.ynl_cluster.specs.Cluster.{ClusterView}
use Rattle.ynl_replies.proofs.admission.NodesNamed.{node-missing}
use Rattle.ynl_saved.specs.declared.lines.StateLine.TheVariants.{Node}
use Rattle.ynl_saved.specs.Restoring.{with_line}
use Rattle.ynl_snapshots.proofs.restoring.Clocks.{clock-read}
use Rattle.ynl_snapshots.proofs.restoring.Stamps.{joined-has, joined-live, joined-shows, node-told}
use Rattle.ynl_snapshots.proofs.restoring.Taken.{taken}
use Rattle.ynl_snapshots.proofs.restoring.nodes.take_node.Goals as goal

pub set_clock-requires-clause-there : goal.set_clock-requires-clause-there
set_clock-requires-clause-there c =
    let own = place-there c.args.cluster.now.rows.partitions c.in-Some.p c.in-Some.ensures.joins.partition.there in
    subst (λ (w : ClusterView). HasPartition w.rows c.in-Some.p) (sym c.in_ok-number.ensures.ok)
    (joined-has c.args.cluster.now c.inventory.ensures.sound c.inventory.ensures.configured c.args.node.now c.in-Some.p c.in-Some.ensures.joins.partition own.0 own.1 c.in_ok-number.number)

pub set_clock-requires-clause-can : goal.set_clock-requires-clause-can
set_clock-requires-clause-can c =
    let own = place-there c.args.cluster.now.rows.partitions c.in-Some.p c.in-Some.ensures.joins.partition.there in
    let read : c.clock-clock.result ≡ own.0.clock =
    clock-read c.args.cluster.now c.inventory.ensures.sound c.inventory.ensures.configured c.args.node.now.label c.in-Some.p c.in-Some.ensures.joins.partition own.0 own.1 c.clock-clock.result
    (rw c.inventory.ensures.value at c.clock-clock.ensures)
    in
    subst (λ (w : ClusterView). CanShow w.rows c.in-Some.p c.clock-clock.result) (sym c.in_ok-number.ensures.ok)
    (subst (λ shown. CanShow (with_joined c.in_ok-number.number c.args.node.now.name c.in-Some.p c.args.node.now.size c.args.cluster.now.rows) c.in-Some.p shown) (sym read)
    (joined-shows c.args.cluster.now c.inventory.ensures.sound c.inventory.ensures.configured c.args.node.now c.in-Some.p c.in-Some.ensures.joins.partition own.0 own.1 c.in_ok-number.number))

pub set_stamp-requires : goal.set_stamp-requires
set_stamp-requires c =
    let own = place-there c.args.cluster.now.rows.partitions c.in-Some.p c.in-Some.ensures.joins.partition.there in
    subst (λ (w : ClusterView). IsLive c.in_ok-number.number w.rows.nodes) (sym c.set_clock.ensures.rows)
    (subst (λ (w : ClusterView). IsLive c.in_ok-number.number w.rows.nodes) (sym c.in_ok-number.ensures.ok)
    (joined-live c.args.cluster.now c.inventory.ensures.sound c.inventory.ensures.configured c.args.node.now c.in-Some.p c.in-Some.ensures.joins.partition own.0 own.1 c.in_ok-number.number c.clock-clock.result c.in_ok-number.ensures.unused))

pub returns : goal.returns
unfolding with_line
returns c r is told known =
    let own = place-there c.args.cluster.now.rows.partitions c.in-Some.p c.in-Some.ensures.joins.partition.there in
    let read : c.clock-clock.result ≡ own.0.clock =
    clock-read c.args.cluster.now c.inventory.ensures.sound c.inventory.ensures.configured c.args.node.now.label c.in-Some.p c.in-Some.ensures.joins.partition own.0 own.1 c.clock-clock.result
    (rw c.inventory.ensures.value at c.clock-clock.ensures)
    in
    taken c.args.cluster.now c.set_stamp.new.self r (Node c.args.node.now) (c.in-Some.ensures.sound r is told known)
    (ap (λ (w : ClusterView). w.config) c.set_stamp.ensures.rows ∙ ap (λ (w : ClusterView). w.config) c.set_clock.ensures.rows ∙ ap (λ (w : ClusterView). w.config) c.in_ok-number.ensures.ok)
    (node-told c.args.cluster.now c.inventory.ensures.sound c.inventory.ensures.configured c.args.node.now c.in-Some.p c.in-Some.ensures.joins.partition own.0 own.1 c.in_ok-number.number c.in_ok-number.ensures.unused
    (node-missing c.args.cluster.now c.inventory.ensures.sound c.args.node.now.name c.in-Some.ensures.joins.new)
    c.join.new.self c.set_clock.new.self c.set_stamp.new.self c.in_ok-number.ensures.ok c.in_ok-number.ensures.state c.clock-clock.result read c.set_clock.ensures.rows c.set_clock.ensures.state c.set_stamp.ensures.state)
