-- The clock of a partition is set as its line says.
use Rattle.std.proofs.Common.{◌∙◌, ◌<◌, ◌≤◌, true, false, ap, sym, refl, nat_le}
use Rattle.ynl_model.specs.Nodes.{clock_limit}
use Rattle.ynl_model.specs.Cluster.{in_partition}
use Rattle.ynl_cluster.specs.Cluster.{ClusterView, state_in}
use Rattle.ynl_saved.specs.declared.lines.StateLine.TheVariants.{Partition}
use Rattle.ynl_saved.specs.Restoring.{with_line}
use Rattle.ynl_saved.proofs.Sound.{nat-le}
use Rattle.ynl_snapshots.proofs.restoring.Clocks.{may-go, partition-sound}
use Rattle.ynl_snapshots.proofs.restoring.Taken.{nat-beyond, refused, taken}
use Rattle.ynl_snapshots.proofs.restoring.partitions.take_partition.Goals as goal

pub set_clock-requires-clause-can : goal.set_clock-requires-clause-can
set_clock-requires-clause-can c =
    let goes : c.args.clock ≤ clock_limit c.args.cluster.now.config.labels c.args.label.now = rw (c.limit.ensures, c.labels.ensures, c.deref.ensures, c.config.ensures) at c.if-limit-clock.false in
    may-go c.args.cluster.now c.inventory.ensures.sound c.inventory.ensures.configured c.args.label.now c.in-Some.p c.in-Some.ensures.some c.requires c.args.clock goes

pub returns-in_default : goal.returns-in_default
returns-in_default c r is new =
    refused c.args.cluster.now r (Partition c.args.label.now c.args.clock)
    (partition-sound c.args.cluster.now.config r c.args.label.now c.args.clock false (nat_le c.args.clock (clock_limit c.args.cluster.now.config.labels c.args.label.now)) new (sym c.in_default.ensures.known) refl)

pub returns-then-limit-clock : goal.returns-then-limit-clock
returns-then-limit-clock c r is new =
    let beyond : clock_limit c.args.cluster.now.config.labels c.args.label.now < c.args.clock = rw (c.limit.ensures, c.labels.ensures, c.deref.ensures, c.config.ensures) at c.if-limit-clock.true in
    refused c.args.cluster.now r (Partition c.args.label.now c.args.clock)
    (partition-sound c.args.cluster.now.config r c.args.label.now c.args.clock true false new (sym c.in-Some.ensures.known) (nat-beyond c.args.clock (clock_limit c.args.cluster.now.config.labels c.args.label.now) beyond))

pub returns : goal.returns
unfolding with_line
returns c r is new =
    let goes : c.args.clock ≤ clock_limit c.args.cluster.now.config.labels c.args.label.now = rw (c.limit.ensures, c.labels.ensures, c.deref.ensures, c.config.ensures) at c.if-limit-clock.false in
    taken c.args.cluster.now c.set_clock.new.self r (Partition c.args.label.now c.args.clock)
    (partition-sound c.args.cluster.now.config r c.args.label.now c.args.clock true true new (sym c.in-Some.ensures.known) (nat-le c.args.clock (clock_limit c.args.cluster.now.config.labels c.args.label.now) goes))
    (ap (λ (w : ClusterView). w.config) c.set_clock.ensures.rows)
    (c.set_clock.ensures.state
    ∙ ap (λ label. record (state_in c.args.cluster.now) { partitions = in_partition label (λ row. record row { clock = c.args.clock }) (state_in c.args.cluster.now).partitions }) c.in-Some.ensures.some.own)
