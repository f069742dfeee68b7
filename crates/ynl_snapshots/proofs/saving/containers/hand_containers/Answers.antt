-- The containers are told, partition by partition.
use Rattle.std.proofs.Common.{map, subst}
use Rattle.ynl_model.specs.Cluster.{Partition}
use Rattle.ynl_cluster.specs.Cluster.{state_in}
use Rattle.ynl_saved.specs.declared.lines.StateLine.TheVariants.{Container as ContainerLine}
use Rattle.ynl_saved.specs.Handing.{FailsAmong, TakesAll}
use Rattle.ynl_saved.proofs.Handing.{fails-on, fails-part, takes-part}
use Rattle.ynl_snapshots.proofs.saving.Rows.{containers-told, partition-counted, partition-there}
use Rattle.ynl_snapshots.proofs.saving.containers.hand_containers.Goals as goal

pub hand_placed-requires : goal.hand_placed-requires
hand_placed-requires g c =
    partition-counted c.args.cluster.now c.loop-p.p c.inventory.result.now c.inventory.ensures.value c.partition_count-p-end.result c.partition_count-p-end.ensures.count c.loop-p-test.true

pub returns-in_err-hand_placed : goal.returns-in_err-hand_placed
returns-in_err-hand_placed g c =
    let has = partition-counted c.args.cluster.now c.loop-p.p c.inventory.result.now c.inventory.ensures.value c.partition_count-p-end.result c.partition_count-p-end.ensures.count c.loop-p-test.true in
    let there = partition-there c.args.cluster.now c.loop-p.p has in
    let lines = λ (row : Partition). map ContainerLine row.containers in
    fails-on g.S.LineSink.gives c.args.sink.now c.hand_placed.new.sink _ c.in_err-hand_placed.field-0.0 c.from_residual.result
    (fails-part g.S.LineSink.gives lines (state_in c.args.cluster.now).partitions c.loop-p.p c.args.sink.now c.loop-p.sink c.hand_placed.new.sink c.loop-p.invariant c.in_err-hand_placed.field-0.0 _ there.2
    (subst (λ ls. FailsAmong g.S.LineSink.gives c.loop-p.sink ls c.hand_placed.new.sink c.in_err-hand_placed.field-0.0) (containers-told c.args.cluster.now c.loop-p.p there.0 there.1) c.in_err-hand_placed.ensures))
    c.from_residual.ensures.1

pub loop-p-preserved : goal.loop-p-preserved
loop-p-preserved g c =
    let has = partition-counted c.args.cluster.now c.loop-p.p c.inventory.result.now c.inventory.ensures.value c.partition_count-p-end.result c.partition_count-p-end.ensures.count c.loop-p-test.true in
    let there = partition-there c.args.cluster.now c.loop-p.p has in
    let lines = λ (row : Partition). map ContainerLine row.containers in
    takes-part g.S.LineSink.gives lines (state_in c.args.cluster.now).partitions c.loop-p.p c.args.sink.now c.loop-p.sink c.hand_placed.new.sink c.loop-p.invariant _ there.2
    (subst (λ ls. TakesAll g.S.LineSink.gives c.loop-p.sink ls c.hand_placed.new.sink) (containers-told c.args.cluster.now c.loop-p.p there.0 there.1) c.in_ok-hand_placed.ensures)
