-- The partitions are told one after another.
use Rattle.std.proofs.Common.{map}
use Rattle.ynl_cluster.specs.Cluster.{state_in}
use Rattle.ynl_saved.specs.Saving.{partition_line}
use Rattle.ynl_saved.proofs.Handing.{fails-next, fails-on, takes-next}
use Rattle.ynl_snapshots.proofs.saving.Rows.{line-there, partition-counted}
use Rattle.ynl_snapshots.proofs.saving.partitions.hand_partitions.Goals as goal

pub returns-in_err-take : goal.returns-in_err-take
returns-in_err-take g c =
    let has = partition-counted c.args.cluster.now c.loop-p.p c.inventory.result.now c.inventory.ensures.value c.partition_count-p-end.result c.partition_count-p-end.ensures.count c.loop-p-test.true in
    let lines = map partition_line (state_in c.args.cluster.now).partitions in
    fails-on g.S.LineSink.gives c.args.sink.now c.take.new.self lines c.in_err-take.field-0.0 c.from_residual.result
    (fails-next g.S.LineSink.gives lines c.loop-p.p c.args.sink.now c.loop-p.sink c.take.new.self c.loop-p.invariant c.partition_line.result
    (line-there c.args.cluster.now c.loop-p.p has c.partition_line.result c.partition_line.ensures) c.in_err-take.field-0.0 c.in_err-take.ensures)
    c.from_residual.ensures.1

pub loop-p-preserved : goal.loop-p-preserved
loop-p-preserved g c =
    let has = partition-counted c.args.cluster.now c.loop-p.p c.inventory.result.now c.inventory.ensures.value c.partition_count-p-end.result c.partition_count-p-end.ensures.count c.loop-p-test.true in
    let lines = map partition_line (state_in c.args.cluster.now).partitions in
    takes-next g.S.LineSink.gives lines c.loop-p.p c.args.sink.now c.loop-p.sink c.take.new.self c.loop-p.invariant c.partition_line.result
    (line-there c.args.cluster.now c.loop-p.p has c.partition_line.result c.partition_line.ensures) c.in_ok-take.ensures
