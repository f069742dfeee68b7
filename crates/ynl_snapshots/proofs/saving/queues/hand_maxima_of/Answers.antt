-- The maxima of a queue are told one after another.
use Rattle.std.proofs.Common.{◌≤◌, ◌∙◌, length, sym, ap, arith}
use Rattle.std.proofs.lemmas.List.{length-map}
use Rattle.ynl_model.specs.Nodes.{partition_labels}
use Rattle.ynl_inventory.specs.Parts.{Held}
use Rattle.ynl_inventory.specs.Rows.{PartitionRow}
use Rattle.ynl_cluster.specs.Cluster.{path_of, state_in}
use Rattle.ynl_saved.specs.Saving.{maximum_lines}
use Rattle.ynl_saved.proofs.Handing.{fails-on, fails-part, takes-part, takes-parts}
use Rattle.ynl_snapshots.proofs.saving.Rows.{partition-counted}
use Rattle.ynl_snapshots.proofs.saving.QueuePlaces.{label-there}
use Rattle.ynl_snapshots.proofs.saving.queues.hand_maxima_of.Goals as goal

pub returns-in_err-hand_maximum : goal.returns-in_err-hand_maximum
returns-in_err-hand_maximum g c =
    let w = c.args.cluster.now in
    let has = partition-counted w c.loop-p.p c.inventory.result.now c.inventory.ensures.value c.partition_count-p-end.result c.partition_count-p-end.ensures.count c.loop-p-test.true in
    let lines = maximum_lines w.config (state_in w).maxima (path_of w c.args.queue) in
    fails-on g.S.LineSink.gives c.args.sink.now c.hand_maximum.new.sink _ c.in_err-hand_maximum.field-0.0 c.from_residual.result
    (fails-part g.S.LineSink.gives lines (partition_labels w.config.labels) c.loop-p.p c.args.sink.now c.loop-p.sink c.hand_maximum.new.sink c.loop-p.invariant c.in_err-hand_maximum.field-0.0 _
    (label-there w c.inventory.ensures.configured c.loop-p.p has) c.in_err-hand_maximum.ensures)
    c.from_residual.ensures.1

pub loop-p-preserved : goal.loop-p-preserved
loop-p-preserved g c =
    let w = c.args.cluster.now in
    let has = partition-counted w c.loop-p.p c.inventory.result.now c.inventory.ensures.value c.partition_count-p-end.result c.partition_count-p-end.ensures.count c.loop-p-test.true in
    let lines = maximum_lines w.config (state_in w).maxima (path_of w c.args.queue) in
    takes-part g.S.LineSink.gives lines (partition_labels w.config.labels) c.loop-p.p c.args.sink.now c.loop-p.sink c.hand_maximum.new.sink c.loop-p.invariant _
    (label-there w c.inventory.ensures.configured c.loop-p.p has) c.in_ok-hand_maximum.ensures

pub returns : goal.returns
returns g c =
    let w = c.args.cluster.now in
    let counted = c.partition_count-p-end.ensures.count ∙ ap (λ (h : Held). length h.rows.partitions) c.inventory.ensures.value in
    let labels = sym (length-map w.rows.partitions (λ (row : PartitionRow). row.label)) ∙ ap length c.inventory.ensures.configured.labels in
    let past : c.partition_count-p-end.result ≤ c.loop-p.p = c.loop-p-test.false in
    takes-parts g.S.LineSink.gives (maximum_lines w.config (state_in w).maxima (path_of w c.args.queue)) (partition_labels w.config.labels) c.loop-p.p c.args.sink.now c.loop-p.sink c.loop-p.invariant (omega (arith, counted, labels, past))
