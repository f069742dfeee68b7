-- The stops are told one after another.
use Rattle.std.proofs.Common.{◌<◌, ◌≤◌, ◌∙◌, length, List, ap, subst, arith}
use Rattle.ynl_model.specs.Queues.{Config, QueueRow}
use Rattle.ynl_cluster.specs.Cluster.{state_in}
use Rattle.ynl_saved.specs.Saving.{stop_lines}
use Rattle.ynl_saved.proofs.Handing.{fails-on, fails-part, takes-part, takes-parts}
use Rattle.ynl_snapshots.proofs.saving.QueuePlaces.{few-stops, queue-there, stop-at}
use Rattle.ynl_snapshots.proofs.saving.queues.hand_stops.Goals as goal

pub hand_stop-requires-clause-there : goal.hand_stop-requires-clause-there
hand_stop-requires-clause-there g c =
    let queues = c.queues-i-end.ensures ∙ ap (λ (x : Config). x.queues) (c.deref.ensures ∙ c.config.ensures) in
    queue-there c.args.cluster.now c.inventory.ensures.configured c.loop-i.i (subst (λ (rows : List QueueRow). c.loop-i.i < length rows) queues c.loop-i-test.true)

pub returns-in_err-hand_stop : goal.returns-in_err-hand_stop
returns-in_err-hand_stop g c =
    let w = c.args.cluster.now in
    let row = stop-at (state_in w).stops c.loop-i.i c.hand_stop.ensures.there in
    fails-on g.S.LineSink.gives c.args.sink.now c.hand_stop.new.sink _ c.in_err-hand_stop.field-0.0 c.from_residual.result
    (fails-part g.S.LineSink.gives stop_lines (state_in w).stops c.loop-i.i c.args.sink.now c.loop-i.sink c.hand_stop.new.sink c.loop-i.invariant c.in_err-hand_stop.field-0.0 row.0 row.1
    (c.in_err-hand_stop.ensures.told row.0 row.2))
    c.from_residual.ensures.1

pub loop-i-preserved : goal.loop-i-preserved
loop-i-preserved g c =
    let w = c.args.cluster.now in
    let row = stop-at (state_in w).stops c.loop-i.i c.hand_stop.ensures.there in
    takes-part g.S.LineSink.gives stop_lines (state_in w).stops c.loop-i.i c.args.sink.now c.loop-i.sink c.hand_stop.new.sink c.loop-i.invariant row.0 row.1
    (c.in_ok-hand_stop.ensures.told row.0 row.2)

pub returns : goal.returns
returns g c =
    let w = c.args.cluster.now in
    let queues = c.queues-i-end.ensures ∙ ap (λ (x : Config). x.queues) (c.deref.ensures ∙ c.config.ensures) in
    let past : length w.config.queues ≤ c.loop-i.i = subst (λ (rows : List QueueRow). length rows ≤ c.loop-i.i) queues c.loop-i-test.false in
    let few = few-stops w in
    takes-parts g.S.LineSink.gives stop_lines (state_in w).stops c.loop-i.i c.args.sink.now c.loop-i.sink c.loop-i.invariant (omega (arith, past, few))
