-- The maxima are told queue by queue.
use Rattle.std.proofs.Common.{◌<◌, ◌≤◌, ◌∙◌, length, List, ap, subst}
use Rattle.ynl_model.specs.Queues.{Config, QueueRow}
use Rattle.ynl_cluster.specs.Cluster.{state_in}
use Rattle.ynl_saved.specs.Handing.{FailsAmong, TakesAll}
use Rattle.ynl_saved.specs.Saving.{maxima_lines}
use Rattle.ynl_saved.proofs.Handing.{fails-on, fails-part, takes-part, takes-parts}
use Rattle.ynl_snapshots.proofs.saving.QueuePlaces.{queue-path, queue-row, queue-there}
use Rattle.ynl_snapshots.proofs.saving.queues.hand_maxima.Goals as goal

pub hand_maxima_of-requires-clause-there : goal.hand_maxima_of-requires-clause-there
hand_maxima_of-requires-clause-there g c =
    let queues = c.queues-i-end.ensures ∙ ap (λ (x : Config). x.queues) (c.deref.ensures ∙ c.config.ensures) in
    queue-there c.args.cluster.now c.inventory.ensures.configured c.loop-i.i (subst (λ (rows : List QueueRow). c.loop-i.i < length rows) queues c.loop-i-test.true)

pub returns-in_err-hand_maxima_of : goal.returns-in_err-hand_maxima_of
returns-in_err-hand_maxima_of g c =
    let w = c.args.cluster.now in
    let queues = c.queues-i-end.ensures ∙ ap (λ (x : Config). x.queues) (c.deref.ensures ∙ c.config.ensures) in
    let inside = subst (λ (rows : List QueueRow). c.loop-i.i < length rows) queues c.loop-i-test.true in
    let row = queue-row w c.inventory.ensures.configured c.loop-i.i inside in
    fails-on g.S.LineSink.gives c.args.sink.now c.hand_maxima_of.new.sink _ c.in_err-hand_maxima_of.field-0.0 c.from_residual.result
    (fails-part g.S.LineSink.gives (λ (row : QueueRow). maxima_lines w.config (state_in w).maxima row.path) w.config.queues c.loop-i.i c.args.sink.now c.loop-i.sink c.hand_maxima_of.new.sink c.loop-i.invariant c.in_err-hand_maxima_of.field-0.0 row.0 row.1
    (subst (λ path. FailsAmong g.S.LineSink.gives c.loop-i.sink (maxima_lines w.config (state_in w).maxima path) c.hand_maxima_of.new.sink c.in_err-hand_maxima_of.field-0.0) (queue-path w c.inventory.ensures.configured c.loop-i.i inside) c.in_err-hand_maxima_of.ensures))
    c.from_residual.ensures.1

pub loop-i-preserved : goal.loop-i-preserved
loop-i-preserved g c =
    let w = c.args.cluster.now in
    let queues = c.queues-i-end.ensures ∙ ap (λ (x : Config). x.queues) (c.deref.ensures ∙ c.config.ensures) in
    let inside = subst (λ (rows : List QueueRow). c.loop-i.i < length rows) queues c.loop-i-test.true in
    let row = queue-row w c.inventory.ensures.configured c.loop-i.i inside in
    takes-part g.S.LineSink.gives (λ (row : QueueRow). maxima_lines w.config (state_in w).maxima row.path) w.config.queues c.loop-i.i c.args.sink.now c.loop-i.sink c.hand_maxima_of.new.sink c.loop-i.invariant row.0 row.1
    (subst (λ path. TakesAll g.S.LineSink.gives c.loop-i.sink (maxima_lines w.config (state_in w).maxima path) c.hand_maxima_of.new.sink) (queue-path w c.inventory.ensures.configured c.loop-i.i inside) c.in_ok-hand_maxima_of.ensures)

pub returns : goal.returns
returns g c =
    let w = c.args.cluster.now in
    let queues = c.queues-i-end.ensures ∙ ap (λ (x : Config). x.queues) (c.deref.ensures ∙ c.config.ensures) in
    takes-parts g.S.LineSink.gives (λ (row : QueueRow). maxima_lines w.config (state_in w).maxima row.path) w.config.queues c.loop-i.i c.args.sink.now c.loop-i.sink c.loop-i.invariant
    (subst (λ (rows : List QueueRow). length rows ≤ c.loop-i.i) queues c.loop-i-test.false)
