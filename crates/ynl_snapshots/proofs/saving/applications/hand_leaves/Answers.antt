-- The leaves are told, queue by queue.
use Rattle.std.proofs.Common.{◌≡◌, ◌<◌, ◌≤◌, ◌∙◌, List, length, sym, ap, subst, arith}
use Rattle.ynl_model.specs.Queues.{Config, QueueRow}
use Rattle.ynl_saved.specs.Handing.{FailsAmong, TakesAll}
use Rattle.ynl_saved.proofs.Handing.{fails-on, fails-part, takes-part, takes-parts}
use Rattle.ynl_snapshots.specs.saving.Told.{numbered, queue_lines}
use Rattle.ynl_snapshots.proofs.saving.Rows.{leaves-told, queue-at, queues-counted}
use Rattle.ynl_snapshots.proofs.saving.applications.hand_leaves.Goals as goal

pub returns-in_err-hand_queue : goal.returns-in_err-hand_queue
returns-in_err-hand_queue g c =
    let v = c.args.cluster.now.rows in
    let counted : c.queues-i-end.result.now ≡ c.args.cluster.now.config.queues = c.queues-i-end.ensures ∙ ap (λ (x : Config). x.queues) (c.deref.ensures ∙ c.config.ensures) in
    let there = queue-at c.args.cluster.now c.inventory.ensures.configured c.loop-i.i (subst (λ (rows : List QueueRow). c.loop-i.i < length rows) counted c.loop-i-test.true) in
    fails-on g.S.LineSink.gives c.args.sink.now c.hand_queue.new.sink _ c.in_err-hand_queue.field-0.0 c.from_residual.result
    (subst (λ ls. FailsAmong g.S.LineSink.gives c.args.sink.now ls c.hand_queue.new.sink c.in_err-hand_queue.field-0.0) (sym (leaves-told v 1 v.paths))
    (fails-part g.S.LineSink.gives (queue_lines v) (numbered 1 v.paths) c.loop-i.i c.args.sink.now c.loop-i.sink c.hand_queue.new.sink c.loop-i.invariant c.in_err-hand_queue.field-0.0 _ there.2
    (c.in_err-hand_queue.ensures there.0 there.1)))
    c.from_residual.ensures.1

pub loop-i-preserved : goal.loop-i-preserved
loop-i-preserved g c =
    let v = c.args.cluster.now.rows in
    let counted : c.queues-i-end.result.now ≡ c.args.cluster.now.config.queues = c.queues-i-end.ensures ∙ ap (λ (x : Config). x.queues) (c.deref.ensures ∙ c.config.ensures) in
    let there = queue-at c.args.cluster.now c.inventory.ensures.configured c.loop-i.i (subst (λ (rows : List QueueRow). c.loop-i.i < length rows) counted c.loop-i-test.true) in
    takes-part g.S.LineSink.gives (queue_lines v) (numbered 1 v.paths) c.loop-i.i c.args.sink.now c.loop-i.sink c.hand_queue.new.sink c.loop-i.invariant _ there.2 (c.in_ok-hand_queue.ensures there.0 there.1)

pub returns : goal.returns
returns g c =
    let v = c.args.cluster.now.rows in
    let counted : c.queues-i-end.result.now ≡ c.args.cluster.now.config.queues = c.queues-i-end.ensures ∙ ap (λ (x : Config). x.queues) (c.deref.ensures ∙ c.config.ensures) in
    let past = subst (λ (rows : List QueueRow). length rows ≤ c.loop-i.i) counted c.loop-i-test.false in
    subst (λ ls. TakesAll g.S.LineSink.gives c.args.sink.now ls c.loop-i.sink) (sym (leaves-told v 1 v.paths))
    (takes-parts g.S.LineSink.gives (queue_lines v) (numbered 1 v.paths) c.loop-i.i c.args.sink.now c.loop-i.sink c.loop-i.invariant (omega (arith, past, queues-counted c.args.cluster.now c.inventory.ensures.configured)))
