-- A queue is told if it is a leaf.
use Rattle.std.proofs.Common.{◌≡◌, ◌<◌, ◌∙◌, true, false, List, length, slice_get, Some, refl, sym, ap, subst}
use Rattle.std.proofs.lemmas.Option.{slice_get_read}
use Rattle.ynl_model.specs.Queues.{Config, QueueRow, is_leaf}
use Rattle.ynl_saved.specs.Handing.{Hands, TakesAll}
use Rattle.ynl_snapshots.proofs.saving.Rows.{leaf-here, queue-told}
use Rattle.ynl_snapshots.proofs.saving.applications.hand_queue.Goals as goal

pub hand_leaf-requires : goal.hand_leaf-requires
hand_leaf-requires g c =
    let queues : c.queues.result.now ≡ c.args.cluster.now.config.queues = c.queues.ensures ∙ ap (λ (x : Config). x.queues) (c.deref.ensures ∙ c.config-config.ensures) in
    let inside = subst (λ (rows : List QueueRow). c.args.i < length rows) (sym queues) c.requires in
    let at : slice_get c.args.cluster.now.config.queues c.args.i ≡ Some c.index-queues-i.result =
    ap (λ rows. slice_get rows c.args.i) (sym queues) ∙ slice_get_read c.queues.result.now (length c.queues.result.now) c.args.i c.index-queues-i.result refl inside c.index-queues-i.is
    in
    let leaf : c.is_leaf.result ≡ is_leaf c.args.cluster.now.config c.index-queues-i.result.path =
    c.is_leaf.ensures ∙ (λ j. is_leaf ((c.deref-2.ensures ∙ c.config-config.ensures) j) ((c.names.ensures.names ∙ ap (λ (row : QueueRow). row.path) c.row.view_is) j))
    in
    leaf-here c.args.cluster.now c.inventory.ensures.configured c.args.i c.index-queues-i.result at (sym leaf ∙ c.if-is_leaf.true)

pub returns-then-is_leaf : goal.returns-then-is_leaf
returns-then-is_leaf g c path there =
    let queues : c.queues.result.now ≡ c.args.cluster.now.config.queues = c.queues.ensures ∙ ap (λ (x : Config). x.queues) (c.deref.ensures ∙ c.config-config.ensures) in
    let inside = subst (λ (rows : List QueueRow). c.args.i < length rows) (sym queues) c.requires in
    let at : slice_get c.args.cluster.now.config.queues c.args.i ≡ Some c.index-queues-i.result =
    ap (λ rows. slice_get rows c.args.i) (sym queues) ∙ slice_get_read c.queues.result.now (length c.queues.result.now) c.args.i c.index-queues-i.result refl inside c.index-queues-i.is
    in
    let leaf : c.is_leaf.result ≡ is_leaf c.args.cluster.now.config c.index-queues-i.result.path =
    c.is_leaf.ensures ∙ (λ j. is_leaf ((c.deref-2.ensures ∙ c.config-config.ensures) j) ((c.names.ensures.names ∙ ap (λ (row : QueueRow). row.path) c.row.view_is) j))
    in
    let told = queue-told c.args.cluster.now c.inventory.ensures.configured c.args.i c.index-queues-i.result at true (sym c.if-is_leaf.true ∙ leaf) path there in
    subst (λ ls. Hands g.S.LineSink.gives c.args.sink.now ls c.hand_leaf.new.sink c.hand_leaf.result) (sym told) c.hand_leaf.ensures

pub returns-else-is_leaf : goal.returns-else-is_leaf
returns-else-is_leaf g c path there =
    let queues : c.queues.result.now ≡ c.args.cluster.now.config.queues = c.queues.ensures ∙ ap (λ (x : Config). x.queues) (c.deref.ensures ∙ c.config-config.ensures) in
    let inside = subst (λ (rows : List QueueRow). c.args.i < length rows) (sym queues) c.requires in
    let at : slice_get c.args.cluster.now.config.queues c.args.i ≡ Some c.index-queues-i.result =
    ap (λ rows. slice_get rows c.args.i) (sym queues) ∙ slice_get_read c.queues.result.now (length c.queues.result.now) c.args.i c.index-queues-i.result refl inside c.index-queues-i.is
    in
    let leaf : c.is_leaf.result ≡ is_leaf c.args.cluster.now.config c.index-queues-i.result.path =
    c.is_leaf.ensures ∙ (λ j. is_leaf ((c.deref-2.ensures ∙ c.config-config.ensures) j) ((c.names.ensures.names ∙ ap (λ (row : QueueRow). row.path) c.row.view_is) j))
    in
    let told = queue-told c.args.cluster.now c.inventory.ensures.configured c.args.i c.index-queues-i.result at false (sym c.if-is_leaf.false ∙ leaf) path there in
    subst (λ ls. TakesAll g.S.LineSink.gives c.args.sink.now ls c.args.sink.now) (sym told) refl
