-- A maximum is told where it is not the configured one.
use Rattle.std.proofs.Common.{◌≡◌, ◌==◌, ◌∷◌, ◌∙◌, [], cond, false, sym, ap, subst}
use Rattle.ynl_model.specs.Queues.{configured_maximum, maximum_on}
use Rattle.ynl_inventory.specs.Meaning.{label_at}
use Rattle.ynl_inventory.specs.Parts.{Held}
use Rattle.ynl_cluster.specs.Cluster.{label_of, path_of, state_in}
use Rattle.ynl_saved.specs.declared.lines.StateLine.TheVariants.{Maximum}
use Rattle.ynl_saved.specs.Handing.{Hands}
use Rattle.ynl_saved.specs.Saving.{maximum_lines}
use Rattle.ynl_saved.proofs.Handing.{hands-one}
use Rattle.ynl_snapshots.proofs.saving.queues.hand_maximum.Goals as goal

pub returns : goal.returns
returns g c =
    let w = c.args.cluster.now in
    let queue = path_of w c.args.queue in
    let label = label_of w c.args.p in
    let labelled : c.label.result.now ≡ label = c.label.ensures ∙ ap (λ (h : Held). label_at h.rows.partitions c.args.p) c.inventory.ensures.value in
    let own : c.maximum_share-maximum.result ≡ maximum_on (state_in w).maxima queue label = c.maximum_share-maximum.ensures in
    let configured : c.configured_maximum.result ≡ configured_maximum w.config queue label =
    c.configured_maximum.ensures ∙ (λ i. configured_maximum ((c.deref.ensures ∙ c.config.ensures) i) ((c.names.ensures.names ∙ c.path_of-path.ensures) i) (labelled i))
    in
    let apart : (maximum_on (state_in w).maxima queue label == configured_maximum w.config queue label) ≡ false = sym (λ i. own i == configured i) ∙ sym c.eq.ensures ∙ c.if-eq.false in
    let lines : maximum_lines w.config (state_in w).maxima queue label ≡ Maximum c.path_of-path.result c.label.result.now c.maximum_share-maximum.result ∷ [] =
    ap (λ b. cond b [] (Maximum queue label (maximum_on (state_in w).maxima queue label) ∷ [])) apart
    ∙ (λ i. Maximum (sym c.path_of-path.ensures i) (sym labelled i) (sym own i) ∷ [])
    in
    subst (λ ls. Hands g.S.LineSink.gives c.args.sink.now ls c.take.new.self c.take.result) (sym lines)
    (hands-one g.S.LineSink.gives c.args.sink.now c.take.new.self (Maximum c.path_of-path.result c.label.result.now c.maximum_share-maximum.result) c.take.result c.take.ensures)
