use Rattle.std.proofs.Common.{◌∙◌, ap, sym}
use Rattle.ynl_config.specs.Earliest.{both, made}
use Rattle.ynl_config.specs.Seen.{rows_view}
use Rattle.ynl_config.proofs.Joined.{made_both}
use Rattle.ynl_config.proofs.written.rows_in.Goals as goal

pub returns : goal.returns
returns c =
    ap (made rows_view) c.both.ensures
    ∙ sym (made_both (λ rows. rows.items) (λ rows. rows.items) c.in_ok-labels.labels c.in_ok-queues.queues)
    ∙ (λ i. both (c.in_ok-labels.ensures i) (c.in_ok-queues.ensures i))
