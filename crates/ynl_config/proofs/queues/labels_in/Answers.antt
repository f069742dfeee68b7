use Rattle.std.proofs.Common.{◌∙◌, ap, sym}
use Rattle.ynl_queues.specs.Rows.{access_of}
use Rattle.ynl_config.specs.Earliest.{both, made}
use Rattle.ynl_config.specs.Seen.{labels_view}
use Rattle.ynl_config.proofs.Joined.{made_both}
use Rattle.ynl_config.proofs.queues.labels_in.Goals as goal

pub returns : goal.returns
returns c =
    ap (made labels_view) c.both.ensures
    ∙ sym (made_both access_of (λ rows. rows.items) c.in_ok-access.access c.in_ok-shares.shares)
    ∙ (λ i. both (c.in_ok-access.ensures i) (c.in_ok-shares.ensures i))
