use Rattle.std.proofs.Common.{◌∙◌, ap, sym}
use Rattle.ynl_config.specs.Earliest.{both, made}
use Rattle.ynl_config.specs.Seen.{labels_view, settings_view}
use Rattle.ynl_config.proofs.Joined.{both_made}
use Rattle.ynl_config.proofs.queues.settings_in.Goals as goal

pub returns : goal.returns
returns c =
    ap (made settings_view) c.both.ensures
    ∙ sym (both_made labels_view c.leaf_in.result c.in_ok-labels.labels)
    ∙ (λ i. both (c.leaf_in.ensures i) (c.in_ok-labels.ensures i))
