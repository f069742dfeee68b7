use Rattle.std.proofs.Common.{sym, ap, ◌∙◌}
use Rattle.ynl_model.specs.declared.uses.Use.{Use}
use Rattle.ynl_cluster.specs.Cluster.{label_of, state_in}
use Rattle.ynl_search.proofs.Steps.{maximum-root}
use Rattle.ynl_sights.proofs.ways.margin_of_root.Goals as goal

pub returns : goal.returns
returns c =
    let w = c.args.cluster.now in
    λ i. record { used = (ap (λ (u : Use). u.used) c.used.ensures.value) i; maximum = (c.total.ensures.value ∙ sym (maximum-root (state_in w) (label_of w c.args.p))) i }
