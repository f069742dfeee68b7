use Rattle.std.proofs.Common.{◌∙◌}
use Rattle.ynl_cluster.proofs.Shares.{settings-mean}
use Rattle.ynl_cluster.proofs.cluster.Cluster.leaf_settings.Goals as goal

pub returns : goal.returns
returns c =
    settings-mean c.self.inside c.self.invariant c.args.self.now c.self.view_is c.args.queue c.requires.below_root c.requires.there c.deref.result.now c.deref.ensures c.behind-deref.inside.leaf
    (λ d. (λ i. (c.behind-deref.view_is i).leaf) ∙ (λ i. (c.row_at.ensures d i).leaf))
