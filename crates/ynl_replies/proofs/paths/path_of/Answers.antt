-- The queues of the configuration have the paths of the rows.
use Rattle.std.proofs.Common.{◌∙◌}
use Rattle.ynl_replies.proofs.QueuePaths.{row-path}
use Rattle.ynl_replies.proofs.paths.path_of.Goals as goal

pub returns : goal.returns
returns c =
    (λ i. (c.behind-deref.view_is i).path)
    ∙ row-path c.args.cluster.now c.inventory.ensures.configured c.args.queue c.requires.below_root c.requires.there c.deref.result.now (c.deref.ensures ∙ c.config.ensures) c.row_at.result.now c.row_at.ensures
