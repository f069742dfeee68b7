use Rattle.std.proofs.Common.{ap, ◌∙◌}
use Rattle.ynl_cluster.specs.Cluster.{state_in}
use Rattle.ynl_cluster.specs.Whole.{view_of}
use Rattle.ynl_cluster.proofs.Setting.{stopped-means}
use Rattle.ynl_cluster.proofs.cluster.Cluster.set_stopped.Goals as goal

pub returns-clause-state : goal.returns-clause-state
returns-clause-state c =
    ap (λ stops. state_in (record (view_of c.self.inside) { stops = stops })) c.set.ensures
    ∙ stopped-means c.self.inside c.self.invariant c.args.self.now c.self.view_is c.args.queue c.requires.below_root c.requires.there c.args.stopped
