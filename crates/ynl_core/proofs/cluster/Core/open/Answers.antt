use Rattle.std.proofs.Common.{sym, subst}
use Rattle.ynl_laws.proofs.Soundness.Working.{working-opening}
use Rattle.ynl_model.specs.Cluster.{opening}
use Rattle.ynl_saved.proofs.Tellable.{tellable-opening}
use Rattle.ynl_core.specs.Reached.{WorksAndIsTold}
use Rattle.ynl_core.proofs.cluster.Core.open.Goals as goal

pub of-requires : goal.of-requires
of-requires c =
    subst (WorksAndIsTold c.in_ok-cluster.cluster.config) (sym c.in_ok-cluster.ensures.state)
    (subst (λ config. WorksAndIsTold config (opening c.args.config)) (sym c.in_ok-cluster.ensures.config)
    (record { works = working-opening c.args.config; told = tellable-opening c.args.config }))
