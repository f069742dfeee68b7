use Rattle.std.proofs.Common.{sym, subst}
use Rattle.ynl_laws.specs.Working.{IsWorking}
use Rattle.ynl_cluster.specs.Cluster.{ClusterView, state_in}
use Rattle.ynl_saved.proofs.Restored.{restored-works}
use Rattle.ynl_saved.proofs.Tellable.{IsTellable}
use Rattle.ynl_core.specs.Reached.{WorksAndIsTold}
use Rattle.ynl_core.proofs.cluster.Core.resume.Goals as goal

pub of-requires : goal.of-requires
of-requires c =
    let told = c.args.told.cluster in
    let tells = c.requires.1 in
    subst (λ (w : ClusterView). WorksAndIsTold w.config (state_in w)) (sym c.into_cluster.ensures) (record {
      works = subst (IsWorking told.config) tells.state (restored-works told.config c.requires.0 tells.known);
      told = λ _. subst (IsTellable told.config) tells.state tells.known.saveable.tellable;
    })
