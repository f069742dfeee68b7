use Rattle.std.proofs.Common.{subst}
use Rattle.std.proofs.lemmas.Result.{IfOk-weaker}
use Rattle.ynl_core.specs.Isolated.{AreIsolated}
use Rattle.ynl_core.specs.Runs.{IsRunFrom}
use Rattle.ynl_core.proofs.Alone.{are_isolated}
use Rattle.ynl_core.proofs.running.run.Goals as goal

pub returns-clause-isolated : goal.returns-clause-isolated
returns-clause-isolated c =
    IfOk-weaker c.run_from.result (λ run. IsRunFrom c.in_ok-open.field-0 c.args.events.now run.answers run.core) (λ run. AreIsolated c.args.config c.args.events.now run.answers run.core)
    (λ run made. are_isolated c.args.config c.args.events.now run.answers run.core (subst (λ w. IsRunFrom w c.args.events.now run.answers run.core) c.in_ok-open.ensures made)) c.run_from.ensures.run
