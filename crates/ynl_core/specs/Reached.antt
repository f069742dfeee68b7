-- What is known of each state that events lead to.
use Rattle.std.specs.Prelude.{IsTrue}
use Rattle.ynl_model.specs.Accepted.{is_accepted}
use Rattle.ynl_model.specs.Cluster.{State}
use Rattle.ynl_model.specs.Queues.{Config}
use Rattle.ynl_laws.specs.Working.{IsWorking}
use Rattle.ynl_saved.proofs.Tellable.{IsTellable}

-- it works; and where the configuration is accepted its lines tell it again
pub record WorksAndIsTold (c : Config) (s : State) : Type 0 where
  pub works : IsWorking c s
  pub told : IsTrue (is_accepted c) → IsTellable c s
