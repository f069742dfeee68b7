-- A state that is told.
use Rattle.ynl_model.specs.Queues.{Config}
use Rattle.ynl_model.specs.Cluster.{State}
use Rattle.ynl_cluster.specs.Cluster.{state_in}
use Rattle.ynl_snapshots.specs.declared.saving.Saving.TheInside.{Inside}

-- a configuration and a state under it
pub record Saved : Type 0 where
  pub config : Config
  pub state : State

abbrev pub saved_of : Inside → Saved
saved_of a = record { config = a.cluster.now.config; state = state_in a.cluster.now }
