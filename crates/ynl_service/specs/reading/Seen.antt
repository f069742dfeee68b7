-- A cluster, as an explanation sees it.
use Rattle.ynl_model.specs.Queues.{Config}
use Rattle.ynl_model.specs.Cluster.{State}
use Rattle.ynl_cluster.specs.Cluster.{state_in}
use Rattle.ynl_service.specs.declared.reading.reading.Reading.TheInside.{Inside}

-- what a cluster is configured with, and its state
pub record Seen : Type 0 where
  pub config : Config
  pub state : State

-- what a reading shows
abbrev pub seen_of : Inside → Seen
seen_of r = record { config = r.cluster.now.config; state = state_in r.cluster.now }
