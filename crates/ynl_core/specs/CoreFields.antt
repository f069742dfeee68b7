-- What a cluster's fields mean.
use Rattle.ynl_cluster.specs.Cluster.{state_in}
use Rattle.ynl_search.specs.notes.Shut.{AreShut}
use Rattle.ynl_sights.specs.Lists.{AreListsOf}
use Rattle.ynl_core.specs.declared.cluster.Core.TheInside.{Inside}
use Rattle.ynl_core.specs.Reached.{WorksAndIsTold}
use Rattle.ynl_core.specs.World.{World}

-- the configuration, and the state that the rows mean
abbrev pub world_of : Inside → World
world_of a = record { config = a.cluster.config; state = state_in a.cluster }

-- the state works and is told by its lines, and what is noted of queues and listed of leaves is right
pub record IsWorkingCore (a : Inside) : Type 0 where
  pub working : WorksAndIsTold a.cluster.config (state_in a.cluster)
  pub shut : AreShut a.cluster a.shut
  pub lists : AreListsOf a.cluster.rows a.lists
