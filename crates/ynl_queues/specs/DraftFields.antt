-- What the fields of a draft mean.
use Rattle.ynl_model.specs.Queues.{Config}
use Rattle.ynl_queues.specs.declared.draft.Draft.TheInside.{Inside}
use Rattle.ynl_queues.specs.Index.{IsIndexOf}

-- the configuration, of which the index says nothing new
abbrev pub config_of : Inside → Config
config_of a = record { labels = a.labels; queues = a.queues.items; containers_per_heartbeat = a.containers_per_heartbeat; maximum_allocation = a.maximum_allocation }

-- the index is one of this configuration
abbrev pub IsIndexed : Inside → Type 0
IsIndexed a = IsIndexOf (config_of a) a.index
