-- What the fields of a journal's first cluster mean.
use Rattle.std.specs.Prelude.{⊤, IsTrue, List}
use Rattle.ynl_model.specs.Accepted.{is_accepted}
use Rattle.ynl_model.specs.Cluster.{opening}
use Rattle.ynl_model.specs.Events.{after}
use Rattle.ynl_model.specs.Queues.{Config}
use Rattle.ynl_model.specs.declared.events.Event.{Event}
use Rattle.ynl_core.specs.World.{World}
use Rattle.ynl_journal.specs.declared.start.Beginning.{Beginning}
use Rattle.ynl_journal.specs.declared.start.Beginning.TheVariants.{Opened, Resumed}
use Rattle.ynl_journal.specs.declared.start.Start.TheInside.{Inside}

-- the cluster that events lead to, from one that is just opened
abbrev pub led_to : Config → List Event → World
led_to c events = record { config = c; state = after c (opening c) events }

abbrev pub cluster_at : Beginning → World
cluster_at (Opened c events) = led_to c events
cluster_at (Resumed core) = core

abbrev pub cluster_of : Inside → World
cluster_of s = cluster_at s.at

-- a cluster that has a state can be copied: its configuration is accepted
abbrev pub CanBeCopied : Beginning → Type 0
CanBeCopied (Opened c events) = ⊤
CanBeCopied (Resumed core) = IsTrue (is_accepted core.config)

abbrev pub IsCopied : Inside → Type 0
IsCopied s = CanBeCopied s.at
