-- How long a reply can be, and what a question is answered: what one who keeps the replies has to know before an event is applied.
use Rattle.std.specs.Prelude.{◌≡◌, ◌≤◌, List, length}
use Rattle.ynl_resource.specs.declared.names.Name.{Name}
use Rattle.ynl_model.specs.Queues.{Config}
use Rattle.ynl_model.specs.declared.containers.Placed.{Placed as Container}
use Rattle.ynl_model.specs.Cluster.{State}
use Rattle.ynl_model.specs.Events.{step}
use Rattle.ynl_model.specs.declared.events.Event.TheVariants.{Heartbeat}
use Rattle.ynl_model.specs.declared.replies.Reply.TheVariants.{Placed}

-- a heartbeat places so many containers at most as the configuration says
abbrev pub AreHeartbeatsBounded : Type 0
AreHeartbeatsBounded =
    (c : Config) (s : State) (name : Name) (placed : List Container) → (step c s (Heartbeat name)).reply ≡ Placed placed → length placed ≤ c.containers_per_heartbeat
