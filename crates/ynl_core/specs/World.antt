-- A cluster as a contract sees it, and what answering an event means.
use Rattle.std.specs.Prelude.{◌≡◌, List, Option, Some, None}
use Rattle.ynl_resource.specs.declared.refusals.Refusal.{Refusal}
use Rattle.ynl_model.specs.declared.containers.Placed.{Placed}
use Rattle.ynl_model.specs.declared.events.Event.{Event}
use Rattle.ynl_model.specs.declared.replies.Reply.{Reply}
use Rattle.ynl_model.specs.declared.replies.Reply.TheVariants as reply
use Rattle.ynl_model.specs.Queues.{Config}
use Rattle.ynl_model.specs.Cluster.{State, opening}
use Rattle.ynl_model.specs.Events.{step}

-- what a cluster is configured with, and its state
pub record World : Type 0 where
  pub config : Config
  pub state : State

-- a cluster at first
abbrev pub opened : Config → World
opened c = record { config = c; state = opening c }

-- the cluster after an event
abbrev pub stepped : World → Event → World
stepped old event = record { config = old.config; state = (step old.config old.state event).state }

-- the reply is the step's, and the cluster is the one that the step leaves
pub record Answers (old : World) (event : Event) (new : World) (reply : Reply) : Type 0 where
  pub told : reply ≡ (step old.config old.state event).reply
  pub left : new ≡ stepped old event

-- the reply to what is told no more: why it is refused, or that it was done
abbrev pub done_unless : Option Refusal → Reply
done_unless (Some refusal) = reply.Refused refusal
done_unless None = reply.Done

-- the reply to a heartbeat: why it is refused, or what it placed
abbrev pub beaten : Option Refusal → List Placed → Reply
beaten (Some refusal) placed = reply.Refused refusal
beaten None placed = reply.Placed placed
