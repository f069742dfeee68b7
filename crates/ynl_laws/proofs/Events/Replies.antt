-- How long a reply can be, and what a question is answered.
use Rattle.std.proofs.Common.{◌≡◌, ℕ, zero, suc, ◌≤◌, List, [], ◌∷◌, length, Option, Some, None, subst, arith}
use Rattle.std.specs.Option.{option_map_or}
use Rattle.ynl_resource.specs.Refusals.{first_that_holds}
use Rattle.ynl_resource.specs.declared.refusals.Refusal.{Refusal}
use Rattle.ynl_model.specs.declared.nodes.Node.{Node}
use Rattle.ynl_model.specs.Queues.{Config}
use Rattle.ynl_model.specs.declared.containers.Placed.{Placed as Container}
use Rattle.ynl_model.specs.Cluster.{State, node_of}
use Rattle.ynl_model.specs.Service.{Item}
use Rattle.ynl_model.specs.Changes.{Beat, beat, next_item, place, container_of}
use Rattle.ynl_model.specs.Events.{answered, where_there, served, reasons, accepted, step}
use Rattle.ynl_model.specs.declared.events.Event.TheVariants.{Heartbeat}
use Rattle.ynl_model.specs.declared.replies.Reply.TheVariants.{Refused, Placed}
use Rattle.ynl_laws.specs.Replies.{AreHeartbeatsBounded}

beat-bounded : (c : Config) (node : Node) (times : ℕ) (s : State) → length (beat c node times s).placed ≤ times
unfolding beat
beat-bounded c node zero s = grind (arith)
beat-bounded c node (suc times) s = go (next_item c s node) (λ item. beat-bounded c node times (place c node item s))
  where
    go : (o : Option Item) → ((item : Item) → length (beat c node times (place c node item s)).placed ≤ times) → length (option_map_or {U = Beat}
        (λ item. record {
          placed = container_of c s node item ∷ (beat c node times (place c node item s)).placed;
          state = (beat c node times (place c node item s)).state;
        })
        o (record { placed = []; state = s })).placed ≤ suc times
    go None less = grind (arith)
    go (Some item) less = let rest : length (beat c node times (place c node item s)).placed ≤ times = less item in grind (arith, rest)

pub are_heartbeats_bounded : AreHeartbeatsBounded
unfolding step accepted
are_heartbeats_bounded c s name placed e = go (first_that_holds (reasons c s (Heartbeat name))) (node_of s name) e
  where
    go : (why : Option Refusal) (o : Option Node) →
        (option_map_or (λ refusal. answered s (Refused refusal)) why (where_there o s (λ node. served (beat c node c.containers_per_heartbeat s)))).reply ≡ Placed placed → length placed ≤ c.containers_per_heartbeat
    go (Some refusal) o k = cc
    go None None k = cc
    go None (Some node) k = subst (λ placed. length placed ≤ c.containers_per_heartbeat) (same (beat c node c.containers_per_heartbeat s).placed k) (beat-bounded c node c.containers_per_heartbeat s)
      where
        same : (others : List Container) → Placed others ≡ Placed placed → others ≡ placed
        same others k = cc
