-- A heartbeat goes on by one placement.
use Rattle.std.proofs.Common.{◌≡◌, ℕ, zero, suc, cond, [], ◌∷◌, None, Some, refl, ap}
use Rattle.std.specs.Option.{option_map_or}
use Rattle.ynl_model.specs.declared.nodes.Node.{Node}
use Rattle.ynl_model.specs.Queues.{Config}
use Rattle.ynl_model.specs.Cluster.{State, free, is_spent}
use Rattle.ynl_model.specs.Service.{Item, choice, guests_for, is_eligible}
use Rattle.ynl_model.specs.Changes.{beat, changed_at, container_of, next_item, place}

-- a node with another stamp
abbrev pub restamped : ℕ → Node → Node
restamped stamp node = record { name = node.name; label = node.label; size = node.size; stamp = stamp }

-- the stamp of a node has no part in what is chosen for it
pub choice-stamp : (c : Config) (s : State) (node : Node) (stamp : ℕ) → choice c s (restamped stamp node) ≡ choice c s node
unfolding choice guests_for is_eligible free
choice-stamp c s node stamp = refl

pub next-stamp : (c : Config) (s : State) (node : Node) (stamp : ℕ) → next_item c s (restamped stamp node) ≡ next_item c s node
next-stamp c s node stamp = ap (λ o. cond (is_spent c.labels s node.label) None o) (choice-stamp c s node stamp)

-- nothing is placed where nothing is next
pub beat-none : (c : Config) (node : Node) (times : ℕ) (s : State) → next_item c s node ≡ None → beat c node times s ≡ record { placed = []; state = s }
unfolding beat
beat-none c node zero s none = refl
beat-none c node (suc times) s none = ap (λ o. option_map_or (λ (item : Item). record {
  placed = container_of c s node item ∷ (beat c node times (place c node item s)).placed;
  state = (beat c node times (place c node item s)).state;
}) o (record { placed = []; state = s })) none

-- where something is next it is placed, and then the rest
pub beat-some : (c : Config) (node : Node) (times : ℕ) (s : State) (item : Item) → next_item c s node ≡ Some item
    → beat c node (suc times) s ≡ record { placed = container_of c s node item ∷ (beat c node times (place c node item s)).placed; state = (beat c node times (place c node item s)).state }
unfolding beat
beat-some c node times s item some = ap (λ o. option_map_or (λ (item : Item). record {
  placed = container_of c s node item ∷ (beat c node times (place c node item s)).placed;
  state = (beat c node times (place c node item s)).state;
}) o (record { placed = []; state = s })) some

pub beat-end : (c : Config) (node : Node) (s : State) → beat c node zero s ≡ record { placed = []; state = s }
unfolding beat
beat-end c node s = refl

-- nor has it in a whole heartbeat
pub beat-stamp : (c : Config) (node : Node) (stamp times : ℕ) (s : State) → beat c (restamped stamp node) times s ≡ beat c node times s
unfolding beat place changed_at container_of
beat-stamp c node stamp zero s = refl
beat-stamp c node stamp (suc times) s = (λ i. option_map_or (λ (item : Item). record {
  placed = container_of c s node item ∷ (beat-stamp c node stamp times (place c node item s) i).placed;
  state = (beat-stamp c node stamp times (place c node item s) i).state;
}) (next-stamp c s node stamp i) (record { placed = []; state = s }))
