-- What is promised of every run, as statements over the definitions.
use Rattle.std.specs.Prelude.{◌≡◌, ◌≢◌, ℕ, ◌+◌, ◌≤◌, ◌<◌, not, ◌||◌, IsTrue, IsFalse, is_some, List, [], ◌∷◌, ◌++◌, map, filter, take, length, All, AllPairs, Some, None, IfSome}
use Rattle.ynl_resource.specs.Amounts.{fits_in}
use Rattle.ynl_resource.specs.Names.{same_name, same_label, is_within}
use Rattle.ynl_resource.specs.declared.names.Name.{Name}
use Rattle.ynl_resource.specs.declared.labels.Label.{Label}
use Rattle.ynl_resource.specs.declared.paths.Path.{Path}
use Rattle.ynl_resource.specs.Refusals.{first_that_holds}
use Rattle.ynl_model.specs.Nodes.{Node, clock_limit}
use Rattle.ynl_model.specs.Queues.{Config, maximum_on}
use Rattle.ynl_model.specs.Accepted.{is_accepted}
use Rattle.ynl_model.specs.Cluster.{State, is_master, of_app_that, Container, containers_on, node_of, clock, sizes, used, maximum}
use Rattle.ynl_model.specs.Events.{Event, Lost, Relabel, Maximum, reasons, state_after, replies_to}
use Rattle.ynl_model.specs.View.{track, view, events_of, places_of, at_places, is_sole, restrict, seen}
use Rattle.ynl_model.specs.declared.nodes.Tracked.{Tracked}

-- the replies at the places of the view are, one by one, those of the cluster that holds the tenant alone and is given only the view
abbrev pub HasSameReplies : Config → List Event → Name → Label → Type 0
HasSameReplies c events t p =
    at_places (replies_to c events) (places_of (view c events t p)) ≡ map Some (replies_to (restrict c t) (events_of (view c events t p)))

-- after each event the partition looks as it does in that cluster after the view of the events so far
abbrev pub LooksTheSame : Config → List Event → Name → Label → Type 0
LooksTheSame c events t p =
    (k : ℕ) → k ≤ length events → seen (state_after c (take k events)) p ≡ seen (state_after (restrict c t) (events_of (view c (take k events) t p))) p

-- where the use of a queue rises on a partition, it is then at most the queue's maximum there
abbrev pub KeepsMaximum : State → State → Path → Label → Type 0
KeepsMaximum before after queue p = IsFalse (fits_in (used after queue p) (used before queue p)) → IsTrue (fits_in (used after queue p) (maximum after queue p))

-- no event of the list takes a queue above its maximum on the partition by an allocation
abbrev pub NeverAllocatesOver : Config → List Event → Label → Type 0
NeverAllocatesOver c events p =
    (k : ℕ) (queue : Path) → k < length events → KeepsMaximum (state_after c (take k events)) (state_after c (take (k + 1) events)) queue p

-- the headline: a tenant that alone may use an exclusive partition gets there, after each event, exactly the replies and containers
-- of a cluster that holds only that tenant and is given only the view, and no allocation takes a queue above its maximum there
pub record Headline (c : Config) (events : List Event) (t : Name) (p : Label) : Type 0 where
  pub replies : HasSameReplies c events t p
  pub containers : LooksTheSame c events t p
  pub maximum : NeverAllocatesOver c events p

-- a tenant that is the sole one of a partition, under an accepted configuration, has all that whatever the events are
abbrev pub IsIsolated : Type 0
IsIsolated = (c : Config) (events : List Event) (t : Name) (p : Label) → IsTrue (is_accepted c) → IsTrue (is_sole c t p) → Headline c events t p

-- in every partition, no allocation takes a queue above its maximum
abbrev pub IsNeverOver : Type 0
IsNeverOver = (c : Config) (events : List Event) (p : Label) → NeverAllocatesOver c events p

-- an event is not refused: none of the reasons against it holds
abbrev pub IsUnrefused : Config → State → Event → Type 0
IsUnrefused c s event = first_that_holds (reasons c s event) ≡ None

-- a node of this name stands on the partition
abbrev pub HasNodeOn : State → Name → Label → Type 0
HasNodeOn s name p = (node : Node) × (node_of s name ≡ Some node) × (node.label ≡ p)

-- an event that can bring a queue above its maximum on a partition: a node that stands there is lost, or goes to another label,
-- or the maximum there of the queue, or of one above it, is set to less than it is
abbrev pub LowersMaximum : State → Event → Path → Label → Type 0
LowersMaximum s (Lost name) queue p = HasNodeOn s name p
LowersMaximum s (Relabel name label) queue p = HasNodeOn s name p × (label ≢ p)
LowersMaximum s (Maximum above label share) queue p = (label ≡ p) × IsTrue (is_within above queue) × (share < maximum_on s.maxima above p)
LowersMaximum s _ queue p = ⊥

-- an event that takes a queue of a partition from at most its maximum to above it is such an event, and is not refused
abbrev pub IsOnlyLoweredInto : Type 0
IsOnlyLoweredInto =
    (c : Config) (events : List Event) (event : Event) (queue : Path) (p : Label)
    → IsTrue (fits_in (used (state_after c events) queue p) (maximum (state_after c events) queue p))
    → IsFalse (fits_in (used (state_after c (events ++ event ∷ [])) queue p) (maximum (state_after c (events ++ event ∷ [])) queue p))
    → IsUnrefused c (state_after c events) event × LowersMaximum (state_after c events) event queue p

-- a node without its stamp
abbrev pub without_stamp : Node → Tracked
without_stamp node = record { name = node.name; label = node.label; size = node.size }

-- the track is the nodes of the cluster
abbrev pub IsTracked : Type 0
IsTracked = (c : Config) (events : List Event) → track c events ≡ map without_stamp (state_after c events).nodes

-- each event of a list gets one reply
abbrev pub HasOneReplyEach : Type 0
HasOneReplyEach = (c : Config) (events : List Event) → length (replies_to c events) ≡ length events

-- a container on a partition has an id of that partition, and its node is there
abbrev pub IsStanding : State → Label → Container → Type 0
IsStanding s p container = (container.id.label ≡ p) × IfSome (node_of s container.node) (λ node. node.label ≡ p) × IsTrue (is_some (node_of s container.node))

-- a master stands on its application's home label
abbrev pub IsAtHome : State → Container → Type 0
IsAtHome s container = IsTrue (not (is_master container) || of_app_that (λ app. same_label app.home container.id.label) s.leaves container)

-- clocks and stamps are within their limits, nodes differ, the ids on each partition rise, and so differ, containers stand on their nodes, and no node is overfull
pub record IsSound (c : Config) (s : State) : Type 0 where
  pub clocks : (p : Label) → clock s p ≤ clock_limit c.labels p
  pub stamps : All (λ (node : Node). node.stamp ≤ clock s node.label) s.nodes
  pub names : AllPairs (λ (a b : Node). a.name ≢ b.name) s.nodes
  -- of two containers on a partition the earlier has the smaller number
  pub rising : (p : Label) → AllPairs (λ (a b : Container). a.id.clock < b.id.clock) (containers_on s p)
  pub standing : (p : Label) → All (IsStanding s p) (containers_on s p)
  pub not_overfull : All (λ (node : Node). IsTrue (fits_in (sizes (filter (λ container. same_name container.node node.name) (containers_on s node.label))) node.size)) s.nodes

-- whatever the events are, the state after them is sound
abbrev pub IsAlwaysSound : Type 0
IsAlwaysSound = (c : Config) (events : List Event) → IsSound c (state_after c events)

-- in each state, masters stand at home
abbrev pub AreMastersAtHome : Type 0
AreMastersAtHome = (c : Config) (events : List Event) (p : Label) → All (IsAtHome (state_after c events)) (containers_on (state_after c events) p)
