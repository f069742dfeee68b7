-- What one tenant's partition sees of a list of events, and the cluster of that tenant alone.
use Rattle.std.specs.Prelude.{ℕ, ◌+◌, Bool, false, not, ◌&&◌, ◌||◌, nat_le, ◌==◌, List, [], ◌∷◌, ◌++◌, map, filter, find, length, is_some, slice_get, Option, Some, None, if◌then◌else◌}
use Rattle.std.specs.List.{list_any, list_all}
use Rattle.std.specs.Option.{option_map_or}
use Rattle.ynl_resource.specs.declared.amounts.Resource.{Resource}
use Rattle.ynl_resource.specs.Names.{same_name, same_label, is_default, top_level, same_path, is_within}
use Rattle.ynl_resource.specs.declared.names.Name.{Name}
use Rattle.ynl_resource.specs.declared.labels.Label.{Label}
use Rattle.ynl_resource.specs.declared.paths.Path.{Path}
use Rattle.ynl_resource.specs.Tables.{without}
pub use Rattle.ynl_model.specs.declared.nodes.Tracked.{Tracked}
use Rattle.ynl_model.specs.Nodes.{Node, has_label, is_exclusive, nodes_of}
use Rattle.ynl_resource.specs.Ranges.{most_nodes}
use Rattle.ynl_model.specs.Queues.{Config, may_use}
use Rattle.ynl_model.specs.Cluster.{State, Container, containers_on, clock}
use Rattle.ynl_model.specs.Events.{Event, Register, Lost, Relabel, Heartbeat, Exited, Submit, Ask, Release, Finish, Stop, Start, Poll, Usage, Propose, Commit, Maximum}

-- ---- the track: where the nodes are, told from node events alone

-- the tracked node of a name
abbrev pub tracked : List Tracked → Name → Option Tracked
tracked nodes name = find (λ node. same_name node.name name) nodes

-- whether a name is tracked
abbrev pub is_there : List Tracked → Name → Bool
is_there nodes name = is_some (tracked nodes name)

-- whether a name is tracked in a partition
abbrev pub is_in : List Tracked → Name → Label → Bool
is_in nodes name label = option_map_or (λ node. same_label node.label label) (tracked nodes name) false

-- whether a partition has a place for one more node
abbrev pub has_place : List Tracked → Label → Bool
has_place nodes label = not (nat_le most_nodes (length (filter (λ node. same_label node.label label) nodes)))

-- whether a node may register: the label is configured, the name is new, and the partition has a place
abbrev pub registers : Config → List Tracked → Name → Label → Bool
registers c nodes name label = has_label c.labels label && not (is_there nodes name) && has_place nodes label

-- whether a node may be relabelled: the label is configured, the node is there with another, and the partition has a place
abbrev pub relabels : Config → List Tracked → Name → Label → Bool
relabels c nodes name label = has_label c.labels label && is_there nodes name && not (is_in nodes name label) && has_place nodes label

-- the nodes without one
abbrev pub dropped : List Tracked → Tracked → List Tracked
dropped nodes node = without (λ other. same_name other.name node.name && same_label other.label node.label) nodes

-- the nodes with one more
abbrev pub joined : List Tracked → Name → Label → Resource → List Tracked
joined nodes name label size = nodes ++ record { name = name; label = label; size = size } ∷ []

-- the track after an event: only an accepted Register, Lost or Relabel moves it
unfoldable pub track_step : Config → List Tracked → Event → List Tracked
track_step c nodes (Register name label size) = if registers c nodes name label then joined nodes name label size else nodes
track_step c nodes (Lost name) = option_map_or (dropped nodes) (tracked nodes name) nodes
track_step c nodes (Relabel name label) =
    if relabels c nodes name label then option_map_or (λ node. joined (dropped nodes node) name label node.size) (tracked nodes name) nodes else nodes
track_step c nodes _ = nodes

-- the track after a list of events
abbrev pub track_from : Config → List Tracked → List Event → List Tracked
track_from c nodes [] = nodes
track_from c nodes (event ∷ events) = track_from c (track_step c nodes event) events

-- the track after all events of a cluster
abbrev pub track : Config → List Event → List Tracked
track c events = track_from c [] events

-- ---- the view

-- the event itself where the test holds, and else nothing
abbrev pub kept_if : Bool → Event → Option Event
kept_if test event = if test then Some event else None

-- what the tenant's partition sees of an event, by the track before it
unfoldable pub seen_of : Name → Label → Config → List Tracked → Event → Option Event
-- what is done in the tenant's queues, and to its applications
seen_of t p c nodes (Submit queue app user label master) = kept_if (is_within (top_level t) queue) (Submit queue app user label master)
seen_of t p c nodes (Stop queue) = kept_if (is_within (top_level t) queue) (Stop queue)
seen_of t p c nodes (Start queue) = kept_if (is_within (top_level t) queue) (Start queue)
seen_of t p c nodes (Finish tenant app) = kept_if (same_name tenant t) (Finish tenant app)
-- and of these, what names the partition
seen_of t p c nodes (Ask tenant app label priority count size) = kept_if (same_name tenant t && same_label label p) (Ask tenant app label priority count size)
seen_of t p c nodes (Poll tenant app label) = kept_if (same_name tenant t && same_label label p) (Poll tenant app label)
seen_of t p c nodes (Usage queue label) = kept_if (same_label label p && is_within (top_level t) queue) (Usage queue label)
seen_of t p c nodes (Release tenant id) = kept_if (same_name tenant t && same_label id.label p) (Release tenant id)
-- and what sets a maximum there
seen_of t p c nodes (Maximum queue label share) = kept_if (same_label label p && is_within (top_level t) queue) (Maximum queue label share)
-- what happens on a node of the partition, whatever tenant a Commit names
seen_of t p c nodes (Heartbeat node) = kept_if (is_in nodes node p) (Heartbeat node)
seen_of t p c nodes (Exited node id) = kept_if (is_in nodes node p) (Exited node id)
seen_of t p c nodes (Propose node) = kept_if (is_in nodes node p) (Propose node)
seen_of t p c nodes (Commit proposal) = kept_if (is_in nodes proposal.node p) (Commit proposal)
-- a node that comes into the partition registers there, and one that goes is lost
seen_of t p c nodes (Register node label size) = kept_if (registers c nodes node label && same_label label p) (Register node label size)
seen_of t p c nodes (Lost node) = kept_if (is_in nodes node p) (Lost node)
seen_of t p c nodes (Relabel node label) =
    if relabels c nodes node label
    then (if same_label label p
    then option_map_or (λ found. Some (Register node p found.size)) (tracked nodes node) None
    else kept_if (is_in nodes node p) (Lost node))
    else None

-- an event of the view, with its place in the list
pub record Viewed : Type 0 where
  pub place : ℕ
  pub event : Event

-- one more event at the front, if there is one
abbrev pub with_seen : ℕ → Option Event → List Viewed → List Viewed
with_seen place None rest = rest
with_seen place (Some event) rest = record { place = place; event = event } ∷ rest

-- the view of the events from a place on, by the track before them
abbrev pub view_from : Name → Label → Config → ℕ → List Tracked → List Event → List Viewed
view_from t p c place nodes [] = []
view_from t p c place nodes (event ∷ events) =
    with_seen place (seen_of t p c nodes event) (view_from t p c (place + 1) (track_step c nodes event) events)

-- the view: what a tenant's partition sees of a list of events, in order and with their places
abbrev pub view : Config → List Event → Name → Label → List Viewed
view c events t p = view_from t p c 0 [] events

-- the events of a view
abbrev pub events_of : List Viewed → List Event
events_of seen = map (λ viewed. viewed.event) seen

-- the places of a view
abbrev pub places_of : List Viewed → List ℕ
places_of seen = map (λ viewed. viewed.place) seen

-- what stands at some places of a list
abbrev pub at_places : {X : Type 0} → List X → List ℕ → List (Option X)
at_places xs places = map (slice_get xs) places

-- ---- the tenant alone

-- the top-level queues
abbrev pub top_levels : Config → List Path
top_levels c = filter (λ queue. length queue == 1) (map (λ row. row.path) c.queues)

-- whether a tenant alone may use a configured exclusive label
unfoldable pub is_sole : Config → Name → Label → Bool
is_sole c t p =
    not (is_default p) && has_label c.labels p && is_exclusive c.labels p
    && list_any (same_path (top_level t)) (top_levels c) && may_use c (top_level t) p
    && list_all (λ queue. same_path queue (top_level t) || not (may_use c queue p)) (top_levels c)

-- the configuration without the other tenants' queues
abbrev pub restrict : Config → Name → Config
restrict c t = record c { queues = filter (λ row. is_within (top_level t) row.path) c.queues }

-- what is seen of a partition: its nodes, the containers on them, and its clock
pub record Seen : Type 0 where
  pub nodes : List Node
  pub containers : List Container
  pub clock : ℕ

-- what is seen of a partition in a state
abbrev pub seen : State → Label → Seen
seen s p = record { nodes = nodes_of s.nodes p; containers = containers_on s p; clock = clock s p }
