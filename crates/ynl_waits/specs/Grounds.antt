-- The partitions where a request may go, with the nodes there and what is free on each.
use Rattle.std.specs.Prelude.{◌≡◌, Bool, ◌==◌, not, List, [], map, filter, fold, length, Option, Some, None, if◌then◌else◌}
use Rattle.std.specs.List.{list_any}
use Rattle.std.specs.Ordering.{is_gt}
use Rattle.ynl_resource.specs.Amounts.{nothing, greater_of, fits_in}
use Rattle.ynl_resource.specs.declared.amounts.Resource.{Resource}
use Rattle.ynl_resource.specs.Names.{name_order, same_label}
use Rattle.ynl_resource.specs.declared.labels.Label.{Label}
use Rattle.ynl_model.specs.declared.nodes.Node.{Node}
use Rattle.ynl_model.specs.declared.proposals.What.{What}
use Rattle.ynl_model.specs.Nodes.{partition_labels}
use Rattle.ynl_model.specs.Queues.{Config}
use Rattle.ynl_model.specs.Cluster.{State, is_spent, free}
use Rattle.ynl_model.specs.Check.{comes_as_guest}
pub use Rattle.ynl_waits.specs.declared.grounds.Spot.{Spot}
pub use Rattle.ynl_waits.specs.declared.grounds.Ground.{Ground}

-- a node, and what is free on it
abbrev pub spot : State → Node → Spot
spot s node = record { node = node; free = free s node }

-- what is said to be free on a node is
abbrev pub IsSpot : State → Spot → Type 0
IsSpot s spot = spot.free ≡ free s spot.node

-- all nodes, each with what is free on it
abbrev pub all_spots : State → List Spot
all_spots s = map (spot s) s.nodes

-- those of them that are in a partition
abbrev pub spots_on : Label → List Spot → List Spot
spots_on label spots = filter (λ spot. same_label spot.node.label label) spots

-- a partition: whether its clock is spent, and its nodes
unfoldable pub ground : Config → State → Label → Ground
ground c s label = record { label = label; is_spent = is_spent c.labels s label; spots = spots_on label (all_spots s) }

-- whether a partition has a node
abbrev pub has_nodes : Ground → Bool
has_nodes ground = not (length ground.spots == 0)

-- the partitions that take guests of this kind, as configured
abbrev pub guest_labels : Config → What → List Label
guest_labels c what = filter (λ label. comes_as_guest c label what) (partition_labels c.labels)

-- those of them with a node: there a request may go as a guest
unfoldable pub guest_grounds : Config → State → What → List Ground
guest_grounds c s what = filter has_nodes (map (ground c s) (guest_labels c what))

-- the nodes that have room for a size, unless the clock is spent
abbrev pub open_spots : Resource → Ground → List Spot
open_spots size ground = if ground.is_spent then [] else filter (λ spot. fits_in size spot.free) ground.spots

-- whether a size fits what is free on any node
abbrev pub fits_any : Resource → List Spot → Bool
fits_any size spots = list_any (λ spot. fits_in size spot.free) spots

-- the most memory that is free on one of some nodes, and the most vcores
abbrev pub most_free : List Spot → Resource
most_free spots = fold (λ most spot. greater_of most spot.free) nothing spots

-- the one of two nodes whose name is first
abbrev pub earlier : Option Spot → Spot → Option Spot
earlier None spot = Some spot
earlier (Some first) spot = if is_gt (name_order first.node.name spot.node.name) then Some spot else Some first

-- the first of some nodes by name
abbrev pub first_by_name : List Spot → Option Spot
first_by_name spots = fold earlier None spots
