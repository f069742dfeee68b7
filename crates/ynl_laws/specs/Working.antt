-- What every state keeps: what is known of applications and containers, nodes with names of their own, ids that rise, and sizes and counts in range.
use Rattle.std.specs.Prelude.{◌≡◌, ℕ, ◌≤◌, ◌<◌, Bool, true, false, ⊤, List, [], ◌∷◌, map, filter, find, length, is_some, Some}
use Rattle.std.specs.List.{AllByRecursion}
use Rattle.std.specs.Option.{option_map_or}
use Rattle.ynl_resource.specs.declared.amounts.Resource.{Resource}
use Rattle.ynl_resource.specs.Amounts.{fits_in, IsSize}
use Rattle.ynl_resource.specs.Ranges.{most_nodes}
use Rattle.ynl_resource.specs.Names.{same_name, same_label, tenant_of}
use Rattle.ynl_resource.specs.declared.names.Name.{Name}
use Rattle.ynl_resource.specs.declared.labels.Label.{Label}
use Rattle.ynl_resource.specs.declared.paths.Path.{Path}
use Rattle.ynl_model.specs.declared.nodes.Node.{Node}
use Rattle.ynl_model.specs.Nodes.{nodes_of, has_label, clock_limit}
use Rattle.ynl_model.specs.Queues.{Config}
use Rattle.ynl_model.specs.Applications.{LeafApps, leaf_of}
use Rattle.ynl_model.specs.declared.containers.Placed.{Placed as Container}
use Rattle.ynl_model.specs.Cluster.{State, Partition, is_partition, sizes}
use Rattle.ynl_model.specs.declared.events.Event.{Event}
use Rattle.ynl_model.specs.declared.events.Event.TheVariants.{Register, Submit, Ask, Commit}
use Rattle.ynl_model.specs.View.{tracked}
use Rattle.ynl_model.specs.declared.nodes.Tracked.{Tracked}
use Rattle.ynl_model.specs.Promises.{without_stamp}

-- ---- applications and containers

-- an application is found by its tenant and name
abbrev pub IsKnown : List LeafApps → Path → Name → Type 0
IsKnown leaves leaf name = leaf_of leaves (tenant_of leaf) name ≡ Some leaf

-- each live application of some rows is known
abbrev pub KnowsAll : List LeafApps → List LeafApps → Type 0
KnowsAll leaves rows = AllByRecursion (λ row. AllByRecursion (λ app. IsKnown leaves app.leaf app.name) row.apps) rows

-- the leaf of each container is found
abbrev pub UsesAll : List LeafApps → List Container → Type 0
UsesAll leaves containers = AllByRecursion (λ container. is_some (leaf_of leaves container.tenant container.app) ≡ true) containers

-- and that of each container of some partitions
abbrev pub EachUses : List LeafApps → List Partition → Type 0
EachUses leaves rows = AllByRecursion (λ row. UsesAll leaves row.containers) rows

-- each live application is known, and each container's leaf
pub record Kept (s : State) : Type 0 where
  pub apps : KnowsAll s.leaves s.leaves
  pub uses : EachUses s.leaves s.partitions

-- ---- nodes

-- each two elements, the earlier one first
abbrev pub Pairs : {X : Type 0} → (X → X → Type 0) → List X → Type 0
Pairs R [] = ⊤
Pairs R (x ∷ xs) = AllByRecursion (R x) xs × Pairs R xs

-- the nodes without their stamps
abbrev pub places : State → List Tracked
places s = map without_stamp s.nodes

-- no two nodes have one name
abbrev pub Apart : List Tracked → Type 0
Apart nodes = Pairs (λ a b. same_name a.name b.name ≡ false) nodes

-- a node is there, but for its stamp
abbrev pub Stands : State → Node → Type 0
Stands s node = tracked (places s) node.name ≡ Some (without_stamp node)

-- ---- containers on nodes

-- the containers on a partition, by the rows of partitions
abbrev pub on_in : List Partition → Label → List Container
on_in rows p = option_map_or (λ row. row.containers) (find (is_partition p) rows) []

-- a container's node is there, on the partition
abbrev pub StandsOn : List Tracked → Label → Container → Type 0
StandsOn nodes p container = option_map_or (λ node. same_label node.label p) (tracked nodes container.node) false ≡ true

-- the sizes of the containers on a node
abbrev pub filled : List Container → Name → Resource
filled containers name = sizes (filter (λ container. same_name container.node name) containers)

-- containers stand on nodes that are there, and no node is overfull
pub record Housed (nodes : List Tracked) (rows : List Partition) : Type 0 where
  pub standing : (p : Label) → AllByRecursion (StandsOn nodes p) (on_in rows p)
  pub room : AllByRecursion (λ node. fits_in (filled (on_in rows node.label) node.name) node.size ≡ true) nodes

-- that of a whole state
abbrev pub IsHoused : State → Type 0
IsHoused s = Housed (places s) s.partitions

-- ---- clocks and ids

-- what a partition's clock shows, by the rows of partitions
abbrev pub clock_in : List Partition → Label → ℕ
clock_in rows p = option_map_or (λ row. row.clock) (find (is_partition p) rows) 0

-- whether a partition has a row
abbrev pub has_row : List Partition → Label → Bool
has_row rows p = option_map_or (λ row. true) (find (is_partition p) rows) false

-- each row is the one that its label finds: two rows of one label are the same
abbrev pub EachFound : List Partition → Type 0
EachFound rows = AllByRecursion (λ row. find (is_partition row.label) rows ≡ Some row) rows

-- the ids on a partition are its own, rise along the containers, and are not above its clock
pub record Numbered (p : Label) (shown : ℕ) (containers : List Container) : Type 0 where
  pub own : AllByRecursion (λ container. (container.id.label ≡ p) × (container.id.clock ≤ shown)) containers
  pub rising : Pairs (λ a b. a.id.clock < b.id.clock) containers

-- clocks and stamps are within their limits, and ids rise
pub record Ordered (c : Config) (nodes : List Node) (rows : List Partition) : Type 0 where
  pub there : (p : Label) → has_label c.labels p ≡ true → has_row rows p ≡ true
  pub clocks : (p : Label) → clock_in rows p ≤ clock_limit c.labels p
  pub stamps : AllByRecursion (λ node. (has_row rows node.label ≡ true) × (node.stamp ≤ clock_in rows node.label)) nodes
  pub ids : (p : Label) → Numbered p (clock_in rows p) (on_in rows p)
  pub found : EachFound rows

-- that of a whole state
abbrev pub IsOrdered : Config → State → Type 0
IsOrdered c s = Ordered c s.nodes s.partitions

-- ---- all of it

-- what a state keeps under every event in range
pub record IsWorking (c : Config) (s : State) : Type 0 where
  pub kept : Kept s
  pub apart : Apart (places s)
  pub housed : IsHoused s
  pub ordered : IsOrdered c s
  pub sizes : AllByRecursion (λ (node : Node). IsSize node.size) s.nodes
  pub counts : (p : Label) → length (nodes_of s.nodes p) ≤ most_nodes

-- an event's size, where it has one, is that of a node or a request
abbrev pub IsRanged : Event → Type 0
IsRanged (Register node label size) = IsSize size
IsRanged (Submit queue app user label master) = IsSize master
IsRanged (Ask tenant app label priority count size) = IsSize size
IsRanged (Commit proposal) = IsSize proposal.size
IsRanged _ = ⊤
