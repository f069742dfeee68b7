-- What the parts of an inventory mean as rows, and how they go together.
use Rattle.std.specs.Prelude.{◌≡◌, ◌≢◌, ℕ, ◌+◌, ◌^◌, ◌<◌, ◌≤◌, Bool, true, nat_eq, List, [], map, filter, slice_get, Option, Some, None, IfSome}
use Rattle.std.specs.List.{AllByRecursion}
use Rattle.std.specs.Map.{lookup}
use Rattle.std.specs.Option.{option_map_or, option_and_then}
use Rattle.ynl_resource.specs.Amounts.{nothing, less, fits_in, total_of, IsSmall}
use Rattle.ynl_resource.specs.declared.amounts.Resource.{Resource}
use Rattle.ynl_slots.specs.Slots.{Numbered, IsLive}
use Rattle.ynl_slots.specs.declared.chain.Chain.{Chain}
use Rattle.ynl_tables.specs.declared.nodes.nodes.NodeRow.{NodeRow as NodePart}
use Rattle.ynl_tables.specs.declared.apps.app.AppRow.{AppRow as AppPart}
use Rattle.ynl_tables.specs.apps.Apps.{with_app}
use Rattle.ynl_tables.specs.apps.Chains.{chain_of, no_chain}
use Rattle.ynl_tables.specs.declared.containers.container.Container.{Container}
use Rattle.ynl_tables.specs.declared.containers.container.Role.{Role}
use Rattle.ynl_tables.specs.declared.containers.container.Role.TheVariants.{Master, Ask as Asked}
use Rattle.ynl_tables.specs.apps.Asks.{with_one_taken}
use Rattle.ynl_tables.specs.containers.Chains.{IsNodeChain, IsAppChain}
use Rattle.ynl_tables.specs.containers.Fields.{of_rows}
use Rattle.ynl_inventory.specs.declared.partition.Placement.{Placement}
use Rattle.ynl_inventory.specs.declared.partition.Partition.{Partition}
use Rattle.ynl_inventory.specs.declared.submission.NewSubmission.{NewSubmission}
use Rattle.ynl_inventory.specs.declared.inventory.Inventory.TheInside.{Inside}
use Rattle.ynl_inventory.specs.Rows.{Rows, PartitionRow, NodeRow, AppRow}
use Rattle.ynl_inventory.specs.Changes.{new_app, partition_of_node}
use Rattle.ynl_inventory.specs.Sound.{IsPlaceable, IsSound, IsStandable}
use Rattle.ynl_inventory.specs.Apps.{master_in}
pub use Rattle.ynl_inventory.specs.Apps.{containers_of}

-- the container that is placed at a clock
abbrev pub placed_on : Placement → ℕ → Container
placed_on placed clock = record { clock = clock; node = placed.node; app = placed.app; role = placed.role; size = placed.size }

-- a partition as a row
abbrev pub partition_row : Partition → PartitionRow
partition_row part = record { label = part.label; guests = part.guests; limit = part.limit; clock = part.clock; containers = part.containers.entries }

-- a node as a row
abbrev pub node_row : NodePart → NodeRow
node_row part = record { name = part.name; partition = part.partition; size = part.size; stamp = part.stamp }

-- an application as a row
abbrev pub app_row : AppPart → AppRow
app_row part = record {
  tenant = part.tenant;
  turn = part.turn;
  leaf = part.leaf;
  user = part.user;
  home = part.home;
  master = part.master_size;
  asks = part.asks;
  tickets = part.tickets;
}

-- its master is placed under a number, or one less is asked for
abbrev pub taken_part : Role → ℕ → AppPart → AppPart
taken_part Master number part = record part { master = Some number }
taken_part (Asked p priority) number part = record part { asks = with_one_taken p priority part.asks }

-- the container of a number is its master, if it is placed as one
abbrev pub owned_part : Role → ℕ → AppPart → AppPart
owned_part Master number part = record part { master = Some number }
owned_part (Asked p priority) number part = part

-- what a contract sees: the rows, by partition how many placements take no memory, and whether a node may join again without
pub record Held : Type 0 where
  pub rows : Rows
  pub rooms : List ℕ
  pub ready : Bool

-- what the parts mean
abbrev pub held_of : Inside → Held
held_of a = record {
  rows = record {
    paths = a.layout;
    partitions = map partition_row a.partitions.items;
    nodes = of_rows node_row a.nodes.entries;
    apps = of_rows app_row a.apps.entries;
    tenants = map (λ listing. listing.entries) a.tenants.items;
    users = a.users;
  };
  rooms = map (λ part. part.containers.room) a.partitions.items;
  ready = a.nodes.ready;
}

-- what containers of a partition use of a node
abbrev pub used_of : List (ℕ × Container) → ℕ → Resource
used_of containers node = total_of (λ e. e.1.size) (filter (λ e. nat_eq e.1.node node) containers)

-- what is free of a node
abbrev pub free_of : Rows → ℕ → Resource
free_of v node = option_map_or
    (λ row. less row.size (used_of (option_map_or (λ p. p.containers) (slice_get v.partitions row.partition) []) node))
    (lookup (nat_eq node) v.nodes) nothing

-- what containers use of each node fits on it, and its size is small
pub record IsFitting (v : Rows) : Type 0 where
  pub fits : (n : ℕ) (row : NodeRow) → lookup (nat_eq n) v.nodes ≡ Some row → fits_in (used_of (containers_of v row.partition) n) row.size ≡ true
  pub small : (n : ℕ) (row : NodeRow) → lookup (nat_eq n) v.nodes ≡ Some row → IsSmall row.size

-- there are places for the chains of all partitions that take guests; their numbers have 8 bits
abbrev pub HasGuestPlaces : List Partition → List (ℕ × Chain) → Type 0
HasGuestPlaces partitions chains = (p : ℕ) (part : Partition) → p < 2 ^ 8 → slice_get partitions p ≡ Some part → part.guests ≡ true → IsLive p chains

-- an application has places for the chains of its home partition and of DEFAULT, and while it asks on DEFAULT of all that take guests
pub record HasPlaces (partitions : List Partition) (row : AppPart) : Type 0 where
  pub home : IsLive row.home row.chains
  pub default : IsLive 0 row.chains
  pub guests : AllByRecursion (λ ask. ask.partition ≡ 0 → HasGuestPlaces partitions row.chains) row.asks

-- each node and each application has the chains of its containers, which fit on the node; what is free of a node is what they leave; and each application has its master's number, and places for chains
pub record AreLinked (partitions : List Partition) (nodes : List (ℕ × NodePart)) (apps : List (ℕ × AppPart)) : Type 0 where
  pub node : (n : ℕ) (row : NodePart) (part : Partition) → lookup (nat_eq n) nodes ≡ Some row → slice_get partitions row.partition ≡ Some part → IsNodeChain part.containers row.containers n
  pub app : (n : ℕ) (row : AppPart) (p : ℕ) (part : Partition) → lookup (nat_eq n) apps ≡ Some row → slice_get partitions p ≡ Some part → IsAppChain part.containers (chain_of p row.chains) n
  pub free : (n : ℕ) (row : NodePart) (part : Partition) → lookup (nat_eq n) nodes ≡ Some row → slice_get partitions row.partition ≡ Some part → row.free ≡ less row.size (used_of part.containers.entries n)
  pub fits : (n : ℕ) (row : NodePart) (part : Partition) → lookup (nat_eq n) nodes ≡ Some row → slice_get partitions row.partition ≡ Some part → fits_in (used_of part.containers.entries n) row.size ≡ true
  pub small : (n : ℕ) (row : NodePart) → lookup (nat_eq n) nodes ≡ Some row → IsSmall row.size
  pub master : (n : ℕ) (row : AppPart) (part : Partition) → lookup (nat_eq n) apps ≡ Some row → slice_get partitions row.home ≡ Some part → row.master ≡ master_in n part.containers.entries
  pub places : (n : ℕ) (row : AppPart) → lookup (nat_eq n) apps ≡ Some row → HasPlaces partitions row

-- the container of a number in a partition
abbrev pub held_at : Rows → ℕ → ℕ → Option Container
held_at v p number = option_and_then (λ row. lookup (nat_eq number) row.containers) (slice_get v.partitions p)

-- a container is held in a partition, under a number
pub record IsHeldIn (v : Rows) (p : ℕ) (c : Container) : Type 0 where
  pub number : ℕ
  pub held : held_at v p number ≡ Some c

-- its master is no more, if that was the container
abbrev pub released_part : Role → AppPart → AppPart
released_part Master part = record part { master = None }
released_part (Asked p priority) part = part

-- the rows are sound, and the parts go together
pub record IsInventory (a : Inside) : Type 0 where
  pub sound : IsSound (held_of a).rows
  pub linked : AreLinked a.partitions.items a.nodes.entries a.apps.entries

-- a container may be placed: there is room for it, in the partition and on the node
pub record CanPlace (h : Held) (placed : Placement) : Type 0 where
  pub placeable : IsPlaceable h.rows placed.node placed.app placed.role
  pub room : IfSome (slice_get h.rooms (partition_of_node h.rows.nodes placed.node)) (λ room. 0 < room)
  pub fits : fits_in placed.size (free_of h.rows placed.node) ≡ true

-- a container may stand as one that was placed at this clock, and there is room for it on the node
pub record CanStand (v : Rows) (placed : Placement) (clock : ℕ) : Type 0 where
  pub standable : IsStandable v placed.node placed.app placed.role clock
  pub fits : fits_in placed.size (free_of v placed.node) ≡ true

-- a partition loses at most so much room, and the others none
pub record LeavesRoom (p most : ℕ) (old new : List ℕ) : Type 0 where
  pub own : (room : ℕ) → slice_get old p ≡ Some room → IfSome (slice_get new p) (λ left. room ≤ left + most)
  pub others : (q : ℕ) → q ≢ p → slice_get new q ≡ slice_get old q

-- places for chains are added, and all chains stay
pub record AddsPlaces (old new : List (ℕ × Chain)) : Type 0 where
  pub same : (p : ℕ) → chain_of p new ≡ chain_of p old
  pub live : (p : ℕ) → IsLive p old → IsLive p new

-- an application may have more places for chains, and all else is the same
pub record HasMorePlaces (app : ℕ) (old new : Numbered AppPart) : Type 0 where
  pub more : List (ℕ × Chain) → List (ℕ × Chain)
  pub adds : (chains : List (ℕ × Chain)) → AddsPlaces chains (more chains)
  pub apps : new ≡ with_app app (λ row. record row { chains = more row.chains }) old

-- the row of a new application: no containers, and places for the chains of its home partition and of DEFAULT
pub record IsNewRow (new : NewSubmission) (turn : ℕ) (row : AppPart) : Type 0 where
  pub row_is : app_row row ≡ new_app new.tenant turn new.leaf new.user new.home new.master_size
  pub master : row.master ≡ None
  pub chains : (p : ℕ) → chain_of p row.chains ≡ no_chain
  pub home : IsLive new.home row.chains
  pub default : IsLive 0 row.chains
