-- Which changes of the rows keep them in bounds, as statements over all rows.
use Rattle.std.specs.Prelude.{◌≡◌, ℕ, ◌<◌, true, nat_eq, Some}
use Rattle.std.specs.Map.{lookup}
use Rattle.ynl_resource.specs.Amounts.{fits_in, IsSize}
use Rattle.ynl_resource.specs.Ranges.{most_nodes}
use Rattle.ynl_resource.specs.declared.amounts.Resource.{Resource}
use Rattle.ynl_resource.specs.declared.names.Name.{Name}
use Rattle.ynl_slots.specs.Slots.{IsUnused}
use Rattle.ynl_tables.specs.declared.containers.container.Container.{Container}
use Rattle.ynl_tables.specs.declared.containers.container.Role.{Role}
use Rattle.ynl_inventory.specs.Rows.{Rows, NodeRow}
use Rattle.ynl_inventory.specs.Changes.{partition_of_node, with_clock, with_dropped, with_ended, with_joined, with_node_gone, with_placed, with_stamp, with_stood}
use Rattle.ynl_inventory.specs.Parts.{free_of}
use Rattle.ynl_inventory.specs.Sound.{IsSound}
use Rattle.ynl_cluster.specs.ledger.Ledger.{total_in, IsBounded}

-- a placement does, where what is placed fits in what is free of the node
abbrev pub PlacingKeepsBounds : Type 0
PlacingKeepsBounds = (v : Rows) → IsBounded v → (number node app : ℕ) (role : Role) (size : Resource) → IsSize size → fits_in size (free_of v node) ≡ true → IsBounded (with_placed number node app role size v)

-- so does a container that comes to stand
abbrev pub StandingKeepsBounds : Type 0
StandingKeepsBounds = (v : Rows) → IsBounded v → (number : ℕ) (c : Container) → IsSize c.size → fits_in c.size (free_of v c.node) ≡ true → IsBounded (with_stood (partition_of_node v.nodes c.node) number c v)

-- an end does
abbrev pub EndingKeepsBounds : Type 0
EndingKeepsBounds = (v : Rows) → IsBounded v → (p number node : ℕ) → IsBounded (with_ended p number node v)

-- so does a container that goes with its node
abbrev pub DroppingKeepsBounds : Type 0
DroppingKeepsBounds = (v : Rows) → IsBounded v → (p number : ℕ) → IsBounded (with_dropped p number v)

-- a node that joins does, where the partition has a place for it
abbrev pub JoiningKeepsBounds : Type 0
JoiningKeepsBounds = (v : Rows) → IsSound v → IsBounded v → (number : ℕ) (name : Name) (p : ℕ) (size : Resource) → IsUnused number v.nodes → IsSize size → (total_in v p).nodes < most_nodes
    → IsBounded (with_joined number name p size v)

-- one that leaves does
abbrev pub LeavingKeepsBounds : Type 0
LeavingKeepsBounds = (v : Rows) → IsSound v → IsBounded v → (node : ℕ) (row : NodeRow) → lookup (nat_eq node) v.nodes ≡ Some row → IsBounded (with_node_gone node v)

-- a clock that is set does
abbrev pub ClocksKeepBounds : Type 0
ClocksKeepBounds = (v : Rows) → IsBounded v → (p clock : ℕ) → IsBounded (with_clock p clock v)

-- and a stamp
abbrev pub StampsKeepBounds : Type 0
StampsKeepBounds = (v : Rows) → IsBounded v → (node stamp : ℕ) → IsBounded (with_stamp node stamp v)

-- so does each change that leaves partitions and nodes: those of applications and users
abbrev pub OthersKeepBounds : Type 0
OthersKeepBounds = (v : Rows) → IsBounded v → (w : Rows) → w.partitions ≡ v.partitions → w.nodes ≡ v.nodes → IsBounded w
