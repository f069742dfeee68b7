-- What the queues use of the partitions, and how much there is of each, as the rows tell it.
use Rattle.std.specs.Prelude.{◌≡◌, ℕ, suc, ◌≤◌, Bool, false, true, nat_eq, List, [], ◌∷◌, map, filter, length, slice_get, Some, if◌then◌else◌}
use Rattle.std.specs.List.{AllByRecursion}
use Rattle.std.specs.Map.{lookup}
use Rattle.std.specs.Option.{option_map_or}
use Rattle.ynl_resource.specs.Amounts.{fits_in, total_of, IsSize}
use Rattle.ynl_resource.specs.Names.{root}
use Rattle.ynl_resource.specs.Ranges.{most_nodes}
use Rattle.ynl_resource.specs.declared.amounts.Resource.{Resource}
use Rattle.ynl_resource.specs.declared.paths.Path.{Path}
use Rattle.ynl_model.specs.declared.uses.Use.{Use}
use Rattle.ynl_inventory.specs.layout.Paths.{is_above}
use Rattle.ynl_tables.specs.declared.containers.container.Container.{Container}
use Rattle.ynl_tables.specs.declared.containers.container.Role.{Role}
use Rattle.ynl_cluster.specs.uses.Tallies.{no_use, raised}
use Rattle.ynl_cluster.specs.declared.uses.tally.Counted.{Counted}
use Rattle.ynl_cluster.specs.declared.uses.tally.Counted.TheVariants.{Guest, Master, Asked}
use Rattle.ynl_cluster.specs.declared.uses.tally.Tally.{Tally}
use Rattle.ynl_inventory.specs.Rows.{Rows, PartitionRow, NodeRow}
use Rattle.ynl_inventory.specs.Apps.{is_guest_role, is_master_role}
use Rattle.ynl_inventory.specs.Parts.{containers_of, used_of}
use Rattle.ynl_cluster.specs.declared.ledger.totals.Total.{Total}

-- what is made of each thing of a list and its place
abbrev pub by_place : {X Y : Type 0} → (ℕ → X → Y) → List X → List Y
by_place make [] = []
by_place make (x ∷ xs) = make 0 x ∷ by_place (λ n. make (suc n)) xs

-- ---- what queues use

-- as what a container that stands on a partition counts there
abbrev pub counted_as : ℕ → Role → Counted
counted_as p role = if is_guest_role p role then Guest else (if is_master_role role then Master else Asked)

-- how a container of this role and size counts there
abbrev pub tally_of : ℕ → Role → Resource → Tally
tally_of p role size = record { counted = counted_as p role; size = size }

-- whether a container's application is live, and its leaf is the queue or stands below it
abbrev pub is_below : Rows → Path → Container → Bool
is_below v queue c = option_map_or (λ row. is_above v.paths row.leaf queue) (lookup (nat_eq c.app) v.apps) false

-- a use with one container of a partition more, if that passes a test
abbrev pub raised_if : (Container → Bool) → ℕ → Container → Use → Use
raised_if test p c u = if test c then raised (tally_of p c.role c.size) u else u

-- what those of some containers of a partition use that pass a test
abbrev pub use_where : (Container → Bool) → ℕ → List (ℕ × Container) → Use
use_where test p [] = no_use
use_where test p (e ∷ entries) = raised_if test p e.1 (use_where test p entries)

-- what a queue uses by some containers of a partition
abbrev pub use_by : Rows → ℕ → Path → List (ℕ × Container) → Use
use_by v p queue entries = use_where (λ c. is_below v queue c) p entries

-- what each queue uses by them, by the queues' numbers
abbrev pub uses_by : Rows → ℕ → List (ℕ × Container) → List Use
uses_by v p entries = map (λ queue. use_by v p queue entries) (root ∷ v.paths)

-- what each queue uses of each partition, by their numbers
abbrev pub uses_in : Rows → List (List Use)
uses_in v = by_place (λ p row. uses_by v p row.containers) v.partitions

-- ---- how much there is

-- the nodes of a partition
abbrev pub nodes_on : ℕ → List (ℕ × NodeRow) → List (ℕ × NodeRow)
nodes_on p nodes = filter (λ e. nat_eq e.1.partition p) nodes

-- how much nodes come to
abbrev pub total_of_nodes : List (ℕ × NodeRow) → Total
total_of_nodes nodes = record { amount = total_of (λ e. e.1.size) nodes; nodes = length nodes }

-- how much there is of a partition
abbrev pub total_in : Rows → ℕ → Total
total_in v p = total_of_nodes (nodes_on p v.nodes)

-- how much there is of each partition, by number
abbrev pub totals_in : Rows → List Total
totals_in v = by_place (λ p row. total_in v p) v.partitions

-- ---- bounds

-- containers of the sizes that requests may have
abbrev pub AreSized : List (ℕ × Container) → Type 0
AreSized entries = AllByRecursion (λ e. IsSize e.1.size) entries

-- nodes and containers have the sizes that they may have, what stands on a node fits there, and no partition has too many nodes
pub record IsBounded (v : Rows) : Type 0 where
  pub nodes : (n : ℕ) (row : NodeRow) → lookup (nat_eq n) v.nodes ≡ Some row → IsSize row.size
  pub containers : (p : ℕ) (row : PartitionRow) → slice_get v.partitions p ≡ Some row → AreSized row.containers
  pub fits : (n : ℕ) (row : NodeRow) → lookup (nat_eq n) v.nodes ≡ Some row → fits_in (used_of (containers_of v row.partition) n) row.size ≡ true
  pub many : (p : ℕ) → (total_in v p).nodes ≤ most_nodes
