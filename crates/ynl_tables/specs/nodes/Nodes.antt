-- The nodes of a cluster, as a contract sees them.
use Rattle.std.specs.Prelude.{◌≡◌, ◌≢◌, ⊤, ℕ, Bool, List, [], ◌∷◌, ◌++◌, map, nat_eq, Option, Some, None, if◌then◌else◌}
use Rattle.std.specs.List.{AllByRecursion}
use Rattle.std.specs.Map.{lookup}
use Rattle.ynl_resource.specs.declared.amounts.Resource.{Resource}
use Rattle.ynl_resource.specs.declared.names.Name.{Name}
use Rattle.ynl_resource.specs.Names.{same_name}
use Rattle.ynl_slots.specs.declared.chain.Chain.{Chain}
use Rattle.ynl_slots.specs.Slots.{IsUnused, without}
use Rattle.ynl_tables.specs.declared.nodes.nodes.NodeRow.{NodeRow}

-- the nodes under their numbers in the order of joining, and whether one may join again without memory
pub record NodesView : Type 0 where
  pub entries : List (ℕ × NodeRow)
  pub ready : Bool

-- no two nodes have one name
abbrev pub HasDistinctNames : List (ℕ × NodeRow) → Type 0
HasDistinctNames [] = ⊤
HasDistinctNames (e ∷ nodes) = AllByRecursion (λ f. f.1.name ≢ e.1.name) nodes × HasDistinctNames nodes

-- the names of the nodes, with their numbers
abbrev pub by_name : List (ℕ × NodeRow) → List (Name × ℕ)
by_name nodes = map (λ e. (e.1.name, e.0)) nodes

-- the number of the node of a name
abbrev pub number_of : Name → List (ℕ × NodeRow) → Option ℕ
number_of name nodes = lookup (same_name name) (by_name nodes)

-- a chain of no rows
abbrev pub no_chain : Chain
no_chain = record { first = None; last = None }

-- a node comes last under a number of its own, all of it free
pub record Joins (number : ℕ) (name : Name) (partition : ℕ) (size : Resource) (stamp : ℕ) (old new : List (ℕ × NodeRow)) : Type 0 where
  pub unused : IsUnused number old
  pub nodes : new ≡ old ++ (number, record { name = name; partition = partition; size = size; free = size; stamp = stamp; containers = no_chain }) ∷ []

-- a node comes last again, with its name and its size
pub record Rejoins (number last partition stamp : ℕ) (old new : List (ℕ × NodeRow)) : Type 0 where
  pub row : NodeRow
  pub found : lookup (nat_eq number) old ≡ Some row
  pub joins : Joins last row.name partition row.size stamp (without number old) new

-- the node under a number changes
abbrev pub with_change : ℕ → (NodeRow → NodeRow) → List (ℕ × NodeRow) → List (ℕ × NodeRow)
with_change number change nodes = map (λ e. if nat_eq number e.0 then (e.0, change e.1) else e) nodes
