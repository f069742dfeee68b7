-- Nodes under numbers that rise, the numbers by name, and the nodes of each label counted.
use Rattle.std.specs.Prelude.{◌≡◌, ℕ, ◌≤◌, Bool, false, List, length, Option}
use Rattle.std.specs.BTreeMap.{get, is_at, values, IsOrdered}
use Rattle.std.specs.List.{AllByRecursion}
use Rattle.std.specs.Option.{IfSome, option_map_or}
use Rattle.std.specs.Ordering.{nat_cmp}
use Rattle.ynl_resource.specs.declared.labels.Label.{Label}
use Rattle.ynl_resource.specs.declared.names.Name.{Name}
use Rattle.ynl_resource.specs.Names.{same_name, name_order}
use Rattle.ynl_model.specs.declared.nodes.Node.{Node}
use Rattle.ynl_model.specs.Nodes.{nodes_of}
use Rattle.ynl_view.specs.declared.nodes.nodes.Nodes.TheInside.{Inside}
use Rattle.ynl_view.specs.nodes.Counts.{count_at}

-- the list of the nodes
abbrev pub nodes_in : Inside → List Node
nodes_in t = values t.nodes

-- whether what is found for a name is the number
abbrev pub is_number : Option ℕ → ℕ → Bool
is_number found number = option_map_or (λ n. is_at (nat_cmp n) number) found false

-- a name leads to a node exactly if it is the node's, and to no number above the highest
pub record Leads (numbers : Name → Option ℕ) (entries : List (ℕ × Node)) (top : ℕ) : Type 0 where
  pub names : (name : Name) → AllByRecursion (λ e. is_number (numbers name) e.0 ≡ same_name e.1.name name) entries
  pub below : (name : Name) → IfSome (numbers name) (λ n. n ≤ top)

-- the numbers rise, the names lead to them, and the nodes of each label are counted
pub record AreKept (t : Inside) : Type 0 where
  pub rises : IsOrdered nat_cmp t.nodes
  pub leads : Leads (get name_order t.numbers) t.nodes.entries t.top
  pub counts : (p : Label) → count_at t.counts p ≡ length (nodes_of (nodes_in t) p)
