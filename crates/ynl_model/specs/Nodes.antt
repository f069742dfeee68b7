-- Labels and nodes.
use Rattle.std.specs.Prelude.{ℕ, ◌+◌, Bool, ◌&&◌, true, false, List, [], ◌∷◌, ◌++◌, map, filter, find, length, is_some, nat_lt, nat_le, Option, if◌then◌else◌}
use Rattle.std.specs.Option.{option_map_or}
use Rattle.ynl_resource.specs.Amounts.{total_of}
use Rattle.ynl_resource.specs.declared.amounts.Resource.{Resource}
use Rattle.ynl_resource.specs.Names.{same_name, same_label}
use Rattle.ynl_resource.specs.declared.names.Name.{Name}
use Rattle.ynl_resource.specs.declared.labels.Label.{Label}
use Rattle.ynl_resource.specs.declared.labels.Label.TheVariants.{Unlabelled, Named}
use Rattle.ynl_resource.specs.Tables.{without, update}
pub use Rattle.ynl_model.specs.declared.labels.LabelRow.{LabelRow}
pub use Rattle.ynl_model.specs.declared.nodes.Node.{Node}
use Rattle.ynl_resource.specs.Ranges.{most_nodes}

-- the configured labels, and how far the clock of the DEFAULT partition goes
pub record Labels : Type 0 where
  pub rows : List LabelRow
  pub default_limit : ℕ

-- the row of a name
abbrev pub label_row : Labels → Name → Option LabelRow
label_row labels name = find (λ row. same_name row.name name) labels.rows

-- whether a label is configured; DEFAULT always is
abbrev pub has_label : Labels → Label → Bool
has_label labels Unlabelled = true
has_label labels (Named name) = is_some (label_row labels name)

-- whether a partition is exclusive; DEFAULT is
abbrev pub is_exclusive : Labels → Label → Bool
is_exclusive labels Unlabelled = true
is_exclusive labels (Named name) = option_map_or (λ row. row.exclusive) (label_row labels name) false

-- how far the clock of a partition goes
abbrev pub clock_limit : Labels → Label → ℕ
clock_limit labels Unlabelled = labels.default_limit
clock_limit labels (Named name) = option_map_or (λ row. row.limit) (label_row labels name) 0

-- the labels of all partitions, DEFAULT first
abbrev pub partition_labels : Labels → List Label
partition_labels labels = Unlabelled ∷ map (λ row. Named row.name) labels.rows

-- the node of a name
abbrev pub find_node : List Node → Name → Option Node
find_node nodes name = find (λ node. same_name node.name name) nodes

-- the nodes of a partition
abbrev pub nodes_of : List Node → Label → List Node
nodes_of nodes label = filter (λ node. same_label node.label label) nodes

-- the total of a partition: the sum of its nodes
unfoldable pub total : List Node → Label → Resource
total nodes label = total_of (λ node. node.size) (nodes_of nodes label)

-- a clock rises by 1, and at its limit it stays
abbrev pub rises : ℕ → ℕ → ℕ
rises limit value = if nat_lt value limit then value + 1 else value

-- whether a node has this name and this partition
abbrev pub is_at : Name → Label → Node → Bool
is_at name label node = same_name node.name name && same_label node.label label

-- a node gets a stamp
unfoldable pub stamped : Name → Label → ℕ → List Node → List Node
stamped name label stamp nodes = update (is_at name label) (λ node. record node { stamp = stamp }) nodes

-- a node comes last
unfoldable pub joined : Node → List Node → List Node
joined node nodes = nodes ++ node ∷ []

-- a node leaves its partition
unfoldable pub left : Node → List Node → List Node
left node nodes = without (is_at node.name node.label) nodes

-- whether a partition has no place for one more node
unfoldable pub is_full : List Node → Label → Bool
is_full nodes label = nat_le most_nodes (length (nodes_of nodes label))
