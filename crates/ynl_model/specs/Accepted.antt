-- Which configurations are accepted: those with none of these faults.
use Rattle.std.specs.Prelude.{ℕ, Bool, true, not, ◌&&◌, ◌||◌, ◌==◌, nat_lt, nat_le, List, [], ◌∷◌, map, filter, sum, length, is_none}
use Rattle.std.specs.List.{list_any, list_all}
use Rattle.ynl_resource.specs.Names.{same_name, root, same_path}
use Rattle.ynl_resource.specs.declared.names.Name.{Name}
use Rattle.ynl_resource.specs.declared.labels.Label.{Label}
use Rattle.ynl_resource.specs.declared.labels.Label.TheVariants.{Unlabelled, Named}
use Rattle.ynl_resource.specs.declared.paths.Path.{Path}
use Rattle.ynl_resource.specs.Refusals.{first_that_holds}
use Rattle.ynl_model.specs.Nodes.{Labels, has_label, partition_labels}
use Rattle.ynl_model.specs.Queues.{QueueRow, Config, Access, Inherited, AllLabels, Listed, is_queue, is_leaf, may_use, accessible, capacity_on, configured_maximum}
use Rattle.ynl_resource.specs.Ranges.{whole, most_clock, most_memory, most_vcores, most_labels, most_queues, most_children}
pub use Rattle.ynl_model.specs.declared.faults.LabelFault.{LabelFault}
pub use Rattle.ynl_model.specs.declared.faults.LabelFault.TheVariants.{TooManyLabels, DuplicateLabel, BadLimit}
pub use Rattle.ynl_model.specs.declared.faults.TreeFault.{TreeFault}
pub use Rattle.ynl_model.specs.declared.faults.TreeFault.TheVariants.{TooMany, DuplicateQueue, NoParent, NoSuchLabel, NotSubset, MaximumBelowCapacity, SumNot100}

-- whether no two things of a list are the same
abbrev pub all_differ : {X : Type 0} → (X → X → Bool) → List X → Bool
all_differ same [] = true
all_differ same (x ∷ xs) = not (list_any (same x) xs) && all_differ same xs

-- whether a number is from the first to the second
abbrev pub is_from_to : ℕ → ℕ → ℕ → Bool
is_from_to low high n = nat_le low n && nat_le n high

-- ---- labels

-- the faults of labels, in their order, each with whether it holds
unfoldable pub label_faults : Labels → List (LabelFault × Bool)
label_faults labels =
    (TooManyLabels, nat_lt most_labels (length labels.rows)) ∷ (DuplicateLabel, not (all_differ same_name (map (λ row. row.name) labels.rows)))
    ∷ (BadLimit, not (is_from_to 1 most_clock labels.default_limit && list_all (λ row. is_from_to 1 most_clock row.limit) labels.rows)) ∷ []

-- ---- the tree of queues

-- a path without its last name
abbrev pub parent_of : Path → Path
parent_of [] = []
parent_of (name ∷ []) = []
parent_of (name ∷ next ∷ path) = name ∷ parent_of (next ∷ path)

-- the rows of the queues just below a queue
abbrev pub children : Config → Path → List QueueRow
children c queue = filter (λ row. same_path (parent_of row.path) queue) c.queues

-- root and all queues
abbrev pub all_queues : Config → List Path
all_queues c = root ∷ map (λ row. row.path) c.queues

-- the labels that a row lists
abbrev pub listed : Access → List Name
listed Inherited = []
listed AllLabels = []
listed (Listed names) = names

-- whether a row names only labels that are configured
abbrev pub names_known_labels : Config → QueueRow → Bool
names_known_labels c row =
    list_all (λ name. has_label c.labels (Named name)) (listed row.access) && list_all (λ given. has_label c.labels (Named given.label)) row.capacities
    && has_label c.labels row.leaf.default_label

-- whether a queue may use only what its parent may, and its row speaks only of labels that it may use
abbrev pub stays_within : Config → QueueRow → Bool
stays_within c row =
    list_all (λ name. may_use c (parent_of row.path) (Named name)) (accessible c row.path)
    && list_all (λ given. may_use c row.path (Named given.label)) row.capacities && may_use c row.path row.leaf.default_label

-- whether a queue's maximum is at least its capacity, on each partition
abbrev pub maximum_covers : Config → QueueRow → Bool
maximum_covers c row = list_all (λ label. nat_le (capacity_on c row.path label) (configured_maximum c row.path label)) (partition_labels c.labels)

-- what the capacities just below a queue come to on a partition
abbrev pub sum_below : Config → Path → Label → ℕ
sum_below c queue label = sum (map (λ row. capacity_on c row.path label) (children c queue))

-- whether the capacities just below a queue come to the whole on DEFAULT, and on each label to the whole or to nothing
abbrev pub adds_up : Config → Path → Bool
adds_up c queue =
    sum_below c queue Unlabelled == whole
    && list_all (λ row. sum_below c queue (Named row.name) == whole || sum_below c queue (Named row.name) == 0) c.labels.rows

-- the faults of a tree of queues, in their order, each with whether it holds; root is a parent, even where no queue is below it
unfoldable pub tree_faults : Config → List (TreeFault × Bool)
tree_faults c =
    (TooMany, nat_lt most_queues (length c.queues) || list_any (λ queue. nat_lt most_children (length (children c queue))) (all_queues c))
    ∷ (DuplicateQueue, not (all_differ same_path (all_queues c)))
    ∷ (NoParent, not (list_all (λ row. is_queue c (parent_of row.path)) c.queues))
    ∷ (NoSuchLabel, not (list_all (names_known_labels c) c.queues))
    ∷ (NotSubset, not (list_all (stays_within c) c.queues))
    ∷ (MaximumBelowCapacity, not (list_all (maximum_covers c) c.queues))
    ∷ (SumNot100, not (adds_up c root && list_all (λ row. is_leaf c row.path || adds_up c row.path) c.queues)) ∷ []

-- ---- numbers

-- whether the numbers of a row are in their ranges
abbrev pub row_in_range : QueueRow → Bool
row_in_range row =
    nat_le row.capacity whole && nat_le row.maximum whole && is_from_to 1 whole row.leaf.minimum_user_limit_percent && is_from_to 1 10000 row.leaf.user_limit_factor
    && nat_le row.leaf.maximum_am_resource_percent whole && is_from_to 1 1000000 row.leaf.maximum_applications
    && list_all (λ given. nat_le given.capacity whole && nat_le given.maximum whole) row.capacities

-- whether all numbers are in their ranges
unfoldable pub in_range : Config → Bool
in_range c =
    is_from_to 1 1000 c.containers_per_heartbeat && is_from_to 1 most_memory c.maximum_allocation.memory && is_from_to 1 most_vcores c.maximum_allocation.vcores
    && list_all row_in_range c.queues

-- whether a configuration is accepted: its numbers are in range, and it has no fault
unfoldable pub is_accepted : Config → Bool
is_accepted c = in_range c && is_none (first_that_holds (label_faults c.labels)) && is_none (first_that_holds (tree_faults c))
