-- What is said of an accepted configuration: a line for each queue and each partition that it may use, and then how many there are.
use Rattle.std.specs.Prelude.{ℕ, ◌-◌, ◌*◌, List, [], ◌∷◌, ◌++◌, length, count_by, replicate, slice_get, decimal, Bool, Some, codes, if◌then◌else◌}
use Rattle.std.specs.List.{concat, flat_map}
use Rattle.std.specs.Option.{option_map_or}
use Rattle.std.specs.List.Sorted.{IsPermutation, IsSorted}
use Rattle.std.specs.Cmp.Lexicographic.{slice_cmp}
use Rattle.std.specs.declared.cmp.Ordering.{Ordering}
use Rattle.json.specs.Token.{string}
use Rattle.ynl_resource.specs.declared.amounts.Resource.{Resource}
use Rattle.ynl_resource.specs.declared.labels.Label.{Label}
use Rattle.ynl_resource.specs.declared.labels.Label.TheVariants.{Unlabelled, Named}
use Rattle.ynl_resource.specs.declared.paths.Path.{Path}
use Rattle.ynl_resource.specs.Amounts.{amount}
use Rattle.ynl_resource.specs.Names.{name_order}
use Rattle.ynl_resource.specs.Texts.{label_text, path_text}
use Rattle.ynl_model.specs.Nodes.{partition_labels}
use Rattle.ynl_model.specs.Queues.{Config, QueueRow, is_leaf, may_use, capacity_on, configured_maximum, guaranteed, nested_floor, opening_stops, accepts}
use Rattle.ynl_check.specs.Objects.{count, only, object_line}
use Rattle.ynl_check.specs.Pieces.{filled, millionths}
use Rattle.ynl_check.specs.declared.shares.Numbers.{Numbers}
use Rattle.ynl_check.specs.declared.shares.Portion.{Portion}
use Rattle.ynl_check.specs.declared.style.Style.{Style}
use Rattle.ynl_check.specs.declared.style.Style.TheVariants.{Objects, Columns}
use Rattle.ynl_check.specs.declared.style.Widths.{Widths}

-- ---- a queue on a partition

-- a partition of 1,000,000 MB, so that what a queue has of it is told in millionths
abbrev pub millions : Resource
millions = amount 1000000 0

-- what the queue is guaranteed of it
abbrev pub share : Config → Path → Label → ℕ
share c queue label = (guaranteed c queue label millions).memory

-- the most that the queue may use of it
abbrev pub most : Config → Path → Label → ℕ
most c queue label = (nested_floor (λ step. configured_maximum c step label) queue millions).memory

-- what the queue has of it, with the partition's label
abbrev pub portion : Config → Path → Label → Portion
portion c queue label = record { label = label; share = share c queue label; most = most c queue label }

-- a queue takes applications unless it or one above it is configured as stopped
abbrev pub state_word : Config → Path → List ℕ
state_word c queue = if accepts (opening_stops c) queue then codes "RUNNING" else codes "STOPPED"

-- the numbers of a queue on a partition
unfoldable pub numbers : Config → QueueRow → Label → Numbers
numbers c row label = record {
  capacity = capacity_on c row.path label;
  maximum = configured_maximum c row.path label;
  share = share c row.path label;
  most = most c row.path label;
  applications = row.leaf.maximum_applications;
  factor = row.leaf.user_limit_factor;
  masters = row.leaf.maximum_am_resource_percent;
  users = row.leaf.minimum_user_limit_percent;
}

-- the line of a queue with these numbers, and whether it is a leaf; a leaf has a default label
unfoldable pub numbers_line : Numbers → List ℕ → List ℕ → Bool → List ℕ → List ℕ → List ℕ
numbers_line n path state leaf default label = object_line (
    (codes "applications", only leaf (Some (count n.applications)))
    ∷ (codes "capacity", Some (count n.capacity))
    ∷ (codes "default", only leaf (Some (string default)))
    ∷ (codes "factor", only leaf (Some (count n.factor)))
    ∷ (codes "label", Some (string label))
    ∷ (codes "masters", only leaf (Some (count n.masters)))
    ∷ (codes "maximum", Some (count n.maximum))
    ∷ (codes "most", Some (count n.most))
    ∷ (codes "queue", Some (string path))
    ∷ (codes "share", Some (count n.share))
    ∷ (codes "state", Some (string state))
    ∷ (codes "users", only leaf (Some (count n.users))) ∷ [])

-- how deep a queue stands below the first level, where its name is to be drawn; it is drawn on its first line alone
abbrev pub depth_on : QueueRow → Label → ℕ
depth_on row Unlabelled = 2 * (length row.path - 1)
depth_on row (Named label) = 0

-- the last name of a path, and nothing of root's
abbrev pub last_name : Path → List ℕ
last_name path = option_map_or (λ name. name) (slice_get path (length path - 1)) []

-- the name of a queue, where it is drawn
abbrev pub name_on : QueueRow → Label → List ℕ
name_on row Unlabelled = last_name row.path
name_on row (Named label) = []

-- the name of a partition
abbrev pub partition_name : Label → List ℕ
partition_name Unlabelled = codes "DEFAULT"
partition_name (Named label) = label

-- the same in columns, with percentages of the whole
unfoldable pub column_line : Widths → Numbers → QueueRow → List ℕ → Label → List ℕ
column_line widths n row state label = concat (
    replicate (depth_on row label) 32 ∷ filled (widths.queue - depth_on row label) (name_on row label)
    ∷ codes "  " ∷ filled widths.label (partition_name label)
    ∷ codes "  " ∷ millionths n.share ∷ codes "  " ∷ millionths n.most
    ∷ codes "  " ∷ state ∷ codes "\n" ∷ [])

-- the line in either style; the path, the state and whether it is a leaf are those of the queue
abbrev pub line_in : Style → Numbers → QueueRow → List ℕ → List ℕ → Bool → Label → List ℕ
line_in Objects n row path state leaf label = numbers_line n path state leaf (label_text row.leaf.default_label) (label_text label)
line_in (Columns widths) n row path state leaf label = column_line widths n row state label

-- the line, if the queue may use the partition
abbrev pub line_if_usable : Style → Config → QueueRow → List ℕ → List ℕ → Bool → Label → List ℕ
line_if_usable style c row path state leaf label = if may_use c row.path label then line_in style (numbers c row label) row path state leaf label else []

-- the lines of a queue: DEFAULT first, then the labels as configured
abbrev pub queue_lines : Style → Config → QueueRow → List ℕ
queue_lines style c row =
    flat_map (line_if_usable style c row (path_text row.path) (state_word c row.path) (is_leaf c row.path)) (partition_labels c.labels)

-- ---- the tree

-- the order of paths, name by name: a queue comes before those below it, and children come by name
abbrev pub path_order : QueueRow → QueueRow → Ordering
path_order a b = slice_cmp name_order a.path b.path

-- the queues in the order of a walk from root down, with children by name
pub record IsWalk (c : Config) (rows : List QueueRow) : Type 0 where
  pub all : IsPermutation c.queues rows
  pub order : IsSorted path_order rows

-- how many leaves there are
abbrev pub leaves : Config → ℕ
leaves c = count_by (λ row. is_leaf c row.path) c.queues

-- the line that tells how many labels, leaves and queues there are; DEFAULT and root are not counted
unfoldable pub end_line : Config → List ℕ
end_line c = object_line (
    (codes "check", Some (string (codes "ok")))
    ∷ (codes "labels", Some (count (length c.labels.rows)))
    ∷ (codes "leaves", Some (count (leaves c)))
    ∷ (codes "queues", Some (count (length c.queues))) ∷ [])

-- the same for a reader
unfoldable pub end_sentence : Config → List ℕ
end_sentence c = concat (
    decimal (length c.labels.rows) ∷ codes " labels, " ∷ decimal (leaves c) ∷ codes " leaves, "
    ∷ decimal (length c.queues) ∷ codes " queues\n" ∷ [])

-- the heads of the columns
unfoldable pub heads : Widths → List ℕ
heads widths = concat (filled widths.queue (codes "queue") ∷ codes "  " ∷ filled widths.label (codes "label") ∷ codes "  guaranteed     at most  state\n" ∷ [])

abbrev pub head_in : Style → List ℕ
head_in Objects = []
head_in (Columns widths) = heads widths

abbrev pub end_in : Style → Config → List ℕ
end_in Objects c = end_line c
end_in (Columns widths) c = end_sentence c

-- what is said of an accepted configuration, whose queues are these in the order of the walk
abbrev pub tree_text : Style → Config → List QueueRow → List ℕ
tree_text style c rows = head_in style ++ (flat_map (queue_lines style c) rows ++ end_in style c)
