-- Where a fault is that the rows of a text have together.
use Rattle.std.specs.Prelude.{ℕ, ◌-◌, pos, List, map, find, filter, take, length, Bool, not, ◌&&◌, ◌||◌, ◌==◌, nat_lt, nat_le, Option, Some, None, option_map, if◌then◌else◌}
use Rattle.std.specs.Prelude.{codes}
use Rattle.std.specs.List.{list_any}
use Rattle.std.specs.Option.{option_or}
use Rattle.std.specs.Str.{is_utf8}
use Rattle.ynl_resource.specs.declared.names.Name.{Name}
use Rattle.ynl_resource.specs.declared.labels.Label.{Label}
use Rattle.ynl_resource.specs.declared.labels.Label.TheVariants.{Named}
use Rattle.ynl_resource.specs.declared.paths.Path.{Path}
use Rattle.ynl_resource.specs.Names.{same_name, same_path, is_default}
use Rattle.ynl_resource.specs.Ranges.{whole, most_children}
use Rattle.ynl_resource.specs.Texts.{label_text, path_text, read_path}
use Rattle.ynl_model.specs.declared.labels.LabelRow.{LabelRow}
use Rattle.ynl_model.specs.Nodes.{has_label, partition_labels}
use Rattle.ynl_model.specs.Queues.{QueueRow, Config, is_queue, is_leaf, may_use, capacity_on, configured_maximum}
use Rattle.ynl_model.specs.Accepted.{parent_of, listed, sum_below}
use Rattle.ynl_queues.specs.Written.{WrittenRow, is_too_deep, above, stand_together, is_below_root}
use Rattle.ynl_config.specs.declared.places.RowKind.TheVariants as kind
use Rattle.ynl_config.specs.Places.{Shown, of_integer, told_text, Place, nowhere, at_row}

-- the place at which so many rows are told
abbrev pub count_place : ℕ → Place
count_place n = record nowhere { value = Some (of_integer (pos n)) }

-- a place, if a fault is there
abbrev pub if_there : Bool → Place → Option Place
if_there there place = if there then Some place else None

-- ---- labels

-- the row of a label, if its name stands in one before
abbrev pub repeated_label : List LabelRow → ℕ → LabelRow → Option Place
repeated_label rows n row = if_there (list_any (λ other. same_name row.name other.name) (take (n - 1) rows)) (at_row kind.Label n (told_text row.name))

-- ---- the paths of queues, as texts

-- the row of a queue of this text
abbrev pub text_place : ℕ → List ℕ → Place
text_place n path = at_row kind.Queue n (told_text path)

-- the row of a queue, if its path has more than eight names
abbrev pub deep_path : ℕ → WrittenRow → Option Place
deep_path n row = if_there (is_too_deep row.path) (text_place n row.path)

-- the row of a queue, if its path is none below root
abbrev pub bad_path : ℕ → WrittenRow → Option Place
bad_path n row = if_there (not (is_below_root (read_path row.path))) (text_place n row.path)

-- how many rows have the text of a row but for its last part
abbrev pub together : List WrittenRow → WrittenRow → ℕ
together rows row = length (filter (λ other. stand_together row.path other.path) rows)

-- bytes are told if they are a text
abbrev pub told_bytes : List ℕ → Option Shown
told_bytes bytes = if is_utf8 bytes then told_text bytes else None

-- how many rows have the text of a row but for its last part, if these are more than 64
abbrev pub crowd : List WrittenRow → WrittenRow → Option Place
crowd rows row = if_there (nat_lt most_children (together rows row)) (record (count_place (together rows row)) { queue = told_bytes (above row.path) })

-- ---- the tree of queues

-- the row of a queue of this path
abbrev pub path_place : ℕ → Path → Place
path_place n path = text_place n (path_text path)

-- the row of a queue, if its path stands in one before
abbrev pub repeated_queue : Config → ℕ → QueueRow → Option Place
repeated_queue c n row = if_there (list_any (λ other. same_path row.path other.path) (take (n - 1) c.queues)) (path_place n row.path)

-- the row of a queue, if its parent is not there
abbrev pub orphan : Config → ℕ → QueueRow → Option Place
orphan c n row = if_there (not (is_queue c (parent_of row.path))) (path_place n row.path)

-- a key of a queue's row, and the label at fault there
abbrev pub at_label : ℕ → Path → List ℕ → Label → Place
at_label n path key label = record (path_place n path) { key = told_text key; label = told_text (label_text label) }

-- the first label at fault of a queue's row: of those listed, the default label, and those of its shares
abbrev pub label_at_fault : ℕ → Path → Option Name → Option Label → Option Name → Option Place
label_at_fault n path named default given =
    option_or (option_map (λ name. at_label n path (codes "accessible-node-labels") (Named name)) named)
    (option_or (option_map (at_label n path (codes "default-node-label-expression")) default)
    (option_map (λ name. at_label n path (codes "label") (Named name)) given))

-- a label, if a fault is there
abbrev pub label_if : Bool → Label → Option Label
label_if there label = if there then Some label else None

-- the labels of a row's shares
abbrev pub shared : QueueRow → List Name
shared row = map (λ given. given.label) row.capacities

-- whether a name is that of no label
abbrev pub is_unknown : Config → Name → Bool
is_unknown c name = not (has_label c.labels (Named name))

-- the first of the labels that a row lists which is not configured
abbrev pub unknown_listed : Config → QueueRow → Option Name
unknown_listed c row = find (is_unknown c) (listed row.access)

-- the default label of a row, if that is not configured
abbrev pub unknown_default : Config → QueueRow → Option Label
unknown_default c row = label_if (not (has_label c.labels row.leaf.default_label)) row.leaf.default_label

-- the first label of a row's shares that is not configured
abbrev pub unknown_shared : Config → QueueRow → Option Name
unknown_shared c row = find (is_unknown c) (shared row)

-- the first label of a queue's row that is not configured
unfoldable pub unknown_label : Config → ℕ → QueueRow → Option Place
unknown_label c n row = label_at_fault n row.path (unknown_listed c row) (unknown_default c row) (unknown_shared c row)

-- whether a queue may use a label that its parent may not
abbrev pub goes_beyond : Config → Path → Name → Bool
goes_beyond c path name = may_use c path (Named name) && not (may_use c (parent_of path) (Named name))

-- the names of the labels, as configured
abbrev pub names_of : Config → List Name
names_of c = map (λ row. row.name) c.labels.rows

-- the first label of a queue that goes beyond its parent's, or of its row that the queue may not use
unfoldable pub label_beyond : Config → ℕ → QueueRow → Option Place
label_beyond c n row =
    label_at_fault n row.path (find (goes_beyond c row.path) (names_of c)) (label_if (not (may_use c row.path row.leaf.default_label)) row.leaf.default_label)
    (find (λ name. not (may_use c row.path (Named name))) (shared row))

-- a queue's capacity and its maximum on a partition
abbrev pub at_capacity : Config → ℕ → Path → Label → Place
at_capacity c n path label =
    record (path_place n path) { label = told_text (label_text label); capacity = Some (capacity_on c path label); maximum = Some (configured_maximum c path label) }

-- whether a queue's maximum is below its capacity on a partition
abbrev pub is_low : Config → Path → Label → Bool
is_low c path label = not (nat_le (capacity_on c path label) (configured_maximum c path label))

-- the first partition on which it is
unfoldable pub low_maximum : Config → ℕ → QueueRow → Option Place
low_maximum c n row = option_map (at_capacity c n row.path) (find (is_low c row.path) (partition_labels c.labels))

-- whether what stands just below a queue comes to the whole of a partition, or on a label to nothing
abbrev pub comes_out : Config → Path → Label → Bool
comes_out c queue label = sum_below c queue label == whole || (not (is_default label) && sum_below c queue label == 0)

-- what stands just below a queue on a partition
abbrev pub at_sum : Config → Path → Label → Place
at_sum c queue label = record nowhere { queue = told_text (path_text queue); label = told_text (label_text label); sum = Some (sum_below c queue label) }

-- the first partition on which it comes to something else
unfoldable pub wrong_sum : Config → Path → Option Place
wrong_sum c queue = option_map (at_sum c queue) (find (λ label. not (comes_out c queue label)) (partition_labels c.labels))

-- the same of a queue that is a parent
abbrev pub wrong_parent : Config → QueueRow → Option Place
wrong_parent c row = if is_leaf c row.path then None else wrong_sum c row.path
