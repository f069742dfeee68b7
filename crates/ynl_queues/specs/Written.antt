-- The queues as they are written, and the configuration that they make or its first fault.
use Rattle.std.specs.Prelude.{ℕ, Bool, true, false, not, ◌||◌, nat_lt, List, [], ◌∷◌, map, filter, length, bytes_eq, Option, Some, None, Result, Ok, Err, if◌then◌else◌}
use Rattle.std.specs.List.{list_any, list_all, slice_split}
use Rattle.ynl_resource.specs.Amounts.{amount}
use Rattle.ynl_resource.specs.declared.amounts.Resource.{Resource}
use Rattle.ynl_resource.specs.Names.{root}
use Rattle.ynl_resource.specs.declared.paths.Path.{Path}
use Rattle.ynl_resource.specs.Refusals.{first_that_holds}
use Rattle.ynl_resource.specs.Texts.{is_dot, read_path}
use Rattle.ynl_resource.specs.Ranges.{most_names, most_queues, most_children}
use Rattle.ynl_resource.specs.declared.paths.PathFault.{PathFault}
use Rattle.ynl_model.specs.Nodes.{Labels}
use Rattle.ynl_model.specs.Queues.{Access, QueueRow, Config}
use Rattle.ynl_model.specs.declared.queues.LabelCapacity.{LabelCapacity}
use Rattle.ynl_model.specs.declared.queues.LeafSettings.{LeafSettings}
use Rattle.ynl_model.specs.Accepted.{tree_faults, children, all_queues}
use Rattle.ynl_model.specs.declared.faults.TreeFault.{TreeFault}
use Rattle.ynl_model.specs.declared.faults.TreeFault.TheVariants.{TooDeep, TooMany, BadPath}

-- a queue as it is written: its path is a text, and all else is as in the queue's row
pub record WrittenRow : Type 0 where
  pub path : List ℕ
  pub stopped : Bool
  pub capacity : ℕ
  pub maximum : ℕ
  pub access : Access
  pub leaf : LeafSettings
  pub capacities : List LabelCapacity

-- ---- paths as texts

-- whether a text has more than eight parts between its dots
abbrev pub is_too_deep : List ℕ → Bool
is_too_deep text = nat_lt most_names (length (slice_split is_dot text))

-- a text without its last part: what stands before the last dot, and nothing where there is no dot
abbrev pub above : List ℕ → List ℕ
above [] = []
above (b ∷ text) = if list_any is_dot text then b ∷ above text else []

-- whether two texts are the same but for their last parts
abbrev pub stand_together : List ℕ → List ℕ → Bool
stand_together a b = bytes_eq (above a) (above b)

-- whether there are more than 1,024 rows, or more than 64 whose texts are the same but for their last parts
abbrev pub are_too_many : List WrittenRow → Bool
are_too_many rows = nat_lt most_queues (length rows) || list_any (λ row. nat_lt most_children (length (filter (λ other. stand_together row.path other.path) rows))) rows

-- whether what is read of a text is a queue below root
abbrev pub is_below_root : Result Path PathFault → Bool
is_below_root (Ok []) = false
is_below_root (Ok (name ∷ path)) = true
is_below_root (Err fault) = false

-- the queue that is read, and root where there is none
abbrev pub or_root : Result Path PathFault → Path
or_root (Ok path) = path
or_root (Err fault) = root

-- ---- the tree

-- the row of a queue that is written
unfoldable pub row_of : WrittenRow → QueueRow
row_of row = record {
  path = or_root (read_path row.path);
  stopped = row.stopped;
  capacity = row.capacity;
  maximum = row.maximum;
  access = row.access;
  leaf = row.leaf;
  capacities = row.capacities;
}

-- a draft of these labels and queues; the faults of a tree do not look at its other numbers
unfoldable pub configured : Labels → List QueueRow → Config
configured labels queues = record { labels = labels; queues = queues; containers_per_heartbeat = 1; maximum_allocation = amount 1 1 }

-- the configuration of these labels, queues and numbers, whatever faults it has
abbrev pub made_of : Labels → List WrittenRow → ℕ → Resource → Config
made_of labels rows containers_per_heartbeat maximum_allocation =
    record { labels = labels; queues = map row_of rows; containers_per_heartbeat = containers_per_heartbeat; maximum_allocation = maximum_allocation }

-- the faults of the queues of a configuration as they are written, in their order, each with whether it holds: first those of the paths' texts, then those of the tree
unfoldable pub written_faults : Config → List WrittenRow → List (TreeFault × Bool)
written_faults c rows =
    (TooDeep, list_any (λ row. is_too_deep row.path) rows)
    ∷ (TooMany, are_too_many rows)
    ∷ (BadPath, not (list_all (λ row. is_below_root (read_path row.path)) rows))
    ∷ tree_faults c

-- whether there are more than 1,024 queues, or more than 64 just below one
abbrev pub is_crowded : Config → Bool
is_crowded c = nat_lt most_queues (length c.queues) || list_any (λ queue. nat_lt most_children (length (children c queue))) (all_queues c)

-- what is given where no fault holds, and the fault where one does
abbrev pub unless_fault : {X : Type 0} → Option TreeFault → X → Result X TreeFault
unless_fault None x = Ok x
unless_fault (Some fault) x = Err fault

-- the configuration of these labels, queues and numbers, or the first fault that holds
unfoldable pub built_of : Labels → List WrittenRow → ℕ → Resource → Result Config TreeFault
built_of labels rows containers_per_heartbeat maximum_allocation =
    let c : Config = made_of labels rows containers_per_heartbeat maximum_allocation in
    unless_fault (first_that_holds (written_faults c rows)) c
