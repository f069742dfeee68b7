-- The tree of queues: which labels a queue may use, what it is guaranteed and how far it may grow, and which queues are stopped.
use Rattle.std.specs.Prelude.{ℕ, Bool, true, not, ◌&&◌, ◌||◌, List, [], map, find, fold, flat_map, is_some, Option, if◌then◌else◌}
use Rattle.std.specs.List.{list_any}
use Rattle.std.specs.Option.{option_map_or}
use Rattle.ynl_resource.specs.Amounts.{scale_floor}
use Rattle.ynl_resource.specs.declared.amounts.Resource.{Resource}
pub use Rattle.ynl_model.specs.declared.queues.LabelCapacity.{LabelCapacity}
pub use Rattle.ynl_model.specs.declared.queues.LeafSettings.{LeafSettings}
pub use Rattle.ynl_model.specs.declared.queues.MaximumRow.{MaximumRow}
pub use Rattle.ynl_model.specs.declared.queues.StopRow.{StopRow}
use Rattle.ynl_resource.specs.Names.{same_name, same_label, root, same_path, is_within, way_to}
use Rattle.ynl_resource.specs.declared.names.Name.{Name}
use Rattle.ynl_resource.specs.declared.labels.Label.{Label}
use Rattle.ynl_resource.specs.declared.labels.Label.TheVariants.{Unlabelled, Named}
use Rattle.ynl_resource.specs.declared.paths.Path.{Path}
use Rattle.ynl_model.specs.Nodes.{Labels, partition_labels}
use Rattle.ynl_resource.specs.Tables.{update}
use Rattle.ynl_resource.specs.Ranges.{whole}

-- the labels that a row lets its queue use: those of the parent, all, or those listed; every queue may use DEFAULT
pub data Access : Type 0 where
  Inherited : Access
  AllLabels : Access
  Listed : List Name → Access

-- a configured queue. Capacities and maxima are in hundredths of a percent of the parent's; what is set of leaves works in leaves alone
pub record QueueRow : Type 0 where
  pub path : Path
  pub stopped : Bool
  pub capacity : ℕ
  pub maximum : ℕ
  pub access : Access
  pub leaf : LeafSettings
  pub capacities : List LabelCapacity

-- the configuration: labels, queues below root, the most containers that a heartbeat places, and the largest request
pub record Config : Type 0 where
  pub labels : Labels
  pub queues : List QueueRow
  pub containers_per_heartbeat : ℕ
  pub maximum_allocation : Resource

-- the row of a queue
abbrev pub queue_row : Config → Path → Option QueueRow
queue_row c queue = find (λ row. same_path row.path queue) c.queues

-- a setting of a queue, or what stands for it where the queue has no row
abbrev pub setting : {A : Type 0} → (QueueRow → A) → A → Config → Path → A
setting field none c queue = option_map_or field (queue_row c queue) none

-- whether there is such a queue; root is one
abbrev pub is_queue : Config → Path → Bool
is_queue c queue = same_path queue root || is_some (queue_row c queue)

-- whether the queue is a leaf: no other queue is below it; root is none, whatever is below it
unfoldable pub is_leaf : Config → Path → Bool
is_leaf c queue = not (same_path queue root) && not (list_any (λ row. is_within queue row.path && not (same_path queue row.path)) c.queues)

-- the labels that a queue may use, where its parent may use those above
abbrev pub given : List Name → Config → Access → List Name
given above c Inherited = above
given above c AllLabels = map (λ row. row.name) c.labels.rows
given above c (Listed names) = names

-- the labels that a queue may use: all at root, and on the way down those that each row gives
unfoldable pub accessible : Config → Path → List Name
accessible c queue = fold (λ above step. given above c (setting (λ row. row.access) Inherited c step)) (given [] c AllLabels) (way_to queue)

-- whether a queue may use a label; each may use DEFAULT
unfoldable pub may_use : Config → Path → Label → Bool
may_use c queue Unlabelled = true
may_use c queue (Named name) = list_any (same_name name) (accessible c queue)

-- what a row says of a label; where it says nothing, the capacity is 0 and the maximum is all
abbrev pub capacity_row : QueueRow → Name → LabelCapacity
capacity_row row name = option_map_or (λ given. given) (find (λ given. same_name given.label name) row.capacities) (record { label = name; capacity = 0; maximum = whole })

-- the capacity that a row writes for a partition
abbrev pub written_capacity : Label → QueueRow → ℕ
written_capacity Unlabelled row = row.capacity
written_capacity (Named name) row = (capacity_row row name).capacity

-- the maximum that a row writes for a partition
abbrev pub written_maximum : Label → QueueRow → ℕ
written_maximum Unlabelled row = row.maximum
written_maximum (Named name) row = (capacity_row row name).maximum

-- a queue's capacity on a partition, and 0 on a label that it may not use
unfoldable pub capacity_on : Config → Path → Label → ℕ
capacity_on c queue label = if may_use c queue label then setting (written_capacity label) 0 c queue else 0

-- a queue's configured maximum on a partition, and 0 on a label that it may not use
unfoldable pub configured_maximum : Config → Path → Label → ℕ
configured_maximum c queue label = if may_use c queue label then setting (written_maximum label) 0 c queue else 0

-- a maximum for each queue and each partition, at first the configured one
unfoldable pub opening_maxima : Config → List MaximumRow
opening_maxima c = flat_map (λ row. map (λ label. record { queue = row.path; label = label; share = configured_maximum c row.path label }) (partition_labels c.labels)) c.queues

-- whether a row of the maxima is that of the queue and the partition
abbrev pub is_maximum_of : Path → Label → MaximumRow → Bool
is_maximum_of queue label row = same_path row.queue queue && same_label row.label label

-- a queue's present maximum on a partition: the configured one, until an event sets another
unfoldable pub maximum_on : List MaximumRow → Path → Label → ℕ
maximum_on maxima queue label = option_map_or (λ row. row.share) (find (is_maximum_of queue label) maxima) 0

-- a queue's maximum on a partition is set
abbrev pub set_maximum : Path → Label → ℕ → List MaximumRow → List MaximumRow
set_maximum queue label share maxima = update (is_maximum_of queue label) (λ row. record row { share = share }) maxima

-- the amount that reaches a queue from a total at root, where each queue on the way gets its share of what its parent has, rounded down
abbrev pub nested_floor : (Path → ℕ) → Path → Resource → Resource
nested_floor share queue amount = fold (λ above step. scale_floor above (share step) whole) amount (way_to queue)

-- the most that a queue may use of a partition's total
unfoldable pub maximum : List MaximumRow → Path → Label → Resource → Resource
maximum maxima queue label total = nested_floor (λ step. maximum_on maxima step label) queue total

-- what a queue is guaranteed of a partition's total
unfoldable pub guaranteed : Config → Path → Label → Resource → Resource
guaranteed c queue label total = nested_floor (λ step. capacity_on c step label) queue total

-- a mark for each queue, at first the configured one
abbrev pub opening_stops : Config → List StopRow
opening_stops c = map (λ row. record { queue = row.path; stopped = row.stopped }) c.queues

-- the queue is stopped, or started again
abbrev pub set_stop : Path → Bool → List StopRow → List StopRow
set_stop queue stopped stops = update (λ row. same_path row.queue queue) (λ row. record row { stopped = stopped }) stops

-- whether neither the leaf nor a queue above it is stopped
unfoldable pub accepts : List StopRow → Path → Bool
accepts stops leaf = not (list_any (λ row. row.stopped && is_within row.queue leaf) stops)
