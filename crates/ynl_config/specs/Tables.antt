-- The rows of a configuration, read from its tables: all values of a row, or the earliest of their faults.
use Rattle.std.specs.Prelude.{ℕ, List, [], ◌∷◌, map, Bool, true, Result, Ok, Err, codes}
use Rattle.toml.specs.Data.{Data, Items, no_items, item, Members, no_members, member, get_member, as_table, as_array}
use Rattle.ynl_resource.specs.Ranges.{whole, most_clock}
use Rattle.ynl_resource.specs.declared.amounts.Resource.{Resource}
use Rattle.ynl_resource.specs.declared.names.Name.{Name}
use Rattle.ynl_resource.specs.declared.labels.Label.{Label}
use Rattle.ynl_model.specs.declared.labels.LabelRow.{LabelRow}
use Rattle.ynl_model.specs.Queues.{Access, Inherited}
use Rattle.ynl_model.specs.declared.queues.LabelCapacity.{LabelCapacity}
use Rattle.ynl_queues.specs.Written.{WrittenRow}
use Rattle.ynl_config.specs.declared.keys.TableKind.TheVariants as kind
use Rattle.ynl_config.specs.declared.faults.ConfigFault.TheVariants as fault
use Rattle.ynl_config.specs.declared.values.Version.{Version}
use Rattle.ynl_config.specs.declared.values.Version.TheVariants.{Whole}
use Rattle.ynl_config.specs.declared.queues.Bounds.{Bounds}
use Rattle.ynl_model.specs.declared.queues.LeafSettings.{LeafSettings}
use Rattle.ynl_config.specs.declared.written.Numbers.{Numbers}
use Rattle.ynl_config.specs.Earliest.{ConfigFault, ◌>>=◌, both, all_of, made}
use Rattle.ynl_config.specs.Known.{known_keys}
use Rattle.ynl_config.specs.Readings.{or_fault, or_given, text_at, flag_at, number_at, percent_at, name_of, name_at, label_at, stopped_at, version_at, size_at}
use Rattle.ynl_config.specs.Access.{access_of}

-- the values of an array
abbrev pub values_in : Items → List Data
values_in no_items = []
values_in (item d ds) = d ∷ values_in ds

-- the keys and values of a table
abbrev pub pairs_in : Members → List (List ℕ × Data)
pairs_in no_members = []
pairs_in (member key d ms) = (key, d) ∷ pairs_in ms

-- what a table says; another value has the fault of its kind
abbrev pub in_table : {A : Type 0} → (Members → Result A ConfigFault) → Data → Result A ConfigFault
in_table read d = or_fault fault.WrongKind (as_table d) >>= read

-- what the tables of an array say
abbrev pub in_tables : {A : Type 0} → (Members → Result A ConfigFault) → Data → Result (List A) ConfigFault
in_tables read d = or_fault fault.WrongKind (as_array d) >>= λ ds. all_of (map (in_table read) (values_in ds))

-- ---- labels

-- a label's parts: it is exclusive where the text does not say otherwise, and its clock goes as far as clocks go
abbrev pub label_parts : Members → Result (Unit {0} × (Name × (Bool × ℕ))) ConfigFault
label_parts ms =
    both (known_keys kind.Label ms)
    (both (name_at (codes "name") ms) (both (flag_at (codes "exclusive") true ms) (number_at (codes "clock-limit") 1 most_clock most_clock ms)))

-- the label of its parts
abbrev pub label_row : Unit {0} × (Name × (Bool × ℕ)) → LabelRow
label_row p = record { name = p.1.0; exclusive = p.1.1.0; limit = p.1.1.1 }

-- a label
unfoldable pub label_in : Members → Result LabelRow ConfigFault
label_in ms = made label_row (label_parts ms)

-- the labels of a text
unfoldable pub labels_at : Members → Result (List LabelRow) ConfigFault
labels_at ms = or_given [] (in_tables label_in) (get_member (codes "label") ms)

-- ---- queues

-- capacity and maximum: nothing, and up to all, where the text does not say otherwise
abbrev pub capacities_at : Version → Members → Result (ℕ × ℕ) ConfigFault
capacities_at version ms = both (percent_at (codes "capacity") version 0 0 ms) (percent_at (codes "maximum-capacity") version 0 whole ms)

-- what a table says of a queue's share of the label of this name
abbrev pub share_parts : Version → List ℕ → Members → Result (Unit {0} × (Name × (ℕ × ℕ))) ConfigFault
share_parts version name ms = both (known_keys kind.LabelCapacity ms) (both (name_of name) (capacities_at version ms))

-- the share of its parts
abbrev pub share_row : Unit {0} × (Name × (ℕ × ℕ)) → LabelCapacity
share_row p = record { label = p.1.0; capacity = p.1.1.0; maximum = p.1.1.1 }

-- a queue's share of the label of this name
unfoldable pub share_in : Version → List ℕ → Members → Result LabelCapacity ConfigFault
share_in version name ms = made share_row (share_parts version name ms)

-- the share that a label's name and its value say
unfoldable pub share_of : Version → List ℕ × Data → Result LabelCapacity ConfigFault
share_of version pair = in_table (share_in version pair.0) pair.1

-- a queue's shares of labels
unfoldable pub shares_at : Version → Members → Result (List LabelCapacity) ConfigFault
shares_at version ms =
    or_given [] (λ d. or_fault fault.WrongKind (as_table d) >>= λ table. all_of (map (share_of version) (pairs_in table))) (get_member (codes "label") ms)

-- what a queue's table says of its state and of its share of DEFAULT
abbrev pub bounds_parts : Version → Members → Result (Bool × (ℕ × ℕ)) ConfigFault
bounds_parts version ms = both (stopped_at (codes "state") ms) (capacities_at version ms)

-- these of their parts
abbrev pub bounds_row : Bool × (ℕ × ℕ) → Bounds
bounds_row p = record { stopped = p.0; capacity = p.1.0; maximum = p.1.1 }

-- whether a queue is stopped, and its share of DEFAULT
unfoldable pub bounds_in : Version → Members → Result Bounds ConfigFault
bounds_in version ms = made bounds_row (bounds_parts version ms)

-- the settings that work in leaves alone: a user may take all of a leaf once over, masters a tenth of it
abbrev pub leaf_parts : Version → Members → Result (Label × (ℕ × (ℕ × (ℕ × ℕ)))) ConfigFault
leaf_parts version ms =
    both (label_at (codes "default-node-label-expression") ms)
    (both (percent_at (codes "minimum-user-limit-percent") version 1 whole ms)
    (both (number_at (codes "user-limit-factor") 1 10000 100 ms)
    (both (percent_at (codes "maximum-am-resource-percent") version 0 1000 ms) (number_at (codes "maximum-applications") 1 1000000 10000 ms))))

-- a leaf's settings of their parts
abbrev pub leaf_row : Label × (ℕ × (ℕ × (ℕ × ℕ))) → LeafSettings
leaf_row p = record { default_label = p.0; minimum_user_limit_percent = p.1.0; user_limit_factor = p.1.1.0; maximum_am_resource_percent = p.1.1.1.0; maximum_applications = p.1.1.1.1 }

-- a leaf's settings
unfoldable pub leaf_in : Version → Members → Result LeafSettings ConfigFault
leaf_in version ms = made leaf_row (leaf_parts version ms)

-- the labels that a queue may use: its parent's where the text does not say otherwise
unfoldable pub access_at : Members → Result Access ConfigFault
access_at ms = or_given Inherited access_of (get_member (codes "accessible-node-labels") ms)

-- the row of these settings
abbrev pub row_of : List ℕ → Bounds → LeafSettings → Access → List LabelCapacity → WrittenRow
row_of path bounds leaf access capacities = record {
  path = path;
  stopped = bounds.stopped;
  capacity = bounds.capacity;
  maximum = bounds.maximum;
  access = access;
  leaf = leaf;
  capacities = capacities;
}

-- the keys of a queue, its path, its settings, the labels that it may use, and its shares of labels
abbrev pub QueueParts : Type 0
QueueParts = Unit {0} × (List ℕ × (Bounds × (LeafSettings × (Access × List LabelCapacity))))

-- what a queue's table says
abbrev pub queue_parts : Version → Members → Result QueueParts ConfigFault
queue_parts version ms =
    both (known_keys kind.Queue ms)
    (both (text_at (codes "path") ms) (both (bounds_in version ms) (both (leaf_in version ms) (both (access_at ms) (shares_at version ms)))))

-- the queue of its parts
abbrev pub queue_row : QueueParts → WrittenRow
queue_row p = row_of p.1.0 p.1.1.0 p.1.1.1.0 p.1.1.1.1.0 p.1.1.1.1.1

-- a queue
unfoldable pub queue_in : Version → Members → Result WrittenRow ConfigFault
queue_in version ms = made queue_row (queue_parts version ms)

-- the queues of a text
unfoldable pub queues_at : Version → Members → Result (List WrittenRow) ConfigFault
queues_at version ms = or_given [] (in_tables (queue_in version)) (get_member (codes "queue") ms)

-- ---- the whole text

-- the most containers that a heartbeat places, the largest request, and how far the clock of DEFAULT goes
abbrev pub number_parts : Members → Result (ℕ × (Resource × ℕ)) ConfigFault
number_parts ms =
    both (number_at (codes "containers-per-heartbeat") 1 1000 1 ms)
    (both (size_at ms) (number_at (codes "default-clock-limit") 1 most_clock most_clock ms))

-- these of their parts
abbrev pub numbers_row : ℕ × (Resource × ℕ) → Numbers
numbers_row p = record { containers_per_heartbeat = p.0; maximum_allocation = p.1.0; default_limit = p.1.1 }

-- the numbers that stand beside labels and queues
unfoldable pub numbers_in : Members → Result Numbers ConfigFault
numbers_in ms = made numbers_row (number_parts ms)

-- a configuration as it is written
pub record WrittenConfig : Type 0 where
  pub numbers : Numbers
  pub labels : List LabelRow
  pub queues : List WrittenRow

-- the version; where it has a fault, that is told before those of the percentages, so they may be read by any
abbrev pub any_version : Result Version ConfigFault → Version
any_version (Ok version) = version
any_version (Err e) = Whole

-- the keys of a text, its version, its numbers, labels and queues
abbrev pub Parts : Type 0
Parts = Unit {0} × (Version × (Numbers × (List LabelRow × List WrittenRow)))

-- what a text says
abbrev pub parts_in : Members → Result Parts ConfigFault
parts_in ms =
    both (known_keys kind.Top ms)
    (both (version_at ms) (both (numbers_in ms) (both (labels_at ms) (queues_at (any_version (version_at ms)) ms))))

-- the configuration of its parts
abbrev pub written_of : Parts → WrittenConfig
written_of p = record { numbers = p.1.1.0; labels = p.1.1.1.0; queues = p.1.1.1.1 }

-- all that a text says, or the earliest fault of its tables and values
unfoldable pub written_in : Members → Result WrittenConfig ConfigFault
written_in ms = made written_of (parts_in ms)
