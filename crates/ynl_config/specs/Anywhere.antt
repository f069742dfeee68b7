-- The faults of all tables and values of a text, and which of them is the first.
use Rattle.std.specs.Prelude.{ℕ, List, [], ◌∷◌, ◌++◌, map, Bool, true, ◌==◌, Option, Some, None, Result, Ok, Err, codes, flat_map}
use Rattle.std.specs.List.{list_any}
use Rattle.std.specs.Option.{option_map_or}
use Rattle.toml.specs.Data.{Data, Members, get_member, as_table, as_array}
use Rattle.ynl_resource.specs.Ranges.{whole, most_clock, most_memory, most_vcores}
use Rattle.ynl_resource.specs.Refusals.{first_that_holds}
use Rattle.ynl_config.specs.declared.keys.TableKind.TheVariants as kind
use Rattle.ynl_config.specs.declared.faults.ConfigFault.TheVariants.{Size, Syntax, UnknownKey, MissingKey, WrongKind, Version as WrongVersion, Range, BadLabel, TooManyLabels, DuplicateLabel, TooDeep, TooMany, BadPath, DuplicateQueue, NoParent, NoSuchLabel, NotSubset, MaximumBelowCapacity, SumNot100}
use Rattle.ynl_config.specs.declared.values.Version.{Version}
use Rattle.ynl_config.specs.Earliest.{ConfigFault, rank}
use Rattle.ynl_config.specs.Known.{known_keys}
use Rattle.ynl_config.specs.Readings.{text_at, flag_at, number_at, percent_at, name_of, name_at, label_at, stopped_at, version_at}
use Rattle.ynl_config.specs.Tables.{values_in, pairs_in, access_at, any_version}

-- ---- which of some faults is the first

-- all faults, in the order in which they are told
abbrev pub all_faults : List ConfigFault
all_faults =
    Size ∷ Syntax ∷ UnknownKey ∷ MissingKey ∷ WrongKind ∷ WrongVersion ∷ Range ∷ BadLabel ∷ TooManyLabels ∷ DuplicateLabel ∷ TooDeep ∷ TooMany ∷ BadPath
    ∷ DuplicateQueue ∷ NoParent ∷ NoSuchLabel ∷ NotSubset ∷ MaximumBelowCapacity ∷ SumNot100 ∷ []

-- whether two faults are the same
abbrev pub same_fault : ConfigFault → ConfigFault → Bool
same_fault a b = rank a == rank b

-- the first of all faults that is among these
abbrev pub first_among : List ConfigFault → Option ConfigFault
first_among found = first_that_holds (map (λ fault. (fault, list_any (same_fault fault) found)) all_faults)

-- ---- the faults of a text

-- the fault of a single value
abbrev pub fault_in : {A : Type 0} → Result A ConfigFault → List ConfigFault
fault_in (Ok x) = []
fault_in (Err e) = e ∷ []

-- the faults of several lists
abbrev pub gathered : List (List ConfigFault) → List ConfigFault
gathered [] = []
gathered (faults ∷ more) = faults ++ gathered more

-- the faults of a table; another value is of the wrong kind
abbrev pub in_a_table : (Members → List ConfigFault) → Data → List ConfigFault
in_a_table faults d = option_map_or faults (as_table d) (WrongKind ∷ [])

-- the faults of an array of tables, which may be absent
abbrev pub in_an_array : (Members → List ConfigFault) → Option Data → List ConfigFault
in_an_array faults None = []
in_an_array faults (Some d) = option_map_or (λ ds. flat_map (in_a_table faults) (values_in ds)) (as_array d) (WrongKind ∷ [])

-- the faults of a label
unfoldable pub label_faults : Members → List ConfigFault
label_faults ms = gathered (
    fault_in (known_keys kind.Label ms) ∷ fault_in (name_at (codes "name") ms) ∷ fault_in (flag_at (codes "exclusive") true ms)
    ∷ fault_in (number_at (codes "clock-limit") 1 most_clock most_clock ms) ∷ [])

-- the faults of a queue's share of the label of this name
unfoldable pub share_faults : Version → List ℕ → Members → List ConfigFault
share_faults version name ms = gathered (
    fault_in (known_keys kind.LabelCapacity ms) ∷ fault_in (name_of name) ∷ fault_in (percent_at (codes "capacity") version 0 0 ms)
    ∷ fault_in (percent_at (codes "maximum-capacity") version 0 whole ms) ∷ [])

-- the faults of a queue's shares of labels, which may be absent
abbrev pub in_shares : Version → Option Data → List ConfigFault
in_shares version None = []
in_shares version (Some d) = option_map_or (λ table. flat_map (λ p. in_a_table (share_faults version p.0) p.1) (pairs_in table)) (as_table d) (WrongKind ∷ [])

-- the faults of a queue's state and of its share of DEFAULT
unfoldable pub bounds_faults : Version → Members → List ConfigFault
bounds_faults version ms = gathered (
    fault_in (stopped_at (codes "state") ms) ∷ fault_in (percent_at (codes "capacity") version 0 0 ms)
    ∷ fault_in (percent_at (codes "maximum-capacity") version 0 whole ms) ∷ [])

-- the faults of the settings that work in leaves alone
unfoldable pub leaf_faults : Version → Members → List ConfigFault
leaf_faults version ms = gathered (
    fault_in (label_at (codes "default-node-label-expression") ms) ∷ fault_in (percent_at (codes "minimum-user-limit-percent") version 1 whole ms)
    ∷ fault_in (number_at (codes "user-limit-factor") 1 10000 100 ms) ∷ fault_in (percent_at (codes "maximum-am-resource-percent") version 0 1000 ms)
    ∷ fault_in (number_at (codes "maximum-applications") 1 1000000 10000 ms) ∷ [])

-- the faults of a queue
unfoldable pub queue_faults : Version → Members → List ConfigFault
queue_faults version ms = gathered (
    fault_in (known_keys kind.Queue ms) ∷ fault_in (text_at (codes "path") ms) ∷ bounds_faults version ms ∷ leaf_faults version ms
    ∷ fault_in (access_at ms) ∷ in_shares version (get_member (codes "label") ms) ∷ [])

-- the faults of the largest request
unfoldable pub size_faults : Members → List ConfigFault
size_faults ms = gathered (
    fault_in (number_at (codes "maximum-allocation-memory") 1 most_memory most_memory ms)
    ∷ fault_in (number_at (codes "maximum-allocation-vcores") 1 most_vcores most_vcores ms) ∷ [])

-- the faults of the numbers that stand beside labels and queues
unfoldable pub number_faults : Members → List ConfigFault
number_faults ms = gathered (
    fault_in (number_at (codes "containers-per-heartbeat") 1 1000 1 ms) ∷ size_faults ms
    ∷ fault_in (number_at (codes "default-clock-limit") 1 most_clock most_clock ms) ∷ [])

-- the faults of all tables and values of a text
unfoldable pub faults_in : Members → List ConfigFault
faults_in ms = gathered (
    fault_in (known_keys kind.Top ms) ∷ fault_in (version_at ms) ∷ number_faults ms ∷ in_an_array label_faults (get_member (codes "label") ms)
    ∷ in_an_array (queue_faults (any_version (version_at ms))) (get_member (codes "queue") ms) ∷ [])
