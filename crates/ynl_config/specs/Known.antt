-- The keys that the tables of a configuration may have.
use Rattle.std.specs.Prelude.{ℕ, List, Bool, true, ◌&&◌, ◌||◌, Result, Ok, Err, codes, if◌then◌else◌}
use Rattle.std.specs.Str.{bytes_eq}
use Rattle.toml.specs.Data.{Members, no_members, member}
use Rattle.ynl_config.specs.declared.keys.TableKind.{TableKind}
use Rattle.ynl_config.specs.declared.keys.TableKind.TheVariants.{Top, Label, Queue, LabelCapacity}
use Rattle.ynl_config.specs.Earliest.{ConfigFault}
use Rattle.ynl_config.specs.declared.faults.ConfigFault.TheVariants.{UnknownKey}

-- the keys of the whole text
abbrev pub is_top_key : List ℕ → Bool
is_top_key key =
    bytes_eq key (codes "version") || bytes_eq key (codes "containers-per-heartbeat") || bytes_eq key (codes "maximum-allocation-memory")
    || bytes_eq key (codes "maximum-allocation-vcores") || bytes_eq key (codes "default-clock-limit") || bytes_eq key (codes "label") || bytes_eq key (codes "queue")

-- the keys of a label
abbrev pub is_label_key : List ℕ → Bool
is_label_key key = bytes_eq key (codes "name") || bytes_eq key (codes "exclusive") || bytes_eq key (codes "clock-limit")

-- a queue's share of a label has a capacity and a maximum
abbrev pub is_share_key : List ℕ → Bool
is_share_key key = bytes_eq key (codes "capacity") || bytes_eq key (codes "maximum-capacity")

-- a queue has these of DEFAULT, and its own settings
abbrev pub is_queue_key : List ℕ → Bool
is_queue_key key =
    is_share_key key || bytes_eq key (codes "path") || bytes_eq key (codes "state") || bytes_eq key (codes "accessible-node-labels")
    || bytes_eq key (codes "default-node-label-expression") || bytes_eq key (codes "minimum-user-limit-percent") || bytes_eq key (codes "user-limit-factor")
    || bytes_eq key (codes "maximum-am-resource-percent") || bytes_eq key (codes "maximum-applications") || bytes_eq key (codes "label")

-- whether a table may have the key
unfoldable pub is_known : TableKind → List ℕ → Bool
is_known Top key = is_top_key key
is_known Label key = is_label_key key
is_known Queue key = is_queue_key key
is_known LabelCapacity key = is_share_key key

-- whether a table may have all its keys
abbrev pub all_known : TableKind → Members → Bool
all_known kind no_members = true
all_known kind (member key d ms) = is_known kind key && all_known kind ms

-- the fault of a key that a table may not have
unfoldable pub known_keys : TableKind → Members → Result (Unit {0}) ConfigFault
known_keys kind ms = if all_known kind ms then Ok tt else Err UnknownKey
