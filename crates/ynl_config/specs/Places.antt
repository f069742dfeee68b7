-- Where a fault of a text's tables and values is: the first place in the order of the tables, and in a table of its keys by their bytes.
use Rattle.std.specs.Prelude.{ℕ, ◌+◌, ℤ, pos, List, [], ◌∷◌, map, find, length, Bool, true, false, not, nat_le, Option, Some, None, option_map, option_and_then, is_ok, is_none, is_some, string_bytes, Result, Ok, Err, codes, if◌then◌else◌}
use Rattle.std.specs.List.{list_all, slice_split}
use Rattle.std.specs.Option.{option_or}
use Rattle.std.specs.Str.{bytes_eq}
use Rattle.toml.specs.Data.{Data, Members, get_member, as_str, as_integer, as_table, as_array}
use Rattle.ynl_resource.specs.Ranges.{whole, most_clock, most_memory, most_vcores}
use Rattle.ynl_resource.specs.Refusals.{first_that_holds}
use Rattle.ynl_config.specs.declared.places.ToldValue.{ToldValue}
use Rattle.ynl_config.specs.declared.places.ToldValue.TheVariants as kept
use Rattle.ynl_config.specs.declared.places.RowKind.{RowKind}
use Rattle.ynl_config.specs.declared.places.RowKind.TheVariants.{Label, Queue}
use Rattle.ynl_config.specs.declared.places.Place.{Place as Kept}
use Rattle.ynl_config.specs.declared.keys.TableKind.{TableKind}
use Rattle.ynl_config.specs.declared.keys.TableKind.TheVariants as kind
use Rattle.ynl_config.specs.declared.faults.ConfigFault.TheVariants.{UnknownKey, WrongKind, Version as WrongVersion, Range, BadLabel}
use Rattle.ynl_config.specs.declared.values.Version.{Version}
use Rattle.ynl_config.specs.Access.{is_comma, trimmed}
use Rattle.ynl_config.specs.Anywhere.{same_fault}
use Rattle.ynl_config.specs.Earliest.{ConfigFault, ◌>>=◌}
use Rattle.ynl_config.specs.Known.{is_known}
use Rattle.ynl_config.specs.Readings.{or_fault, or_given, text_at, flag_at, number_at, percent_at, name_of, name_at, label_at, stopped_at, version_at}
use Rattle.ynl_config.specs.Tables.{values_in, pairs_in, access_at, any_version}

-- ---- what is told

-- what is told of a value: a text or an integer
pub data Shown : Type 0 where
  of_text : List ℕ → Shown
  of_integer : ℤ → Shown

-- a text of at most 256 bytes is told
abbrev pub told_text : List ℕ → Option Shown
told_text s = if nat_le (length s) 256 then Some (of_text s) else None

abbrev pub told_by : Option (List ℕ) → Option ℤ → Option Shown
told_by (Some s) z = told_text s
told_by None z = option_map of_integer z

-- a value is told if it is such a text or an integer
unfoldable pub told : Data → Option Shown
told d = told_by (as_str d) (as_integer d)

-- what is told of the value at a key
abbrev pub told_at : List ℕ → Members → Option Shown
told_at key ms = option_and_then told (get_member key ms)

-- what is told, as it is kept
abbrev pub told_of : ToldValue → Shown
told_of (kept.Text s) = of_text (string_bytes s)
told_of (kept.Integer z) = of_integer z
told_of (kept.Count n) = of_integer (pos n)

-- ---- places

-- a place, and what is told of the fault there
pub record Place : Type 0 where
  pub table : Option RowKind
  pub row : Option ℕ
  pub queue : Option Shown
  pub label : Option Shown
  pub key : Option Shown
  pub value : Option Shown
  pub line : Option ℕ
  pub capacity : Option ℕ
  pub maximum : Option ℕ
  pub sum : Option ℕ

-- a place, as it is kept
abbrev pub place_of : Kept → Place
place_of p = record {
  table = p.table;
  row = p.row;
  queue = option_map told_of p.queue;
  label = option_map told_of p.label;
  key = option_map told_of p.key;
  value = option_map told_of p.value;
  line = p.line;
  capacity = p.capacity;
  maximum = p.maximum;
  sum = p.sum;
}

-- the place of which nothing is told
abbrev pub nowhere : Place
nowhere = record { table = None; row = None; queue = None; label = None; key = None; value = None; line = None; capacity = None; maximum = None; sum = None }

-- the place of the row of this number, with its name
abbrev pub at_row : RowKind → ℕ → Option Shown → Place
at_row Label n name = record nowhere { table = Some Label; row = Some n; label = name }
at_row Queue n name = record nowhere { table = Some Queue; row = Some n; queue = name }

-- the key of the rows
abbrev pub row_word : RowKind → List ℕ
row_word Label = codes "label"
row_word Queue = codes "queue"

-- the first place that is found at the n-th thing and those behind it
abbrev pub first_from : {X : Type 0} → (ℕ → X → Option Place) → ℕ → List X → Option Place
first_from place n [] = None
first_from place n (x ∷ xs) = option_or (place n x) (first_from place (n + 1) xs)

-- ---- at which key of a table a fault is

-- whether a reading has the fault
abbrev pub has : {A : Type 0} → ConfigFault → Result A ConfigFault → Bool
has fault (Ok x) = false
has fault (Err e) = same_fault fault e

-- the keys of a table, by their bytes
abbrev pub keys_in : Members → List (List ℕ)
keys_in ms = map (λ p. p.0) (pairs_in ms)

-- the first key that a table may not have
unfoldable pub unknown_key : TableKind → Members → Option (List ℕ)
unknown_key kind ms = find (λ key. not (is_known kind key)) (keys_in ms)

-- a key that the table may not have, or else the first of those that have the fault
abbrev pub key_with : ConfigFault → Option (List ℕ) → List (List ℕ × Bool) → Option (List ℕ)
key_with UnknownKey unknown keys = unknown
key_with fault unknown keys = first_that_holds keys

-- whether a value is a table
abbrev pub is_table : Data → Bool
is_table d = is_some (as_table d)

-- an array of tables, if anything stands at the key
unfoldable pub rows_at : List ℕ → Members → Result (Unit {0}) ConfigFault
rows_at key ms = or_given tt (λ d. or_fault WrongKind (as_array d) >>= λ ds. if list_all is_table (values_in ds) then Ok tt else Err WrongKind) (get_member key ms)

-- the keys of the whole text, each with whether it has the fault
unfoldable pub top_keys : ConfigFault → Members → List (List ℕ × Bool)
top_keys fault ms =
    (codes "containers-per-heartbeat", has fault (number_at (codes "containers-per-heartbeat") 1 1000 1 ms))
    ∷ (codes "default-clock-limit", has fault (number_at (codes "default-clock-limit") 1 most_clock most_clock ms))
    ∷ (codes "label", has fault (rows_at (codes "label") ms))
    ∷ (codes "maximum-allocation-memory", has fault (number_at (codes "maximum-allocation-memory") 1 most_memory most_memory ms))
    ∷ (codes "maximum-allocation-vcores", has fault (number_at (codes "maximum-allocation-vcores") 1 most_vcores most_vcores ms))
    ∷ (codes "queue", has fault (rows_at (codes "queue") ms))
    ∷ (codes "version", has fault (version_at ms)) ∷ []

abbrev pub top_key : ConfigFault → Members → Option (List ℕ)
top_key fault ms = key_with fault (unknown_key kind.Top ms) (top_keys fault ms)

-- the keys of a label
unfoldable pub label_keys : ConfigFault → Members → List (List ℕ × Bool)
label_keys fault ms =
    (codes "clock-limit", has fault (number_at (codes "clock-limit") 1 most_clock most_clock ms))
    ∷ (codes "exclusive", has fault (flag_at (codes "exclusive") true ms))
    ∷ (codes "name", has fault (name_at (codes "name") ms)) ∷ []

abbrev pub label_key : ConfigFault → Members → Option (List ℕ)
label_key fault ms = key_with fault (unknown_key kind.Label ms) (label_keys fault ms)

-- the keys of a queue's share of a label
unfoldable pub share_keys : ConfigFault → Version → Members → List (List ℕ × Bool)
share_keys fault version ms =
    (codes "capacity", has fault (percent_at (codes "capacity") version 0 0 ms))
    ∷ (codes "maximum-capacity", has fault (percent_at (codes "maximum-capacity") version 0 whole ms)) ∷ []

abbrev pub share_key : ConfigFault → Version → Members → Option (List ℕ)
share_key fault version ms = key_with fault (unknown_key kind.LabelCapacity ms) (share_keys fault version ms)

-- whether a text is the name of a label
abbrev pub is_name : List ℕ → Bool
is_name text = is_ok (name_of text)

-- a table whose keys are names, if anything stands at `label`
unfoldable pub names_at : Members → Result (Unit {0}) ConfigFault
names_at ms = or_given tt (λ d. or_fault WrongKind (as_table d) >>= λ shares. if list_all is_name (keys_in shares) then Ok tt else Err BadLabel) (get_member (codes "label") ms)

-- the keys of a queue
unfoldable pub queue_keys : ConfigFault → Version → Members → List (List ℕ × Bool)
queue_keys fault version ms =
    (codes "accessible-node-labels", has fault (access_at ms))
    ∷ (codes "capacity", has fault (percent_at (codes "capacity") version 0 0 ms))
    ∷ (codes "default-node-label-expression", has fault (label_at (codes "default-node-label-expression") ms))
    ∷ (codes "label", has fault (names_at ms))
    ∷ (codes "maximum-am-resource-percent", has fault (percent_at (codes "maximum-am-resource-percent") version 0 1000 ms))
    ∷ (codes "maximum-applications", has fault (number_at (codes "maximum-applications") 1 1000000 10000 ms))
    ∷ (codes "maximum-capacity", has fault (percent_at (codes "maximum-capacity") version 0 whole ms))
    ∷ (codes "minimum-user-limit-percent", has fault (percent_at (codes "minimum-user-limit-percent") version 1 whole ms))
    ∷ (codes "path", has fault (text_at (codes "path") ms))
    ∷ (codes "state", has fault (stopped_at (codes "state") ms))
    ∷ (codes "user-limit-factor", has fault (number_at (codes "user-limit-factor") 1 10000 100 ms)) ∷ []

abbrev pub queue_key : ConfigFault → Version → Members → Option (List ℕ)
queue_key fault version ms = key_with fault (unknown_key kind.Queue ms) (queue_keys fault version ms)

-- ---- a place at a key

-- the faults whose value is told
abbrev pub tells_value : ConfigFault → Bool
tells_value WrongKind = true
tells_value WrongVersion = true
tells_value Range = true
tells_value _ = false

abbrev pub told_value : ConfigFault → List ℕ → Members → Option Shown
told_value fault key ms = if tells_value fault then told_at key ms else None

-- the place at a key of a table, which has the first place itself
abbrev pub at_key : ConfigFault → Place → Members → List ℕ → Place
at_key fault place ms key = record place { key = told_text key; value = told_value fault key ms }

-- ---- the top level, and labels

unfoldable pub place_at_top : ConfigFault → Members → Option Place
place_at_top fault ms = option_map (at_key fault nowhere ms) (top_key fault ms)

unfoldable pub place_in_label : ConfigFault → ℕ → Members → Option Place
place_in_label fault n ms = option_map (at_key fault (at_row Label n (told_at (codes "name") ms)) ms) (label_key fault ms)

-- ---- queues

-- the place of a queue's row
abbrev pub row_of_queue : ℕ → Members → Place
row_of_queue n ms = at_row Queue n (told_at (codes "path") ms)

-- the first part of a list of labels that is none
abbrev pub bad_part : List ℕ → Option (List ℕ)
bad_part text = find (λ part. not (is_name (trimmed part))) (slice_split is_comma text)

-- the first of the labels that a queue's row lists which is none, in the order written
abbrev pub bad_label_listed : Members → Option Shown
bad_label_listed ms =
    option_and_then (λ part. told_text (trimmed part))
    (option_and_then (λ text. bad_part (trimmed text)) (option_and_then as_str (get_member (codes "accessible-node-labels") ms)))

-- the table of a queue's shares of labels
abbrev pub shares_in : Members → Option Members
shares_in ms = option_and_then as_table (get_member (codes "label") ms)

-- the first key of a queue's shares that is no label's name
abbrev pub bad_label_named : Members → Option Shown
bad_label_named ms = option_and_then told_text (option_and_then (λ shares. find (λ key. not (is_name key)) (keys_in shares)) (shares_in ms))

-- the label at fault at a key of a queue's row
abbrev pub bad_label : Members → List ℕ → Option Shown
bad_label ms key =
    if bytes_eq key (codes "accessible-node-labels") then bad_label_listed ms
    else if bytes_eq key (codes "label") then bad_label_named ms
    else told_at key ms

-- the place at a key of a queue's row
abbrev pub at_queue_key : ConfigFault → ℕ → Members → List ℕ → Place
at_queue_key fault n ms key =
    let place : Place = at_key fault (row_of_queue n ms) ms key in
    if same_fault fault BadLabel then record place { label = bad_label ms key } else place

-- the table of a queue's share of the label of this name
abbrev pub share_table : Members → List ℕ → Option Members
share_table shares name = option_and_then as_table (get_member name shares)

-- a share that is no table is a value of its row's key `label`
abbrev pub at_no_table : ℕ → Members → Members → List ℕ → Place
at_no_table n ms shares name =
    record (row_of_queue n ms) { key = told_text (codes "label"); label = told_text name; value = told_at name shares }

unfoldable pub place_without_table : ConfigFault → ℕ → Members → Members → Option Place
place_without_table fault n ms shares =
    if same_fault fault WrongKind then option_map (at_no_table n ms shares) (find (λ name. is_none (share_table shares name)) (keys_in shares)) else None

-- the key at which a queue's share of the label of this name has the fault
abbrev pub key_in_share : ConfigFault → Version → Members → List ℕ → Option (List ℕ)
key_in_share fault version shares name = option_and_then (share_key fault version) (share_table shares name)

-- the place in a queue's share of the label of this name
unfoldable pub place_in_share : ConfigFault → Place → Version → Members → List ℕ → Option Place
place_in_share fault row version shares name =
    option_and_then (λ share. option_map (at_key fault (record row { label = told_text name }) share) (share_key fault version share)) (share_table shares name)

-- the place in a queue's shares: those that are no tables, and then the tables by their names
abbrev pub place_in : ConfigFault → Version → ℕ → Members → Members → Option Place
place_in fault version n ms shares =
    option_or (place_without_table fault n ms shares)
    (option_and_then (place_in_share fault (row_of_queue n ms) version shares) (find (λ name. is_some (key_in_share fault version shares name)) (keys_in shares)))

unfoldable pub place_in_shares : ConfigFault → Version → ℕ → Members → Option Place
place_in_shares fault version n ms = option_and_then (place_in fault version n ms) (shares_in ms)

-- the place in a queue: at a key of its row, and then in its shares
unfoldable pub place_in_queue : ConfigFault → Version → ℕ → Members → Option Place
place_in_queue fault version n ms = option_or (option_map (at_queue_key fault n ms) (queue_key fault version ms)) (place_in_shares fault version n ms)

-- ---- the whole text

abbrev pub place_in_table : ConfigFault → Version → RowKind → ℕ → Members → Option Place
place_in_table fault version Label n ms = place_in_label fault n ms
place_in_table fault version Queue n ms = place_in_queue fault version n ms

-- the place in the row of this number, if it is a table
abbrev pub place_in_row : ConfigFault → Version → RowKind → ℕ → Data → Option Place
place_in_row fault version kind n d = option_and_then (place_in_table fault version kind n) (as_table d)

-- the place in the rows of a kind
unfoldable pub place_in_kind : ConfigFault → RowKind → Members → Option Place
place_in_kind fault kind ms =
    option_and_then (λ ds. first_from (place_in_row fault (any_version (version_at ms)) kind) 1 (values_in ds)) (option_and_then as_array (get_member (row_word kind) ms))

-- the first place of a fault that a single table or value has
unfoldable pub place_in_tables : ConfigFault → Members → Option Place
place_in_tables fault ms = option_or (place_at_top fault ms) (option_or (place_in_kind fault Label ms) (place_in_kind fault Queue ms))
