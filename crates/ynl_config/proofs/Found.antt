-- The faults that the readings of a text have together.
use Rattle.std.proofs.Common.{◌≡◌, ℕ, true, List, [], ◌∷◌, ◌++◌, Option, Some, None, Result, Ok, Err, refl, sym, ap, ◌∙◌, map, fold}
use Rattle.std.specs.Prelude.{flat_map, codes}
use Rattle.std.specs.Result.{result_err}
use Rattle.std.specs.Option.{option_map_or}
use Rattle.toml.specs.Data.{Data, Items, Members, get_member, as_table, as_array}
use Rattle.ynl_config.specs.declared.faults.ConfigFault.TheVariants.{WrongKind}
use Rattle.ynl_config.specs.declared.values.Version.{Version}
use Rattle.ynl_config.specs.Earliest.{ConfigFault, ◌>>=◌, both, and_one, all_of, made}
use Rattle.ynl_config.specs.Known.{known_keys}
use Rattle.ynl_config.specs.Readings.{or_fault, or_given, text_at, flag_at, number_at, percent_at, name_of, name_at, label_at, stopped_at, version_at, size_at}
use Rattle.ynl_config.specs.Tables.{in_table, in_tables, values_in, pairs_in, label_in, label_row, labels_at, share_in, share_row, share_of, shares_at, bounds_in, bounds_row, leaf_in, leaf_row, access_at, queue_in, queue_row, queues_at, numbers_in, numbers_row, any_version, written_in, written_of}
use Rattle.ynl_resource.specs.Amounts.{amount}
use Rattle.ynl_resource.specs.Ranges.{whole, most_clock}
use Rattle.ynl_config.specs.declared.keys.TableKind.TheVariants as kind
use Rattle.ynl_config.specs.Anywhere.{first_among, fault_in, in_a_table, in_an_array, in_shares, label_faults, share_faults, bounds_faults, leaf_faults, queue_faults, size_faults, number_faults, faults_in}
use Rattle.ynl_config.proofs.Told.{lesser, least, lesser-none, lesser-assoc, least-append, told}

-- the fault of a reading is the earliest of these
record IsEarliest {A : Type 0} (r : Result A ConfigFault) (faults : List ConfigFault) : Type 0 where
  is : result_err r ≡ least faults

alone : {A : Type 0} (r : Result A ConfigFault) → IsEarliest r (fault_in r)
alone (Ok x) = record { is = refl }
alone (Err e) = record { is = refl }

both-err : {A B : Type 0} (a : Result A ConfigFault) (b : Result B ConfigFault) → result_err (both a b) ≡ lesser (result_err a) (result_err b)
both-err (Ok x) (Ok y) = refl
both-err (Ok x) (Err e) = refl
both-err (Err e) (Ok y) = refl
both-err (Err e) (Err f) = refl

-- two readings have the faults of both
with : {A B : Type 0} {a : Result A ConfigFault} {b : Result B ConfigFault} {fs gs : List ConfigFault} → IsEarliest a fs → IsEarliest b gs → IsEarliest (both a b) (fs ++ gs)
with {a = a} {b = b} {fs = fs} {gs = gs} h k =
    record { is = both-err a b ∙ ap (λ x. lesser x (result_err b)) h.is ∙ ap (lesser (least fs)) k.is ∙ sym (least-append fs gs) }

last : {A : Type 0} {r : Result A ConfigFault} {fs : List ConfigFault} → IsEarliest r fs → IsEarliest r (fs ++ [])
last {fs = fs} h = record { is = h.is ∙ sym (least-append fs [] ∙ lesser-none (least fs)) }

made-err : {A B : Type 0} (f : A → B) (r : Result A ConfigFault) → result_err (made f r) ≡ result_err r
made-err f (Ok x) = refl
made-err f (Err e) = refl

of_made : {A B : Type 0} (f : A → B) {r : Result A ConfigFault} {fs : List ConfigFault} → IsEarliest r fs → IsEarliest (made f r) fs
of_made f {r = r} h = record { is = made-err f r ∙ h.is }

then-err : {A B : Type 0} (f : A → B) (r : Result A ConfigFault) → result_err (r >>= λ p. Ok (f p)) ≡ result_err r
then-err f (Ok x) = refl
then-err f (Err e) = refl

of_then : {A B : Type 0} (f : A → B) {r : Result A ConfigFault} {fs : List ConfigFault} → IsEarliest r fs → IsEarliest (r >>= λ p. Ok (f p)) fs
of_then f {r = r} h = record { is = then-err f r ∙ h.is }

-- ---- lists of readings

and_one-err : {A : Type 0} (rows : Result (List A) ConfigFault) (row : Result A ConfigFault) → result_err (and_one rows row) ≡ lesser (result_err rows) (result_err row)
and_one-err (Ok rows) (Ok row) = refl
and_one-err (Ok rows) (Err e) = refl
and_one-err (Err e) (Ok row) = refl
and_one-err (Err e) (Err f) = refl

module _ {D A : Type 0} (read : D → Result A ConfigFault) (faults : D → List ConfigFault) (found : (d : D) → IsEarliest (read d) (faults d)) where
  from : (rows : Result (List A) ConfigFault) (ds : List D) → result_err (fold and_one rows (map read ds)) ≡ lesser (result_err rows) (least (flat_map faults ds))
  from rows [] = sym (lesser-none (result_err rows))
  from rows (d ∷ ds) =
      from (and_one rows (read d)) ds
      ∙ ap (λ e. lesser e (least (flat_map faults ds))) (and_one-err rows (read d) ∙ ap (lesser (result_err rows)) (found d).is)
      ∙ lesser-assoc (result_err rows) (least (faults d)) (least (flat_map faults ds))
      ∙ ap (lesser (result_err rows)) (sym (least-append (faults d) (flat_map faults ds)))

  -- the readings of a list have the faults of all
  all_found : (ds : List D) → IsEarliest (all_of (map read ds)) (flat_map faults ds)
  all_found ds = record { is = from (Ok []) ds }

module _ {A : Type 0} (read : Members → Result A ConfigFault) (faults : Members → List ConfigFault) (found : (ms : Members) → IsEarliest (read ms) (faults ms)) where
  by_table : (o : Option Members) → IsEarliest (or_fault WrongKind o >>= read) (option_map_or faults o (WrongKind ∷ []))
  by_table None = record { is = refl }
  by_table (Some ms) = found ms

  table_found : (d : Data) → IsEarliest (in_table read d) (in_a_table faults d)
  table_found d = by_table (as_table d)

  by_array : (o : Option Items)
      → IsEarliest (or_fault WrongKind o >>= λ ds. all_of (map (in_table read) (values_in ds))) (option_map_or (λ ds. flat_map (in_a_table faults) (values_in ds)) o (WrongKind ∷ []))
  by_array None = record { is = refl }
  by_array (Some ds) = all_found (in_table read) (in_a_table faults) table_found (values_in ds)

  -- the tables of an array have the faults of all
  array_found : (o : Option Data) → IsEarliest (or_given [] (in_tables read) o) (in_an_array faults o)
  array_found None = record { is = refl }
  array_found (Some d) = by_array (as_array d)

-- ---- the rows

label_found : (ms : Members) → IsEarliest (label_in ms) (label_faults ms)
unfolding label_in label_faults
label_found ms =
    of_made label_row
    (with (alone (known_keys kind.Label ms))
    (with (alone (name_at (codes "name") ms))
    (with (alone (flag_at (codes "exclusive") true ms)) (last (alone (number_at (codes "clock-limit") 1 most_clock most_clock ms))))))

share_found : (version : Version) (name : List ℕ) (ms : Members) → IsEarliest (share_in version name ms) (share_faults version name ms)
unfolding share_in share_faults
share_found version name ms =
    of_made share_row
    (with (alone (known_keys kind.LabelCapacity ms))
    (with (alone (name_of name))
    (with (alone (percent_at (codes "capacity") version 0 0 ms)) (last (alone (percent_at (codes "maximum-capacity") version 0 whole ms))))))

pair_found : (version : Version) (p : List ℕ × Data) → IsEarliest (share_of version p) (in_a_table (share_faults version p.0) p.1)
unfolding share_of
pair_found version p = table_found (share_in version p.0) (share_faults version p.0) (share_found version p.0) p.1

by_pairs : (version : Version) (o : Option Members)
    → IsEarliest (or_fault WrongKind o >>= λ table. all_of (map (share_of version) (pairs_in table)))
    (option_map_or (λ table. flat_map (λ p. in_a_table (share_faults version p.0) p.1) (pairs_in table)) o (WrongKind ∷ []))
by_pairs version None = record { is = refl }
by_pairs version (Some table) = all_found (share_of version) (λ p. in_a_table (share_faults version p.0) p.1) (pair_found version) (pairs_in table)

by_shares : (version : Version) (o : Option Data)
    → IsEarliest (or_given [] (λ d. or_fault WrongKind (as_table d) >>= λ table. all_of (map (share_of version) (pairs_in table))) o) (in_shares version o)
by_shares version None = record { is = refl }
by_shares version (Some d) = by_pairs version (as_table d)

shares_found : (version : Version) (ms : Members) → IsEarliest (shares_at version ms) (in_shares version (get_member (codes "label") ms))
unfolding shares_at
shares_found version ms = by_shares version (get_member (codes "label") ms)

bounds_found : (version : Version) (ms : Members) → IsEarliest (bounds_in version ms) (bounds_faults version ms)
unfolding bounds_in bounds_faults
bounds_found version ms =
    of_made bounds_row
    (with (alone (stopped_at (codes "state") ms))
    (with (alone (percent_at (codes "capacity") version 0 0 ms)) (last (alone (percent_at (codes "maximum-capacity") version 0 whole ms)))))

leaf_found : (version : Version) (ms : Members) → IsEarliest (leaf_in version ms) (leaf_faults version ms)
unfolding leaf_in leaf_faults
leaf_found version ms =
    of_made leaf_row
    (with (alone (label_at (codes "default-node-label-expression") ms))
    (with (alone (percent_at (codes "minimum-user-limit-percent") version 1 whole ms))
    (with (alone (number_at (codes "user-limit-factor") 1 10000 100 ms))
    (with (alone (percent_at (codes "maximum-am-resource-percent") version 0 1000 ms)) (last (alone (number_at (codes "maximum-applications") 1 1000000 10000 ms)))))))

queue_found : (version : Version) (ms : Members) → IsEarliest (queue_in version ms) (queue_faults version ms)
unfolding queue_in queue_faults
queue_found version ms =
    of_made queue_row
    (with (alone (known_keys kind.Queue ms))
    (with (alone (text_at (codes "path") ms))
    (with (bounds_found version ms) (with (leaf_found version ms) (with (alone (access_at ms)) (last (shares_found version ms)))))))

size_found : (ms : Members) → IsEarliest (size_at ms) (size_faults ms)
unfolding size_at size_faults
size_found ms =
    of_then (λ p. amount p.0 p.1)
    (with (alone (number_at (codes "maximum-allocation-memory") 1 4294967295 4294967295 ms)) (last (alone (number_at (codes "maximum-allocation-vcores") 1 65536 65536 ms))))

numbers_found : (ms : Members) → IsEarliest (numbers_in ms) (number_faults ms)
unfolding numbers_in number_faults
numbers_found ms =
    of_made numbers_row
    (with (alone (number_at (codes "containers-per-heartbeat") 1 1000 1 ms))
    (with (size_found ms) (last (alone (number_at (codes "default-clock-limit") 1 most_clock most_clock ms)))))

labels_found : (ms : Members) → IsEarliest (labels_at ms) (in_an_array label_faults (get_member (codes "label") ms))
unfolding labels_at
labels_found ms = array_found label_in label_faults label_found (get_member (codes "label") ms)

queues_found : (version : Version) (ms : Members) → IsEarliest (queues_at version ms) (in_an_array (queue_faults version) (get_member (codes "queue") ms))
unfolding queues_at
queues_found version ms = array_found (queue_in version) (queue_faults version) (queue_found version) (get_member (codes "queue") ms)

all_in : (ms : Members) → IsEarliest (written_in ms) (faults_in ms)
unfolding written_in faults_in
all_in ms =
    of_made written_of
    (with (alone (known_keys kind.Top ms))
    (with (alone (version_at ms))
    (with (numbers_found ms) (with (labels_found ms) (last (queues_found (any_version (version_at ms)) ms))))))

-- the fault of what a text says is the first that any of its tables and values has
pub first_told : (ms : Members) → result_err (written_in ms) ≡ first_among (faults_in ms)
first_told ms = (all_in ms).is ∙ told (faults_in ms)
