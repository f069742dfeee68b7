-- What a text means is accepted: its numbers are in range, and neither its labels nor its queues have a fault.
use Rattle.std.proofs.Common.{◌≡◌, ◌≤◌, ◌*◌, ◌&&◌, ℕ, Bool, true, false, List, [], ◌∷◌, map, fold, Option, Some, None, Result, Ok, Err, IfOk, refl, sym, ap, ◌∙◌, arith, if◌then◌else◌, nat_le, nat_lt, length, is_none, codes}
use Rattle.std.proofs.lemmas.Bool.{leb-true, le-leb}
use Rattle.std.proofs.lemmas.List.Folds.{list_all-append, list_all-map}
use Rattle.std.proofs.lemmas.Result.{IfOk-weaker}
use Rattle.std.specs.List.{list_all}
use Rattle.toml.specs.Data.{Data, Members, get_member, as_integer, as_table, as_array}
use Rattle.ynl_resource.specs.Amounts.{amount}
use Rattle.ynl_resource.specs.Ranges.{whole, most_clock}
use Rattle.ynl_resource.specs.declared.amounts.Resource.{Resource}
use Rattle.ynl_resource.specs.Refusals.{first_that_holds}
use Rattle.ynl_model.specs.Nodes.{Labels}
use Rattle.ynl_model.specs.declared.labels.LabelRow.{LabelRow}
use Rattle.ynl_model.specs.Queues.{Access, Config}
use Rattle.ynl_model.specs.declared.queues.LabelCapacity.{LabelCapacity}
use Rattle.ynl_model.specs.Accepted.{label_faults, tree_faults, row_in_range, in_range, is_accepted}
use Rattle.ynl_model.specs.declared.faults.LabelFault.{LabelFault}
use Rattle.ynl_model.specs.declared.faults.TreeFault.{TreeFault}
use Rattle.ynl_queues.specs.labels.Built.{unless_fault, labels_of}
use Rattle.ynl_queues.specs.Written.{WrittenRow, row_of, made_of, built_of}
use Rattle.ynl_queues.proofs.Faultless.{built_faultless}
use Rattle.ynl_config.specs.declared.keys.TableKind.TheVariants as kind
use Rattle.ynl_config.specs.declared.queues.Bounds.{Bounds}
use Rattle.ynl_model.specs.declared.queues.LeafSettings.{LeafSettings}
use Rattle.ynl_config.specs.declared.written.Numbers.{Numbers}
use Rattle.ynl_config.specs.declared.faults.ConfigFault.TheVariants as fault
use Rattle.ynl_config.specs.declared.values.Version.{Version}
use Rattle.ynl_config.specs.declared.values.Version.TheVariants.{Whole, Hundredth}
use Rattle.ynl_config.specs.Earliest.{ConfigFault, ◌>>=◌, both, and_one, all_of, made}
use Rattle.ynl_config.specs.Known.{known_keys}
use Rattle.ynl_config.specs.Readings.{or_fault, or_given, natural, within, number_of, number_at, percent_of, percent_at, unit, text_at, name_of, label_at, stopped_at, version_at, size_at}
use Rattle.ynl_config.specs.Tables.{QueueParts, values_in, pairs_in, in_table, in_tables, capacities_at, share_parts, share_row, share_in, share_of, shares_at, bounds_parts, bounds_row, bounds_in, leaf_parts, leaf_row, leaf_in, access_at, queue_parts, queue_row, queue_in, queues_at, labels_at, number_parts, numbers_row, numbers_in, WrittenConfig, any_version, parts_in, written_of, written_in}
use Rattle.ynl_config.specs.Meaning.{label_fault, tree_fault, told_as, built, reading, most_bytes, config_of}

-- ---- of readings that are put together

both_if : {A B : Type 0} (P : A → Type 0) (Q : B → Type 0) (a : Result A ConfigFault) (b : Result B ConfigFault) → IfOk a P → IfOk b Q → IfOk (both a b) (λ (p : A × B). P p.0 × Q p.1)
both_if P Q (Ok x) (Ok y) p q = (p, q)
both_if P Q (Ok x) (Err e) p q = tt
both_if P Q (Err e) (Ok y) p q = tt
both_if P Q (Err e) (Err f) p q = tt

-- and of two alone
second_if : {A B : Type 0} (Q : B → Type 0) (a : Result A ConfigFault) (b : Result B ConfigFault) → IfOk b Q → IfOk (both a b) (λ (p : A × B). Q p.1)
second_if Q (Ok x) (Ok y) q = q
second_if Q (Ok x) (Err e) q = tt
second_if Q (Err e) (Ok y) q = tt
second_if Q (Err e) (Err f) q = tt

made_if : {A B : Type 0} (P : B → Type 0) (f : A → B) (a : Result A ConfigFault) → IfOk a (λ x. P (f x)) → IfOk (made f a) P
made_if P f (Ok x) p = p
made_if P f (Err e) p = tt

-- whatever is read first, what follows decides
then_if : {A B : Type 0} (P : B → Type 0) (a : Result A ConfigFault) (f : A → Result B ConfigFault) → ((x : A) → IfOk (f x) P) → IfOk (a >>= f) P
then_if P (Ok x) f each = each x
then_if P (Err e) f each = tt

then_given : {A B : Type 0} (Q : A → Type 0) (P : B → Type 0) (a : Result A ConfigFault) (f : A → Result B ConfigFault) → IfOk a Q → ((x : A) → Q x → IfOk (f x) P) → IfOk (a >>= f) P
then_given Q P (Ok x) f q each = each x q
then_given Q P (Err e) f q each = tt

given_if : {A : Type 0} (P : A → Type 0) (given : A) (read : Data → Result A ConfigFault) (d : Option Data) → P given → ((d : Data) → IfOk (read d) P) → IfOk (or_given given read d) P
given_if P given read None p each = p
given_if P given read (Some d) p each = each d

one_more : {A : Type 0} (p : A → Bool) (rows : Result (List A) ConfigFault) (row : Result A ConfigFault) → IfOk rows (λ xs. list_all p xs ≡ true) → IfOk row (λ x. p x ≡ true)
    → IfOk (and_one rows row) (λ xs. list_all p xs ≡ true)
one_more p (Ok xs) (Ok x) h k = list_all-append p xs (x ∷ []) ∙ (λ i. h i && (k i && true))
one_more p (Ok xs) (Err e) h k = tt
one_more p (Err e) (Ok x) h k = tt
one_more p (Err e) (Err f) h k = tt

all_if : {X A : Type 0} (p : A → Bool) (read : X → Result A ConfigFault) → ((x : X) → IfOk (read x) (λ y. p y ≡ true)) → (xs : List X) (rows : Result (List A) ConfigFault)
    → IfOk rows (λ ys. list_all p ys ≡ true) → IfOk (fold and_one rows (map read xs)) (λ ys. list_all p ys ≡ true)
all_if p read each [] rows h = h
all_if p read each (x ∷ xs) rows h = all_if p read each xs (and_one rows (read x)) (one_more p rows (read x) h (each x))

-- ---- numbers

-- a number is from the first to the second
abbrev IsWithin : ℕ → ℕ → ℕ → Type 0
IsWithin low high n = (nat_le low n && nat_le n high) ≡ true

within_if : (low high n : ℕ) → IfOk (within low high n) (IsWithin low high)
within_if low high n = go (nat_le low n && nat_le n high) refl
  where
    go : (b : Bool) → (nat_le low n && nat_le n high) ≡ b → IfOk (if b then Ok n else Err fault.Range) (IsWithin low high)
    go true h = h
    go false h = tt

number_if : (low high : ℕ) (d : Data) → IfOk (number_of low high d) (IsWithin low high)
unfolding number_of
number_if low high d =
    then_if (IsWithin low high) (or_fault fault.WrongKind (as_integer d)) (λ z. or_fault fault.Range (natural z) >>= λ n. within low high n)
    (λ z. then_if (IsWithin low high) (or_fault fault.Range (natural z)) (λ n. within low high n) (within_if low high))

number_at_if : (key : List ℕ) (low high given : ℕ) (ms : Members) → IsWithin low high given → IfOk (number_at key low high given ms) (IsWithin low high)
unfolding number_at
number_at_if key low high given ms h = given_if (IsWithin low high) given (number_of low high) (get_member key ms) h (number_if low high)

split : (a b : Bool) → (a && b) ≡ true → (a ≡ true) × (b ≡ true)
split true b h = (refl, h)
split false b h = absurd cc

join : (a b : Bool) → a ≡ true → b ≡ true → (a && b) ≡ true
join a b h k = λ i. h i && k i

-- a percentage is no less in hundredths of a percent
more : (version : Version) (low n : ℕ) → low ≤ n → low ≤ n * unit version
more Whole low n h = omega arith
more Hundredth low n h = omega arith

scaled : (version : Version) (low n : ℕ) → IsWithin low whole n → IfOk (within 0 whole (n * unit version)) (IsWithin low whole)
scaled version low n h = go (nat_le 0 (n * unit version) && nat_le (n * unit version) whole) refl
  where
    go : (b : Bool) → (nat_le 0 (n * unit version) && nat_le (n * unit version) whole) ≡ b → IfOk (if b then Ok (n * unit version) else Err fault.Range) (IsWithin low whole)
    go true e =
        join (nat_le low (n * unit version)) (nat_le (n * unit version) whole)
        (le-leb low (n * unit version) (more version low n (leb-true low n (split (nat_le low n) (nat_le n whole) h).0)))
        (split (nat_le 0 (n * unit version)) (nat_le (n * unit version) whole) e).1
    go false e = tt

percent_if : (version : Version) (low : ℕ) (d : Data) → IfOk (percent_of version low d) (IsWithin low whole)
unfolding percent_of
percent_if version low d = then_given (IsWithin low whole) (IsWithin low whole) (number_of low whole d) (λ n. within 0 whole (n * unit version)) (number_if low whole d) (scaled version low)

percent_at_if : (key : List ℕ) (version : Version) (low given : ℕ) (ms : Members) → IsWithin low whole given → IfOk (percent_at key version low given ms) (IsWithin low whole)
unfolding percent_at
percent_at_if key version low given ms h = given_if (IsWithin low whole) given (percent_of version low) (get_member key ms) h (percent_if version low)

-- ---- rows

-- capacity and maximum are at most the whole
abbrev AreShares : ℕ × ℕ → Type 0
AreShares p = (nat_le p.0 whole ≡ true) × (nat_le p.1 whole ≡ true)

capacities_if : (version : Version) (ms : Members) → IfOk (capacities_at version ms) AreShares
capacities_if version ms = IfOk-weaker (capacities_at version ms) (λ (p : ℕ × ℕ). IsWithin 0 whole p.0 × IsWithin 0 whole p.1) AreShares
    (λ p h. ((split (nat_le 0 p.0) (nat_le p.0 whole) h.0).1, (split (nat_le 0 p.1) (nat_le p.1 whole) h.1).1))
    (both_if (IsWithin 0 whole) (IsWithin 0 whole) (percent_at (codes "capacity") version 0 0 ms) (percent_at (codes "maximum-capacity") version 0 whole ms)
    (percent_at_if (codes "capacity") version 0 0 ms refl) (percent_at_if (codes "maximum-capacity") version 0 whole ms refl))

abbrev is_share : LabelCapacity → Bool
is_share share = nat_le share.capacity whole && nat_le share.maximum whole

share_if : (version : Version) (name : List ℕ) (ms : Members) → IfOk (share_in version name ms) (λ s. is_share s ≡ true)
unfolding share_in
share_if version name ms = made_if (λ s. is_share s ≡ true) share_row (share_parts version name ms)
    (second_if (λ p. is_share (share_row (tt, p)) ≡ true) (known_keys kind.LabelCapacity ms) (both (name_of name) (capacities_at version ms))
    (second_if (λ q. (nat_le q.0 whole && nat_le q.1 whole) ≡ true) (name_of name) (capacities_at version ms)
    (IfOk-weaker (capacities_at version ms) AreShares (λ (q : ℕ × ℕ). (nat_le q.0 whole && nat_le q.1 whole) ≡ true) (λ q h. join (nat_le q.0 whole) (nat_le q.1 whole) h.0 h.1) (capacities_if version ms))))

shares_if : (version : Version) (ms : Members) → IfOk (shares_at version ms) (λ xs. list_all is_share xs ≡ true)
unfolding shares_at share_of
shares_if version ms = given_if (λ xs. list_all is_share xs ≡ true) [] (λ d. or_fault fault.WrongKind (as_table d) >>= λ table. all_of (map (share_of version) (pairs_in table))) (get_member (codes "label") ms) refl
    (λ d. then_if (λ xs. list_all is_share xs ≡ true) (or_fault fault.WrongKind (as_table d)) (λ table. all_of (map (share_of version) (pairs_in table)))
    (λ table. all_if is_share (share_of version)
    (λ pair. then_if (λ s. is_share s ≡ true) (or_fault fault.WrongKind (as_table pair.1)) (share_in version pair.0) (share_if version pair.0)) (pairs_in table) (Ok []) refl))

bounds_if : (version : Version) (ms : Members) → IfOk (bounds_in version ms) (λ b. AreShares (b.capacity, b.maximum))
unfolding bounds_in
bounds_if version ms = made_if (λ b. AreShares (b.capacity, b.maximum)) bounds_row (bounds_parts version ms)
    (second_if AreShares (stopped_at (codes "state") ms) (capacities_at version ms) (capacities_if version ms))

-- the settings of a leaf are in range
abbrev IsLeaf : LeafSettings → Type 0
IsLeaf l = IsWithin 1 whole l.minimum_user_limit_percent × (IsWithin 1 10000 l.user_limit_factor × (IsWithin 0 whole l.maximum_am_resource_percent × IsWithin 1 1000000 l.maximum_applications))

leaf_if : (version : Version) (ms : Members) → IfOk (leaf_in version ms) IsLeaf
unfolding leaf_in
leaf_if version ms =
    let user = percent_at (codes "minimum-user-limit-percent") version 1 whole ms in
    let factor = number_at (codes "user-limit-factor") 1 10000 100 ms in
    let masters = percent_at (codes "maximum-am-resource-percent") version 0 1000 ms in
    let most = number_at (codes "maximum-applications") 1 1000000 10000 ms in
    made_if IsLeaf leaf_row (leaf_parts version ms)
    (second_if (λ (p : ℕ × (ℕ × (ℕ × ℕ))). IsWithin 1 whole p.0 × (IsWithin 1 10000 p.1.0 × (IsWithin 0 whole p.1.1.0 × IsWithin 1 1000000 p.1.1.1)))
    (label_at (codes "default-node-label-expression") ms) (both user (both factor (both masters most)))
    (both_if (IsWithin 1 whole) (λ (p : ℕ × (ℕ × ℕ)). IsWithin 1 10000 p.0 × (IsWithin 0 whole p.1.0 × IsWithin 1 1000000 p.1.1)) user (both factor (both masters most))
    (percent_at_if (codes "minimum-user-limit-percent") version 1 whole ms refl)
    (both_if (IsWithin 1 10000) (λ (p : ℕ × ℕ). IsWithin 0 whole p.0 × IsWithin 1 1000000 p.1) factor (both masters most)
    (number_at_if (codes "user-limit-factor") 1 10000 100 ms refl)
    (both_if (IsWithin 0 whole) (IsWithin 1 1000000) masters most
    (percent_at_if (codes "maximum-am-resource-percent") version 0 1000 ms refl) (number_at_if (codes "maximum-applications") 1 1000000 10000 ms refl)))))

-- a queue as it is written has a row in range
abbrev fits : WrittenRow → Bool
fits row = row_in_range (row_of row)

-- the facts of a row's parts
abbrev AreInRange : Bounds × (LeafSettings × (Access × List LabelCapacity)) → Type 0
AreInRange p = AreShares (p.0.capacity, p.0.maximum) × (IsLeaf p.1.0 × (list_all is_share p.1.1.1 ≡ true))

row_fits : (p : QueueParts) → AreInRange p.1.1 → fits (queue_row p) ≡ true
unfolding row_of
row_fits p h =
    λ i. h.0.0 i && h.0.1 i && h.1.0.0 i && h.1.0.1.0 i && (split (nat_le 0 p.1.1.1.0.maximum_am_resource_percent) (nat_le p.1.1.1.0.maximum_am_resource_percent whole) h.1.0.1.1.0).1 i && h.1.0.1.1.1 i && h.1.1 i

queue_if : (version : Version) (ms : Members) → IfOk (queue_in version ms) (λ row. fits row ≡ true)
unfolding queue_in
queue_if version ms =
    let bounds = bounds_in version ms in
    let leaf = leaf_in version ms in
    let shares = shares_at version ms in
    made_if (λ row. fits row ≡ true) queue_row (queue_parts version ms)
    (IfOk-weaker (queue_parts version ms) (λ (p : QueueParts). AreInRange p.1.1) (λ (p : QueueParts). fits (queue_row p) ≡ true) row_fits
    (second_if (λ (p : List ℕ × (Bounds × (LeafSettings × (Access × List LabelCapacity)))). AreInRange p.1) (known_keys kind.Queue ms) (both (text_at (codes "path") ms) (both bounds (both leaf (both (access_at ms) shares))))
    (second_if AreInRange (text_at (codes "path") ms) (both bounds (both leaf (both (access_at ms) shares)))
    (both_if (λ (b : Bounds). AreShares (b.capacity, b.maximum)) (λ (p : LeafSettings × (Access × List LabelCapacity)). IsLeaf p.0 × (list_all is_share p.1.1 ≡ true)) bounds (both leaf (both (access_at ms) shares)) (bounds_if version ms)
    (both_if IsLeaf (λ (p : Access × List LabelCapacity). list_all is_share p.1 ≡ true) leaf (both (access_at ms) shares) (leaf_if version ms)
    (second_if (λ xs. list_all is_share xs ≡ true) (access_at ms) shares (shares_if version ms)))))))

queues_if : (version : Version) (ms : Members) → IfOk (queues_at version ms) (λ rows. list_all fits rows ≡ true)
unfolding queues_at
queues_if version ms = given_if (λ rows. list_all fits rows ≡ true) [] (in_tables (queue_in version)) (get_member (codes "queue") ms) refl
    (λ d. then_if (λ rows. list_all fits rows ≡ true) (or_fault fault.WrongKind (as_array d)) (λ ds. all_of (map (in_table (queue_in version)) (values_in ds)))
    (λ ds. all_if fits (in_table (queue_in version))
    (λ e. then_if (λ row. fits row ≡ true) (or_fault fault.WrongKind (as_table e)) (queue_in version) (queue_if version)) (values_in ds) (Ok []) refl))

-- ---- the whole text

abbrev IsSized : Resource → Type 0
IsSized size = IsWithin 1 4294967295 size.memory × IsWithin 1 65536 size.vcores

size_if : (ms : Members) → IfOk (size_at ms) IsSized
unfolding size_at
size_if ms =
    let memory = number_at (codes "maximum-allocation-memory") 1 4294967295 4294967295 ms in
    let vcores = number_at (codes "maximum-allocation-vcores") 1 65536 65536 ms in
    then_given (λ (p : ℕ × ℕ). IsWithin 1 4294967295 p.0 × IsWithin 1 65536 p.1) IsSized (both memory vcores) (λ p. Ok (amount p.0 p.1))
    (both_if (IsWithin 1 4294967295) (IsWithin 1 65536) memory vcores
    (number_at_if (codes "maximum-allocation-memory") 1 4294967295 4294967295 ms refl) (number_at_if (codes "maximum-allocation-vcores") 1 65536 65536 ms refl))
    (λ p h. h)

abbrev AreNumbers : Numbers → Type 0
AreNumbers n = IsWithin 1 1000 n.containers_per_heartbeat × IsSized n.maximum_allocation

numbers_if : (ms : Members) → IfOk (numbers_in ms) AreNumbers
unfolding numbers_in
numbers_if ms =
    let heartbeat = number_at (codes "containers-per-heartbeat") 1 1000 1 ms in
    let limit = number_at (codes "default-clock-limit") 1 most_clock most_clock ms in
    made_if AreNumbers numbers_row (number_parts ms)
    (both_if (IsWithin 1 1000) (λ (p : Resource × ℕ). IsSized p.0) heartbeat (both (size_at ms) limit)
    (number_at_if (codes "containers-per-heartbeat") 1 1000 1 ms refl)
    (IfOk-weaker (both (size_at ms) limit) (λ (p : Resource × ℕ). IsSized p.0 × IsWithin 1 most_clock p.1) (λ (p : Resource × ℕ). IsSized p.0) (λ p h. h.0)
    (both_if IsSized (IsWithin 1 most_clock) (size_at ms) limit (size_if ms) (number_at_if (codes "default-clock-limit") 1 most_clock most_clock ms refl))))

abbrev pub IsInRange : WrittenConfig → Type 0
IsInRange w = AreNumbers w.numbers × (list_all fits w.queues ≡ true)

written_if : (ms : Members) → IfOk (written_in ms) IsInRange
unfolding written_in
written_if ms =
    let queues = queues_at (any_version (version_at ms)) ms in
    made_if IsInRange written_of (parts_in ms)
    (second_if (λ (p : Version × (Numbers × (List LabelRow × List WrittenRow))). AreNumbers p.1.0 × (list_all fits p.1.1.1 ≡ true)) (known_keys kind.Top ms) (both (version_at ms) (both (numbers_in ms) (both (labels_at ms) queues)))
    (second_if (λ (p : Numbers × (List LabelRow × List WrittenRow)). AreNumbers p.0 × (list_all fits p.1.1 ≡ true)) (version_at ms) (both (numbers_in ms) (both (labels_at ms) queues))
    (both_if AreNumbers (λ (p : List LabelRow × List WrittenRow). list_all fits p.1 ≡ true) (numbers_in ms) (both (labels_at ms) queues) (numbers_if ms)
    (second_if (λ rows. list_all fits rows ≡ true) (labels_at ms) queues (queues_if (any_version (version_at ms)) ms)))))

-- labels that are given have no fault
labels_ok : (fault : Option LabelFault) (labels made : Labels) → unless_fault fault labels ≡ Ok made → (fault ≡ None) × (labels ≡ made)
labels_ok None labels made h = (refl, cc)
labels_ok (Some fault) labels made h = absurd cc

accepted_of : (w : WrittenConfig) (labels : Labels) (c : Config) → IsInRange w → labels_of w.labels w.numbers.default_limit ≡ Ok labels → built_of labels w.queues w.numbers.containers_per_heartbeat w.numbers.maximum_allocation ≡ Ok c
    → is_accepted c ≡ true
unfolding is_accepted in_range labels_of
accepted_of w labels c h made planted =
    let given : Labels = record { rows = w.labels; default_limit = w.numbers.default_limit } in
    let of_labels = labels_ok (first_that_holds (label_faults given)) given labels made in
    let no_label_fault : first_that_holds (label_faults labels) ≡ None = ap (λ (l : Labels). first_that_holds (label_faults l)) (sym of_labels.1) ∙ of_labels.0 in
    let all : Config = made_of labels w.queues w.numbers.containers_per_heartbeat w.numbers.maximum_allocation in
    let of_tree = built_faultless labels w.queues w.numbers.containers_per_heartbeat w.numbers.maximum_allocation c planted in
    let no_tree_fault : first_that_holds (tree_faults all) ≡ None = ap (λ (c : Config). first_that_holds (tree_faults c)) of_tree.0 ∙ of_tree.1 in
    let rows : list_all row_in_range all.queues ≡ true = list_all-map row_in_range row_of w.queues ∙ h.1 in
    ap is_accepted (sym of_tree.0) ∙ (λ i. (h.0.0 i && h.0.1.0 i && h.0.1.1 i && rows i) && is_none (no_label_fault i) && is_none (no_tree_fault i))

built_if : (w : WrittenConfig) → IsInRange w → IfOk (built w) (λ c. is_accepted c ≡ true)
unfolding built
built_if w h = with_labels (labels_of w.labels w.numbers.default_limit) refl
  where
    of : Labels → Result Config TreeFault
    of labels = built_of labels w.queues w.numbers.containers_per_heartbeat w.numbers.maximum_allocation

    with_queues : (labels : Labels) → labels_of w.labels w.numbers.default_limit ≡ Ok labels → (r : Result Config TreeFault) → of labels ≡ r → IfOk (told_as tree_fault r) (λ c. is_accepted c ≡ true)
    with_queues labels made (Ok c) planted = accepted_of w labels c h made planted
    with_queues labels made (Err e) planted = tt

    with_labels : (r : Result Labels LabelFault) → labels_of w.labels w.numbers.default_limit ≡ r → IfOk (told_as label_fault r >>= λ labels. told_as tree_fault (of labels)) (λ c. is_accepted c ≡ true)
    with_labels (Ok labels) made = with_queues labels made (of labels) refl
    with_labels (Err e) made = tt

-- what a text means is accepted
pub accepted_if : (text : List ℕ) → IfOk (config_of text) (λ c. is_accepted c ≡ true)
unfolding config_of
accepted_if text = go (nat_lt most_bytes (length text))
  where
    go : (b : Bool) → IfOk (if b then Err fault.Size else (or_fault fault.Syntax (reading text) >>= λ ms. written_in ms >>= built)) (λ c. is_accepted c ≡ true)
    go true = tt
    go false =
        then_if (λ c. is_accepted c ≡ true) (or_fault fault.Syntax (reading text)) (λ ms. written_in ms >>= built)
        (λ ms. then_given IsInRange (λ c. is_accepted c ≡ true) (written_in ms) built (written_if ms) built_if)
