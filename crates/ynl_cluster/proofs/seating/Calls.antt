-- What the calls find: the lanes against the rows after a container was placed, or went.
use Rattle.std.proofs.Common.{◌≡◌, ℕ, Bool, true, false, not, ◌&&◌, ◌||◌, List, [], ◌∷◌, ◌++◌, length, slice_get, Option, Some, None, find, is_some, nat_eq, ◌==◌, true≢false, refl, sym, ap, subst, ◌∙◌, inl, inr}
use mathlib.Core.Logic.{◌⊎◌}
use Rattle.std.specs.Map.{lookup}
use Rattle.std.specs.Option.{option_and_then, option_map_or}
use Rattle.std.specs.List.{list_any}
use Rattle.std.proofs.lemmas.Bool.{and_from, and_parts, cases_eq, eqb-true, or_left, or_right}
use Rattle.std.proofs.lemmas.Option.{none-some, slice_get_within}
use Rattle.ynl_resource.specs.Amounts.{plus}
use Rattle.ynl_resource.specs.declared.amounts.Resource.{Resource}
use Rattle.ynl_laws.proofs.Lists.{Each-find}
use Rattle.ynl_slots.proofs.Entries.{itself}
use Rattle.ynl_slots.proofs.Lists.{all_from}
use Rattle.ynl_tables.specs.apps.Asks.{is_ask_of}
use Rattle.ynl_tables.specs.declared.apps.asks.Ask.{Ask}
use Rattle.ynl_slots.specs.Slots.{IsLive, without}
use Rattle.ynl_tables.specs.apps.Apps.{with_change}
use Rattle.ynl_tables.specs.declared.containers.container.Container.{Container}
use Rattle.ynl_tables.specs.declared.containers.container.Role.{Role}
use Rattle.ynl_tables.specs.declared.containers.container.Role.TheVariants.{Master, Ask as Asked}
use Rattle.ynl_lanes.specs.lane.Seats.{Seats, nothing_waits}
use Rattle.ynl_inventory.specs.Rows.{Rows, PartitionRow, NodeRow, AppRow}
use Rattle.ynl_inventory.specs.Apps.{is_guest_role, is_master_role, runs_at}
use Rattle.ynl_inventory.specs.Changes.{next_clock_at, next_container, partition_of_node, with_dropped, with_ended, with_taken}
use Rattle.ynl_inventory.specs.Parts.{containers_of}
use Rattle.ynl_inventory.specs.Sound.{CanTake, HasPartition, IsAskedOn, IsSound, MayHave}
use Rattle.ynl_inventory.proofs.Lookups.{live-found, read-changed}
use Rattle.ynl_cluster.specs.seating.Seating.{is_shared, shares, waits_at, waits_if}
use Rattle.ynl_cluster.specs.seating.Steps.{AreSeatedButFor, AreUsedBut, IsEnded, WasPlaced, CameToStand, IsPlaced, OnlyIf, waits_anew}
use Rattle.ynl_cluster.proofs.seating.Anew.{not-meant, taken-waits}
use Rattle.ynl_cluster.proofs.seating.Carrying.{ChangesContainers, found-after, is_master_of, others-still}
use Rattle.ynl_cluster.proofs.seating.Coming.{guest-came, guest-went, home-came, home-went}
use Rattle.ynl_cluster.proofs.seating.Entered.{home-shared}
use Rattle.ynl_cluster.proofs.seating.SeatLists.{KeepsSeats}
use Rattle.ynl_cluster.proofs.seating.RowChanges.{dropped-changes, ended-changes, itself-keeps, placed-changes, same-rows, stood-changes, taken-keeps}

-- where a container of an application may stand: its master at home; and what was asked for where the application shares, there or as a guest of DEFAULT
abbrev MayStand : ℕ → AppRow → Role → Type 0
MayStand p row Master = p ≡ row.home
MayStand p row (Asked asked priority) = (shares asked row ≡ true) × ((p ≡ asked) ⊎ (asked ≡ 0))

-- an application shares the partitions on which it may ask
asked-shares : (row : AppRow) (asked : ℕ) → IsAskedOn row.home asked → shares asked row ≡ true
asked-shares row asked (inl is) = or_right (nat_eq asked 0) (nat_eq row.home asked) (ap (nat_eq row.home) is ∙ itself row.home)
asked-shares row asked (inr is) = or_left (nat_eq asked 0) (nat_eq row.home asked) (ap (λ m. nat_eq m 0) is)

-- what was asked for on a partition stands there, or is a guest
there-or-guest : (asked p : ℕ) (guests : Bool) → (asked ≡ p) ⊎ ((asked ≡ 0) × (guests ≡ true)) → (p ≡ asked) ⊎ (asked ≡ 0)
there-or-guest asked p guests (inl is) = inl (sym is)
there-or-guest asked p guests (inr is) = inr is.0

-- what is placed may stand there
may-stand : (v : Rows) → IsSound v → (app : ℕ) (row : AppRow) → lookup (nat_eq app) v.apps ≡ Some row → (p : ℕ) (guests : Bool) (r : Role) → CanTake v app p guests row r → MayStand p row r
may-stand v sound app row found p guests Master can = sym can.0
may-stand v sound app row found p guests (Asked asked priority) can = (go (find (is_ask_of asked priority) row.asks) refl can.0, there-or-guest asked p guests can.1)
  where
    go : (o : Option Ask) → find (is_ask_of asked priority) row.asks ≡ o → is_some o ≡ true → shares asked row ≡ true
    go None is some = absurd (true≢false (sym some))
    go (Some ask) is some =
        let its = Each-find (λ ask. IsAskedOn row.home ask.partition) (is_ask_of asked priority) row.asks
        (all_from (λ ask. IsAskedOn row.home ask.partition) row.asks (sound.apps app row found).asked) ask is in
        let same : ask.partition ≡ asked = eqb-true ask.partition asked (and_parts (ask.partition == asked) (ask.priority == priority) its.1).0 in
        ap (λ m. shares m row) (sym same) ∙ asked-shares row ask.partition its.0

-- so may what comes to stand
may-have : (v : Rows) (app : ℕ) (row : AppRow) (p : ℕ) (guests : Bool) (r : Role) → MayHave v app p guests row r → MayStand p row r
may-have v app row p guests Master may = sym may.0
may-have v app row p guests (Asked asked priority) may = (asked-shares row asked may.0, there-or-guest asked p guests may.1)

-- how a container comes to a node: of which application, where that may have it, and what it changes
record HasCome (number node app : ℕ) (r : Role) (size : Resource) (before v : Rows) : Type 0 where
  clock : ℕ
  row : AppRow
  found : lookup (nat_eq app) before.apps ≡ Some row
  may : MayStand (partition_of_node before.nodes node) row r
  touch : AppRow → AppRow
  keeps : KeepsSeats touch
  same : is_master_role r ≡ false → nat_eq (length (touch row).asks) (length row.asks) ≡ true → (runs : Bool) (q : ℕ) → waits_if runs q row ≡ waits_if runs q (touch row)
  apps : v.apps ≡ with_change app touch before.apps
  place : partition_of_node v.nodes node ≡ partition_of_node before.nodes node
  changes : ChangesContainers (partition_of_node before.nodes node) (λ es. es ++ (number, record { clock = clock; node = node; app = app; role = r; size = size }) ∷ []) before v

module _ (number node app : ℕ) (r : Role) (size : Resource) (before v : Rows) where
  abbrev p : ℕ
  p = partition_of_node before.nodes node

  module _ (row : NodeRow) (found : lookup (nat_eq node) before.nodes ≡ Some row) where
    -- the node's partition
    stands : p ≡ row.partition
    stands = ap (λ o. option_map_or (λ (row : NodeRow). row.partition) o 0) found

    has-place : (part : PartitionRow) → slice_get before.partitions row.partition ≡ Some part → HasPartition before p
    has-place part there = subst (HasPartition before) (sym stands) (slice_get_within before.partitions row.partition part there)

  -- one that is placed
  placed-came : IsSound before → WasPlaced number node app r size before v → HasCome number node app r size before v
  placed-came sound placed = record {
    clock = next_clock_at before.partitions p;
    row = placed.can.app_row;
    found = placed.can.app_found;
    may =
        subst (λ m. MayStand m placed.can.app_row r) (sym (stands placed.can.node_row placed.can.node_found))
        (may-stand before sound app placed.can.app_row placed.can.app_found placed.can.node_row.partition placed.can.partition.guests r placed.can.role);
    touch = with_taken r;
    keeps = taken-keeps r;
    same = taken-waits r placed.can.app_row;
    apps = ap (λ (w : Rows). w.apps) placed.rows;
    place =
        ap (λ (w : Rows). partition_of_node w.nodes node) placed.rows
        ∙ read-changed (λ (row : NodeRow). row.partition) 0 node node (λ row. record row { stamp = next_clock_at before.partitions p }) (λ row. refl) before.nodes;
    changes =
        subst (ChangesContainers p (λ es. es ++ (number, next_container before node app r size) ∷ []) before) (sym placed.rows)
        (placed-changes before number node app r size (has-place placed.can.node_row placed.can.node_found placed.can.partition placed.can.partition_found));
  }

  -- one that comes to stand
  stood-came : CameToStand number node app r size before v → HasCome number node app r size before v
  stood-came stood = record {
    clock = stood.clock;
    row = stood.can.app_row;
    found = stood.can.app_found;
    may =
        subst (λ m. MayStand m stood.can.app_row r) (sym (stands stood.can.node_row stood.can.node_found))
        (may-have before app stood.can.app_row stood.can.node_row.partition stood.can.partition.guests r stood.can.role);
    touch = λ row. row;
    keeps = itself-keeps;
    same = λ off many runs q. refl;
    apps = ap (λ (w : Rows). w.apps) stood.rows ∙ sym (same-rows app before.apps);
    place = ap (λ (w : Rows). partition_of_node w.nodes node) stood.rows;
    changes =
        subst (ChangesContainers p (λ es. es ++ (number, record { clock = stood.clock; node = node; app = app; role = r; size = size }) ∷ []) before) (sym stood.rows)
        (stood-changes before p number (record { clock = stood.clock; node = node; app = app; role = r; size = size })
        (has-place stood.can.node_row stood.can.node_found stood.can.partition stood.can.partition_found));
  }

  has-come : IsSound before → (WasPlaced number node app r size before v ⊎ CameToStand number node app r size before v) → HasCome number node app r size before v
  has-come sound (inl placed) = placed-came sound placed
  has-come sound (inr stood) = stood-came stood

module _ (node app : ℕ) (r : Role) (size : Resource) (asked : ℕ) (v : Rows) (lanes : List (List Seats)) (start : IsPlaced node app r size asked v lanes) where
  came : HasCome start.number node app r size start.before v
  came = has-come start.number node app r size start.before v start.sound start.came

  abbrev place : ℕ
  place = partition_of_node start.before.nodes node

  abbrev container : Container
  container = record { clock = came.clock; node = node; app = app; role = r; size = size }

  -- its application shares the partition, unless it is a guest there
  shared : is_shared start.before.apps place (start.number, container) ≡ true
  shared =
      ap (λ o. is_guest_role place r || option_map_or (shares place) o false) came.found ∙ by r came.may
    where
      by : (role : Role) → MayStand place came.row role → (is_guest_role place role || shares place came.row) ≡ true
      by Master home = ap (λ m. shares m came.row) home ∙ home-shared came.row
      by (Asked asked priority) (own, inl same) = or_right (is_guest_role place (Asked asked priority)) (shares place came.row) (ap (λ m. shares m came.row) same ∙ own)
      by (Asked asked priority) (own, inr default) = go (nat_eq place 0)
        where
          go : (b : Bool) → ((nat_eq asked 0 && not b) || (b || nat_eq came.row.home place)) ≡ true
          go true = or_right (nat_eq asked 0 && false) true refl
          go false = or_left (nat_eq asked 0 && true) (nat_eq came.row.home place) (and_from (nat_eq asked 0) true (ap (λ m. nat_eq m 0) default) refl)

  -- whether something else may wait of it
  abbrev anew : Bool
  anew = waits_anew v app r asked

  -- else it asks for as much as before
  asks-now : option_map_or (λ (row : AppRow). length row.asks) (lookup (nat_eq app) v.apps) 0 ≡ length (came.touch came.row).asks
  asks-now = ap (λ o. option_map_or (λ (row : AppRow). length row.asks) o 0) (found-after start.before v app came.touch came.keeps came.apps came.row came.found)

  asks-before : asked ≡ length came.row.asks
  asks-before = sym start.asks ∙ ap (λ o. option_map_or (λ (row : AppRow). length row.asks) o 0) came.found

  as-before : anew ≡ false → (is_master_role r ≡ false) × (nat_eq (length (came.touch came.row).asks) (length came.row.asks) ≡ true)
  as-before off = go (is_master_role r) (nat_eq (length (came.touch came.row).asks) (length came.row.asks)) (sym (λ i. is_master_role r || not (nat_eq (asks-now i) (asks-before i))) ∙ off)
    where
      go : (m k : Bool) → (m || not k) ≡ false → (m ≡ false) × (k ≡ true)
      go true k is = absurd (true≢false is)
      go false true is = (refl, refl)
      go false false is = absurd (true≢false is)

  still : (q n : ℕ) → ¬ OnlyIf anew app n → option_map_or (waits_at v q n) (lookup (nat_eq n) start.before.apps) nothing_waits ≡ option_map_or (waits_at v q n) (lookup (nat_eq n) v.apps) nothing_waits
  still q n far = elim (cases_eq n app) [ inl is ↦ own is anew refl | inr apart ↦ others-still start.before v app came.touch came.keeps came.apps q n apart ]
    where
      own : n ≡ app → (b : Bool) → anew ≡ b → option_map_or (waits_at v q n) (lookup (nat_eq n) start.before.apps) nothing_waits ≡ option_map_or (waits_at v q n) (lookup (nat_eq n) v.apps) nothing_waits
      own is true on = absurd (far (subst (λ b. OnlyIf b app n) (sym on) is))
      own is false off =
          let parts = as-before off in
          ap (λ o. option_map_or (waits_at v q n) o nothing_waits) (ap (λ k. lookup (nat_eq k) start.before.apps) is ∙ came.found)
          ∙ came.same parts.0 parts.1 (runs_at v n came.row) q
          ∙ ap (λ h. waits_if (list_any (is_master_of n) (containers_of v h)) q (came.touch came.row)) (sym (came.keeps.home came.row))
          ∙ sym (ap (λ o. option_map_or (waits_at v q n) o nothing_waits)
          (ap (λ k. lookup (nat_eq k) v.apps) is ∙ found-after start.before v app came.touch came.keeps came.apps came.row came.found))

  not-theirs : (n : ℕ) → ¬ OnlyIf anew app n → (is_master_role r && nat_eq app n) ≡ false
  not-theirs n = not-meant anew (is_master_role r) app n (λ off. (as-before off).0)

  module _ (p : ℕ) (at : p ≡ partition_of_node v.nodes node) where
    is : place ≡ p
    is = sym (at ∙ came.place)

    pub placed-guest : is_guest_role p r ≡ true → AreSeatedButFor (OnlyIf anew app) v lanes
    placed-guest guest =
        guest-came start.before v container came.touch came.keeps came.apps came.row came.found place start.number lanes start.seated (OnlyIf anew app) still not-theirs came.changes shared (ap (λ m. is_guest_role m r) is ∙ guest)

    pub placed-home : is_guest_role p r ≡ false → AreUsedBut (OnlyIf anew app) app p (λ less more. more ≡ plus less size) v lanes
    placed-home home =
        subst (λ m. AreUsedBut (OnlyIf anew app) app m (λ less more. more ≡ plus less size) v lanes) is
        (home-came start.before v container came.touch came.keeps came.apps came.row came.found place start.number lanes start.seated (OnlyIf anew app) still not-theirs came.changes shared (ap (λ m. is_guest_role m r) is ∙ home))

module _ (p : ℕ) (c : Container) (v : Rows) (lanes : List (List Seats)) (live : IsLive c.app v.apps) (start : IsEnded p c v lanes) where
  -- the container stood there
  held : (lookup (nat_eq start.number) (containers_of start.before p) ≡ Some c) × HasPartition start.before p
  held = go (slice_get start.before.partitions p) refl start.held
    where
      go : (o : Option PartitionRow) → slice_get start.before.partitions p ≡ o → option_and_then (λ (row : PartitionRow). lookup (nat_eq start.number) row.containers) o ≡ Some c
          → (lookup (nat_eq start.number) (option_map_or (λ (row : PartitionRow). row.containers) o []) ≡ Some c) × HasPartition start.before p
      go None none at = absurd (none-some c at)
      go (Some row) there at = (at, slice_get_within start.before.partitions p row there)

  -- it goes from the containers there, and no application changes
  changes : ChangesContainers p (without start.number) start.before v × (v.apps ≡ start.before.apps)
  changes = go start.rows
    where
      go : ((v ≡ with_ended p start.number c.node start.before) ⊎ (v ≡ with_dropped p start.number start.before)) → ChangesContainers p (without start.number) start.before v × (v.apps ≡ start.before.apps)
      go (inl is) =
          (subst (ChangesContainers p (without start.number) start.before) (sym is) (ended-changes start.before p start.number c.node held.1), ap (λ (w : Rows). w.apps) is)
      go (inr is) =
          (subst (ChangesContainers p (without start.number) start.before) (sym is) (dropped-changes start.before p start.number held.1), ap (λ (w : Rows). w.apps) is)

  found : (row : AppRow) × (lookup (nat_eq c.app) start.before.apps ≡ Some row)
  found = let own = live-found c.app v.apps live in (own.0, ap (lookup (nat_eq c.app)) (sym changes.1) ∙ own.1)

  apps-are : v.apps ≡ with_change c.app (λ row. row) start.before.apps
  apps-are = changes.1 ∙ sym (same-rows c.app start.before.apps)

  -- something else may wait of the application whose master ended
  abbrev Lost : ℕ → Type 0
  Lost = OnlyIf (is_master_role c.role) c.app

  same : (q n : ℕ) → ¬ Lost n → option_map_or (waits_at v q n) (lookup (nat_eq n) start.before.apps) nothing_waits ≡ option_map_or (waits_at v q n) (lookup (nat_eq n) v.apps) nothing_waits
  same q n far = ap (λ apps. option_map_or (waits_at v q n) (lookup (nat_eq n) apps) nothing_waits) (sym changes.1)

  no-master : (n : ℕ) → ¬ Lost n → (is_master_role c.role && nat_eq c.app n) ≡ false
  no-master n = not-meant (is_master_role c.role) (is_master_role c.role) c.app n (λ off. off)

  pub ended-guest : is_guest_role p c.role ≡ true → AreSeatedButFor Lost v lanes
  ended-guest guest =
      guest-went start.before v c (λ row. row) itself-keeps apps-are found.0 found.1 p start.number lanes start.seated Lost same no-master changes.0 start.numbers held.0 guest

  pub ended-home : is_guest_role p c.role ≡ false → AreUsedBut Lost c.app p (λ more less. more ≡ plus less c.size) v lanes
  ended-home home =
      home-went start.before v c (λ row. row) itself-keeps apps-are found.0 found.1 p start.number lanes start.seated Lost same no-master changes.0 start.numbers held.0 home
