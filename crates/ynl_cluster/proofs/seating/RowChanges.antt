-- The changes of the rows, as they change containers and applications.
use Rattle.std.proofs.Common.{◌≡◌, ℕ, Bool, true, false, cond, not, ◌&&◌, filter, inl, inr, List, [], ◌∷◌, ◌++◌, length, slice_get, Option, Some, option_map, nat_eq, refl, sym, ap, subst, ◌∙◌}
use Rattle.std.specs.List.{AllByRecursion, list_any}
use Rattle.std.specs.Map.{lookup}
use Rattle.std.specs.Option.{option_map_or}
use Rattle.std.proofs.lemmas.Bool.{cases_eq}
use Rattle.ynl_resource.specs.Amounts.{total_of}
use Rattle.ynl_resource.specs.declared.amounts.Resource.{Resource}
use Rattle.ynl_resource.specs.declared.names.Name.{Name}
use Rattle.ynl_slots.specs.Slots.{without}
use Rattle.ynl_tables.specs.apps.Apps.{with_change}
use Rattle.ynl_tables.specs.apps.Asks.{with_ask}
use Rattle.ynl_tables.specs.declared.apps.asks.Ask.{Ask}
use Rattle.ynl_tables.specs.declared.containers.container.Container.{Container}
use Rattle.ynl_tables.specs.declared.containers.container.Role.{Role}
use Rattle.ynl_tables.specs.declared.containers.container.Role.TheVariants.{Master, Ask as Asked}
use Rattle.ynl_lanes.specs.lane.Seats.{Seats, nothing_waits}
use Rattle.ynl_inventory.specs.Rows.{Rows, PartitionRow, AppRow}
use Rattle.ynl_inventory.specs.Changes.{next_container, partition_of_node, ticked, with_asked, with_at, with_clock, with_dropped, with_ended, with_joined, with_node_gone, with_placed, with_stamp, with_stood, with_taken, with_user}
use Rattle.ynl_inventory.specs.Parts.{containers_of}
use Rattle.ynl_inventory.specs.Apps.{is_guest_role}
use Rattle.ynl_inventory.specs.Sound.{HasPartition}
use Rattle.ynl_inventory.proofs.Lookups.{at-other, at-same, length-at, place-there}
use Rattle.ynl_inventory.proofs.Naming.{taken-home, taken-leaf, taken-user}
use Rattle.ynl_cluster.specs.seating.Seating.{AreSeated, AreSeatedWith, figures_of, is_of, is_shared, waits_if, waits_of}
use Rattle.ynl_cluster.specs.seating.Steps.{AreSeatedBut}
use Rattle.ynl_cluster.proofs.seating.Carrying.{ChangesContainers, carried, is_master_of, others-still, shared-after, use-of, waits-stay}
use Rattle.ynl_cluster.proofs.seating.SeatLists.{KeepsSeats}
use Rattle.ynl_cluster.proofs.seating.Sums.{size_of}

-- the containers of the partition that changes change, and no others
pub changes-at : (v w : Rows) (p : ℕ) (change : PartitionRow → PartitionRow) (f : List (ℕ × Container) → List (ℕ × Container)) → ((row : PartitionRow) → (change row).containers ≡ f row.containers)
    → HasPartition v p → w.paths ≡ v.paths → w.partitions ≡ with_at p change v.partitions → ChangesContainers p f v w
changes-at v w p change f means has paths is = record {
  paths = paths;
  many = ap length is ∙ length-at p change v.partitions;
  own = ap (λ o. conts o) (ap (λ ps. slice_get ps p) is ∙ at-same p change v.partitions ∙ ap (option_map change) there.1) ∙ means there.0 ∙ ap f (sym (ap conts there.1));
  others = λ q apart. ap conts (ap (λ ps. slice_get ps q) is ∙ at-other q p change v.partitions apart);
}
  where
    conts : Option PartitionRow → List (ℕ × Container)
    conts o = option_map_or (λ row. row.containers) o []

    there : (row : PartitionRow) × (slice_get v.partitions p ≡ Some row)
    there = place-there v.partitions p has

-- where no containers change
pub changes-nothing : (v w : Rows) → w.paths ≡ v.paths → w.partitions ≡ v.partitions → ChangesContainers 0 (λ es. es) v w
changes-nothing v w paths is = record {
  paths = paths;
  many = ap length is;
  own = ap (λ ps. option_map_or (λ (row : PartitionRow). row.containers) (slice_get ps 0) []) is;
  others = λ q apart. ap (λ ps. option_map_or (λ (row : PartitionRow). row.containers) (slice_get ps q) []) is;
}

-- ---- applications

-- an application that takes what it asks for, or asks, keeps its seats
pub taken-keeps : (r : Role) → KeepsSeats (with_taken r)
taken-keeps r = record { leaf = taken-leaf r; user = taken-user r; home = taken-home r; tickets = tickets r }
  where
    tickets : (r : Role) (row : AppRow) → (with_taken r row).tickets ≡ row.tickets
    tickets Master row = refl
    tickets (Asked p priority) row = refl

pub itself-keeps : KeepsSeats (λ row. row)
itself-keeps = record { leaf = λ row. refl; user = λ row. refl; home = λ row. refl; tickets = λ row. refl }

-- none changes
pub same-rows : {X : Type 0} (n : ℕ) (es : List (ℕ × X)) → with_change n (λ row. row) es ≡ es
same-rows n [] = refl
same-rows {X} n (e ∷ es) = λ i. one (nat_eq n e.0) i ∷ same-rows n es i
  where
    one : (b : Bool) → cond b (e.0, e.1) e ≡ e
    one true = refl
    one false = refl

-- ---- changes that leave all

-- rows of which neither applications nor containers change have the same lanes
pub still-seated : (v w : Rows) → w.apps ≡ v.apps → (p : ℕ) → ChangesContainers p (λ es. es) v w → (lanes : List (List Seats)) → AreSeated v lanes → AreSeated w lanes
still-seated v w apps p changes lanes seated =
    subst (λ f. AreSeatedWith f w lanes) (sym figures)
    (carried v w 0 (λ row. row) itself-keeps (apps ∙ sym (same-rows 0 v.apps)) changes.paths changes.many (figures_of v) lanes shared seated)
  where
    same : (q : ℕ) → containers_of w q ≡ containers_of v q
    same q = elim (cases_eq q p) [ inl is ↦ ap (containers_of w) is ∙ changes.own ∙ ap (containers_of v) (sym is) | inr apart ↦ changes.others q apart ]

    figures : figures_of w ≡ figures_of v
    figures = λ i. record {
      used = λ r q u. total_of size_of (filter (λ e. not (is_guest_role r e.1.role) && option_map_or (is_of q u) (lookup (nat_eq e.1.app) (apps i)) false) (same r i));
      waits = λ r n. option_map_or (λ row. waits_if (list_any (is_master_of n) (same row.home i)) r row) (lookup (nat_eq n) (apps i)) nothing_waits;
    }

    shared : (r : ℕ) → AllByRecursion (λ e. is_shared w.apps r e ≡ true) (containers_of w r)
    shared r =
        subst (λ apps_now. AllByRecursion (λ e. is_shared apps_now r e ≡ true) (containers_of w r)) (sym apps)
        (subst (AllByRecursion (λ e. is_shared v.apps r e ≡ true)) (sym (same r)) (seated.shared r))

-- a node joins
pub joined-seated : (v : Rows) (number : ℕ) (name : Name) (p : ℕ) (size : Resource) → HasPartition v p → (lanes : List (List Seats)) → AreSeated v lanes → AreSeated (with_joined number name p size v) lanes
joined-seated v number name p size has =
    still-seated v (with_joined number name p size v) refl p
    (changes-at v (with_joined number name p size v) p (ticked (λ es. es)) (λ es. es) (λ row. refl) has refl refl)

-- a node without containers leaves
pub left-seated : (v : Rows) (node : ℕ) (lanes : List (List Seats)) → AreSeated v lanes → AreSeated (with_node_gone node v) lanes
left-seated v node = still-seated v (with_node_gone node v) refl 0 (changes-nothing v (with_node_gone node v) refl refl)

-- a user has a number
pub user-seated : (v : Rows) (name : Name) (lanes : List (List Seats)) → AreSeated v lanes → AreSeated (with_user name v) lanes
user-seated v name = still-seated v (with_user name v) refl 0 (changes-nothing v (with_user name v) refl refl)

-- a clock is set
pub clock-seated : (v : Rows) (p clock : ℕ) → HasPartition v p → (lanes : List (List Seats)) → AreSeated v lanes → AreSeated (with_clock p clock v) lanes
clock-seated v p clock has =
    still-seated v (with_clock p clock v) refl p (changes-at v (with_clock p clock v) p (λ row. record row { clock = clock }) (λ es. es) (λ row. refl) has refl refl)

-- a stamp is set
pub stamp-seated : (v : Rows) (node stamp : ℕ) (lanes : List (List Seats)) → AreSeated v lanes → AreSeated (with_stamp node stamp v) lanes
stamp-seated v node stamp = still-seated v (with_stamp node stamp v) refl 0 (changes-nothing v (with_stamp node stamp v) refl refl)

-- an application asks: what waits of it may differ
pub asked-but : (v : Rows) (app : ℕ) (ask : Ask) (lanes : List (List Seats)) → AreSeated v lanes → AreSeatedBut app (with_asked app ask v) lanes
asked-but v app ask lanes seated = record {
  waits = waits_of v;
  others = waits-stay v w app touch keeps refl 0 (λ es. es) (changes-nothing v w refl refl) (λ n. n ≡ app) (others-still v w app touch keeps refl) (λ n apart. refl);
  seated =
      subst (λ amounts. AreSeatedWith (record { used = amounts; waits = waits_of v }) w lanes) (λ i r q u. sym (use-of v w app touch keeps refl r q u) i)
      (carried v w app touch keeps refl refl refl (figures_of v) lanes (shared-after v w app touch keeps refl 0 (λ es. es) (changes-nothing v w refl refl) seated.shared (seated.shared 0)) seated);
}
  where
    w : Rows
    w = with_asked app ask v

    touch : AppRow → AppRow
    touch row = record row { asks = with_ask ask row.asks }

    keeps : KeepsSeats touch
    keeps = record { leaf = λ row. refl; user = λ row. refl; home = λ row. refl; tickets = λ row. refl }

-- ---- calls

-- a container is placed
pub placed-changes : (v : Rows) (number node app : ℕ) (r : Role) (size : Resource) → HasPartition v (partition_of_node v.nodes node)
    → ChangesContainers (partition_of_node v.nodes node) (λ es. es ++ (number, next_container v node app r size) ∷ []) v (with_placed number node app r size v)
placed-changes v number node app r size has =
    changes-at v (with_placed number node app r size v) (partition_of_node v.nodes node) (ticked (λ es. es ++ (number, next_container v node app r size) ∷ []))
    (λ es. es ++ (number, next_container v node app r size) ∷ []) (λ row. refl) has refl refl

-- or comes to stand
pub stood-changes : (v : Rows) (p number : ℕ) (c : Container) → HasPartition v p → ChangesContainers p (λ es. es ++ (number, c) ∷ []) v (with_stood p number c v)
stood-changes v p number c has =
    changes-at v (with_stood p number c v) p (λ row. record row { containers = row.containers ++ (number, c) ∷ [] }) (λ es. es ++ (number, c) ∷ []) (λ row. refl) has refl refl

-- one ends, or goes with its node
pub ended-changes : (v : Rows) (p number node : ℕ) → HasPartition v p → ChangesContainers p (without number) v (with_ended p number node v)
ended-changes v p number node has = changes-at v (with_ended p number node v) p (ticked (without number)) (without number) (λ row. refl) has refl refl

pub dropped-changes : (v : Rows) (p number : ℕ) → HasPartition v p → ChangesContainers p (without number) v (with_dropped p number v)
dropped-changes v p number has =
    changes-at v (with_dropped p number v) p (λ row. record row { containers = without number row.containers }) (without number) (λ row. refl) has refl refl
