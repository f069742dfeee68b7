-- Who share a leaf of a cluster, and what is set for it.
use Rattle.std.proofs.Common.{◌≡◌, ◌+◌, ℕ, suc, Bool, true, false, cond, ◌&&◌, ◌||◌, List, [], ◌∷◌, ◌++◌, filter, slice_get, Some, None, refl, sym, ap, ◌∙◌, arith, Option, option_map, length, map, max, add-zero, true≢false}
use Rattle.std.specs.List.{AllByRecursion}
use Rattle.std.specs.Option.{option_map_or}
use Rattle.std.proofs.lemmas.Option.{get_or_from_slice_get}
use Rattle.ynl_resource.specs.Names.{is_default, root, same_label, same_path}
use Rattle.ynl_model.specs.Applications.{Application, LeafApps, apps_of}
use Rattle.ynl_laws.proofs.Lists.{Each-map, find-nothing}
use Rattle.ynl_laws.proofs.Names.{same-path}
use Rattle.ynl_inventory.specs.layout.Paths.{path_at}
use Rattle.ynl_slots.proofs.Entries.{other}
use Rattle.ynl_slots.proofs.Lists.{filter_none}
use Rattle.ynl_inventory.specs.Meaning.{has_none_below, leaf_numbers, leaf_of, leaves_from}
use Rattle.ynl_inventory.proofs.Finding.{not-true}
use Rattle.ynl_inventory.proofs.Submitted.{app-submission}
use Rattle.ynl_inventory.proofs.Updates.{each-number}
use Rattle.ynl_lanes.specs.lane.Seats.{Seat, Seats, each_once}
use Rattle.ynl_model.specs.Queues.{Config, QueueRow, queue_row, setting}
use Rattle.ynl_model.specs.declared.queues.LeafSettings.{LeafSettings}
use Rattle.ynl_resource.specs.declared.paths.Path.{Path}
use Rattle.ynl_model.specs.Limits.{distinct, users}
use Rattle.ynl_inventory.specs.Sound.{IsSound}
use Rattle.ynl_cluster.specs.seating.Seating.{figures_of, seat_of, shares, sits, sitting}
use Rattle.ynl_cluster.proofs.seating.Sharing.{are-users}
use Rattle.ynl_cluster.specs.Cluster.{ClusterView, IsCell, IsLaneIn, label_of, maxima_in, path_of, state_in, stops_in}
use Rattle.ynl_model.specs.declared.uses.Use.{Use}
use Rattle.ynl_laws.specs.Uses.{use_of}
use Rattle.ynl_search.specs.Leaves.{IsLeafKept}

-- a setting of a leaf is that of its row
setting-is : {A : Type 0} (c : Config) (path : Path) (set : LeafSettings) → option_map (λ row. row.leaf) (queue_row c path) ≡ Some set → (field : LeafSettings → A) (none : A)
    → field set ≡ setting (λ row. field row.leaf) none c path
setting-is {A} c path set found field none =
    ap (λ o. option_map_or field o none) (sym found) ∙ through (queue_row c path)
  where
    through : (o : Option QueueRow) → option_map_or field (option_map (λ row. row.leaf) o) none ≡ option_map_or (λ row. field row.leaf) o none
    through None = refl
    through (Some row) = refl

-- ---- a queue that is no leaf

-- each number of a leaf is that of a queue with none below
leaves-only : (all : List Path) (n : ℕ) (paths : List Path) → ((i : ℕ) (path : Path) → slice_get paths i ≡ Some path → path_at all (n + i) ≡ path)
    → AllByRecursion (λ q. has_none_below all (path_at all q) ≡ true) (leaves_from all n paths)
leaves-only all n [] at = tt
leaves-only all n (path ∷ paths) at = go (has_none_below all path) refl (leaves-only all (n + 1) paths (λ i other there. ap (path_at all) (next i) ∙ at (suc i) other there))
  where
    next : (i : ℕ) → n + 1 + i ≡ n + suc i
    next i = omega arith

    own : path_at all n ≡ path
    own = ap (path_at all) (sym (add-zero n)) ∙ at 0 path refl

    go : (b : Bool) → has_none_below all path ≡ b → AllByRecursion (λ q. has_none_below all (path_at all q) ≡ true) (leaves_from all (n + 1) paths)
        → AllByRecursion (λ q. has_none_below all (path_at all q) ≡ true) (cond b (n ∷ []) [] ++ leaves_from all (n + 1) paths)
    go true none rest = (ap (has_none_below all) own ∙ none, rest)
    go false none rest = rest

each-only : (paths : List Path) → AllByRecursion (λ q. has_none_below paths (path_at paths q) ≡ true) (leaf_numbers paths)
each-only paths = leaves-only paths 1 paths (λ i path there. ap (path_at paths) (one i) ∙ get_or_from_slice_get paths i path root there)
  where
    one : (i : ℕ) → 1 + i ≡ suc i
    one i = omega arith

module _ (w : ClusterView) (sound : IsSound w.rows) (q : ℕ) (inner : has_none_below w.rows.paths (path_of w q) ≡ false) where
  -- the model has no applications of it
  no-apps : apps_of (state_in w).leaves (path_of w q) ≡ []
  no-apps =
      ap (λ o. option_map_or (λ (row : LeafApps). row.apps) o [])
      (find-nothing (λ (row : LeafApps). same_path row.leaf (path_of w q)) (map (leaf_of w.rows) (leaf_numbers w.rows.paths))
      (Each-map (λ m. has_none_below w.rows.paths (path_at w.rows.paths m) ≡ true) (λ (row : LeafApps). same_path row.leaf (path_of w q) ≡ false) (leaf_of w.rows)
      (λ m none. not-true (same_path (path_at w.rows.paths m) (path_of w q)) (λ same. true≢false (sym none ∙ ap (has_none_below w.rows.paths) (same-path (path_at w.rows.paths m) (path_of w q) same) ∙ inner)))
      (leaf_numbers w.rows.paths) (each-only w.rows.paths)))

  -- nor do the rows
  no-seats : (p : ℕ) → sitting p q w.rows.apps ≡ []
  no-seats p =
      filter_none (λ e. sits p q e.1) w.rows.apps
      (each-number (λ n row. sits p q row ≡ false) w.rows.apps sound.app_numbers (λ n row found.
      ap (λ b. b && shares p row) (other row.leaf q (λ same. true≢false (sym (app-submission w.rows sound n row found).leaf ∙ ap (λ l. has_none_below w.rows.paths (path_of w l)) same ∙ inner)))))

  inner-users : (p : ℕ) → IsCell w p q → (lane : Seats) → IsLaneIn w p q lane → (count : ℕ) → count ≡ length (each_once (map (λ e. e.1.user) lane.seats)) → max 1 count ≡ users (state_in w) (path_of w q) (label_of w p)
  unfolding users
  inner-users p cell lane there count read =
      ap (max 1)
      (read ∙ ap (λ (l : Seats). length (each_once (map (λ e. e.1.user) l.seats))) there.own
      ∙ ap (λ seats. length (each_once (map (λ (e : ℕ × Seat). e.1.user) seats)))
      ((there.seated.seats p q cell.partition cell.queue).seats ∙ ap (map (seat_of (figures_of w.rows) p q)) (no-seats p)))
      ∙ sym (ap (λ (apps : List Application). max 1 (length (distinct (map (λ app. app.user) (filter (λ app. is_default (label_of w p) || same_label app.home (label_of w p)) apps))))) no-apps)

-- who share a queue are as many as the lane says, and 1 where it says none
pub users-are : (w : ClusterView) (p q : ℕ) → IsCell w p q → IsSound w.rows → (lane : Seats) → IsLaneIn w p q lane → (count : ℕ) → count ≡ length (each_once (map (λ e. e.1.user) lane.seats))
    → max 1 count ≡ users (state_in w) (path_of w q) (label_of w p)
users-are w p q cell sound lane there count read = go (has_none_below w.rows.paths (path_of w q)) refl
  where
    go : (b : Bool) → has_none_below w.rows.paths (path_of w q) ≡ b → max 1 count ≡ users (state_in w) (path_of w q) (label_of w p)
    go true none =
        ap (max 1) (read ∙ ap (λ (l : Seats). length (each_once (map (λ e. e.1.user) l.seats))) there.own)
        ∙ sym (are-users w.rows sound there.lanes there.seated p q cell.partition (record { there = cell.queue; none_below = none }) (stops_in w) (maxima_in w))
    go false none = inner-users w sound q none p cell lane there count read

-- what is kept of a leaf is what the model says of it
pub leaf-kept : (w : ClusterView) (p q : ℕ) (set : LeafSettings) → option_map (λ row. row.leaf) (queue_row w.config (path_of w q)) ≡ Some set → (kept : Use) → kept ≡ use_of (state_in w) (label_of w p) (path_of w q)
    → (count : ℕ) → count ≡ users (state_in w) (path_of w q) (label_of w p) → IsLeafKept w.config (state_in w) (label_of w p) (path_of w q) set kept count
leaf-kept w p q set found kept uses count users = record {
  percent = setting-is w.config (path_of w q) set found (λ set. set.minimum_user_limit_percent) 0;
  factor = setting-is w.config (path_of w q) set found (λ set. set.user_limit_factor) 0;
  share = setting-is w.config (path_of w q) set found (λ set. set.maximum_am_resource_percent) 0;
  uses = uses;
  users = users;
}
