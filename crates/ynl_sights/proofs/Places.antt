-- The live applications of a leaf, and where each stands among them.
use Rattle.std.proofs.Common.{◌≡◌, ◌≢◌, ◌+◌, ℕ, zero, suc, Bool, true, false, cond, not, ◌&&◌, nat_eq, List, [], ◌∷◌, map, slice_get, Option, None, Some, option_map, refl, sym, ap, ◌∙◌, arith}
use Rattle.std.specs.List.{AllByRecursion}
use Rattle.std.specs.Map.{lookup}
use Rattle.std.specs.Option.{option_map_or}
use Rattle.std.proofs.lemmas.Bool.{eqb-true}
use Rattle.std.proofs.lemmas.Option.{none-some, same_Some, slice_get-map}
use Rattle.ynl_model.specs.Applications.{LeafApps}
use Rattle.ynl_model.specs.Service.{place_in_leaf}
use Rattle.ynl_model.specs.declared.queues.StopRow.{StopRow}
use Rattle.ynl_model.specs.declared.queues.MaximumRow.{MaximumRow}
use Rattle.ynl_laws.proofs.Lists.{Each-kept, map-map}
use Rattle.ynl_inventory.specs.layout.Paths.{path_at}
use Rattle.ynl_slots.specs.Slots.{HasDistinctNumbers}
use Rattle.ynl_slots.proofs.Entries.{itself, other}
use Rattle.ynl_lanes.specs.lane.Seats.{Seat, Seats}
use Rattle.ynl_inventory.specs.Rows.{Rows, AppRow}
use Rattle.ynl_inventory.specs.Meaning.{app_of, state_of}
use Rattle.ynl_inventory.specs.Sound.{IsSound, IsLeaf}
use Rattle.ynl_inventory.proofs.Filters.{filter-distinct}
use Rattle.ynl_inventory.proofs.Lookups.{in-place}
use Rattle.ynl_inventory.proofs.Updates.{each-number}
use Rattle.ynl_cluster.specs.requests.Laws.{in_leaf}
use Rattle.ynl_cluster.proofs.requests.Order.{place, place-is}
use Rattle.ynl_cluster.specs.seating.Seating.{figures_of, seat_of, shares, sitting}
use Rattle.ynl_cluster.proofs.seating.Sharing.{leaf-row}
use Rattle.ynl_cluster.proofs.seating.Turns.{in-order}
use Rattle.ynl_cluster.specs.Cluster.{ClusterView, IsCell, IsLaneIn}
use Rattle.ynl_sights.specs.Copying.{AreAppsOf}

abbrev Entry : Type 0
Entry = ℕ × AppRow

-- ---- the lane on DEFAULT

-- all of the leaf sit there
all-sit : (q : ℕ) (apps : List Entry) → sitting 0 q apps ≡ in_leaf q apps
all-sit q [] = refl
all-sit q (e ∷ apps) = go (nat_eq e.1.leaf q) (all-sit q apps)
  where
    go : (b : Bool) → sitting 0 q apps ≡ in_leaf q apps → cond (b && shares 0 e.1) (e ∷ sitting 0 q apps) (sitting 0 q apps) ≡ cond b (e ∷ in_leaf q apps) (in_leaf q apps)
    go true rest = ap (λ apps. e ∷ apps) rest
    go false rest = rest

-- so the applications of its seats are those of the leaf
pub seats-of-leaf : (w : ClusterView) (q : ℕ) → IsCell w 0 q → (lane : Seats) → IsLaneIn w 0 q lane → AreAppsOf w.rows q (map (λ e. e.1.app) lane.seats)
seats-of-leaf w q cell lane there =
    ap (λ (l : Seats). map (λ (e : ℕ × Seat). e.1.app) l.seats) there.own
    ∙ ap (map (λ (e : ℕ × Seat). e.1.app)) (there.seated.seats 0 q cell.partition cell.queue).seats
    ∙ map-map (λ (e : ℕ × Seat). e.1.app) (seat_of (figures_of w.rows) 0 q) (sitting 0 q w.rows.apps)
    ∙ ap (map (λ (e : Entry). e.0)) (all-sit q w.rows.apps)

-- ---- places

-- a number is found where it stands
place-of : {X : Type 0} (es : List (ℕ × X)) (i n : ℕ) (row : X) → HasDistinctNumbers es → slice_get es i ≡ Some (n, row) → place n es ≡ i
place-of [] i n row distinct at = absurd (none-some (n, row) at)
place-of {X = X} (e ∷ es) zero n row distinct at =
    let same : e.0 ≡ n = ap (λ (e : ℕ × X). e.0) (same_Some e (n, row) at) in
    ap (λ b. cond (not b) (1 + place n es) 0) (ap (nat_eq e.0) (sym same) ∙ itself e.0)
place-of {X = X} (e ∷ es) (suc i) n row distinct at =
    let apart : n ≢ e.0 = in-place (λ (f : ℕ × X). f.0 ≢ e.0) es i (n, row) distinct.0 at in
    let rest : place n es ≡ i = place-of es i n row distinct.1 at in
    ap (λ b. cond (not b) (1 + place n es) 0) (other e.0 n (λ same. apart (sym same))) ∙ (omega (arith, rest))

module _ (v : Rows) (sound : IsSound v) (q : ℕ) where
  -- an application is live, and the leaf's
  pub record IsOwn (e : Entry) : Type 0 where
    pub found : lookup (nat_eq e.0) v.apps ≡ Some e.1
    pub own : e.1.leaf ≡ q

  pub each-own : AllByRecursion IsOwn (in_leaf q v.apps)
  each-own =
      Each-kept IsOwn (λ e. nat_eq e.1.leaf q) v.apps
      (each-number (λ n row. nat_eq row.leaf q ≡ true → IsOwn (n, row)) v.apps sound.app_numbers (λ n row found own. record { found = found; own = eqb-true row.leaf q own }))

  pub own-at : (i : ℕ) (e : Entry) → slice_get (in_leaf q v.apps) i ≡ Some e → IsOwn e
  own-at i e at = in-place IsOwn (in_leaf q v.apps) i e each-own at

  -- a live application stands in this place in the leaf
  pub record IsAppAt (i n : ℕ) : Type 0 where
    pub row : AppRow
    pub found : lookup (nat_eq n) v.apps ≡ Some row
    pub place : slice_get (in_leaf q v.apps) i ≡ Some (n, row)

  -- so it is with the one of each number
  pub app-at : (numbers : List ℕ) → AreAppsOf v q numbers → (i n : ℕ) → slice_get numbers i ≡ Some n → IsAppAt i n
  app-at numbers are i n at =
      go (slice_get (in_leaf q v.apps) i) refl (sym (slice_get-map (λ (e : Entry). e.0) (in_leaf q v.apps) i) ∙ ap (λ ns. slice_get ns i) (sym are) ∙ at)
    where
      go : (o : Option Entry) → slice_get (in_leaf q v.apps) i ≡ o → option_map (λ (e : Entry). e.0) o ≡ Some n → IsAppAt i n
      go None is k = absurd (none-some n k)
      go (Some e) is k =
          let number : e.0 ≡ n = same_Some e.0 n k in
          record {
            row = e.1;
            found = ap (λ m. lookup (nat_eq m) v.apps) (sym number) ∙ (own-at i e is).found;
            place = is ∙ (λ j. Some (number j, e.1));
          }

  -- the model has it there too
  pub place-at : (stops : List StopRow) (maxima : List MaximumRow) → IsLeaf v q → (i : ℕ) (e : Entry) → slice_get (in_leaf q v.apps) i ≡ Some e
      → place_in_leaf (state_of v stops maxima) (path_at v.paths q) (app_of v e).name ≡ i
  place-at stops maxima leaf i e at =
      let own = own-at i e at in
      place-is v sound stops maxima q (ap (λ o. option_map_or (λ (row : LeafApps). row.apps) o []) (leaf-row v sound q leaf) ∙ in-order v q sound) e.0 e.1 own.found own.own
      ∙ place-of (in_leaf q v.apps) i e.0 e.1 (filter-distinct (λ e. nat_eq e.1.leaf q) v.apps sound.app_numbers) at
