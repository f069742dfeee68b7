-- The clock of the last container of each partition.
use Rattle.std.proofs.Common.{◌≡◌, ◌≤◌, ◌<◌, ◌+◌, ℕ, zero, suc, Bool, true, cond, List, [], ◌∷◌, ◌++◌, fold, length, map, slice_get, slice_set, slice_index_or, Some, option_map, refl, sym, ap, ◌∙◌, arith}
use Rattle.std.specs.List.{AllByRecursion}
use Rattle.std.proofs.lemmas.List.{get_or-map, length-map}
use Rattle.std.proofs.lemmas.List.Folds.{fold-map}
use Rattle.std.proofs.lemmas.List.Sums.{fold-append}
use Rattle.std.proofs.lemmas.Option.{slice_get-get_or, slice_get-map, slice_get_within, same_Some}
use Rattle.ynl_resource.specs.Names.{same_label}
use Rattle.ynl_resource.specs.Tables.{update}
use Rattle.ynl_model.specs.declared.containers.Placed.{Placed}
use Rattle.ynl_model.specs.Cluster.{Partition, is_partition}
use Rattle.ynl_laws.proofs.Lists.{Each-weaker}
use Rattle.ynl_laws.proofs.Names.{same-label_path, same-label_self}
use Rattle.ynl_tables.specs.declared.containers.container.Container.{Container}
use Rattle.ynl_tables.specs.containers.Table.{IsRising}
use Rattle.ynl_inventory.specs.Meaning.{partition_of, placed_of}
use Rattle.ynl_inventory.specs.Rows.{PartitionRow}
use Rattle.ynl_inventory.specs.Sound.{IsSound}
use Rattle.ynl_inventory.proofs.Finding.{containers-at, not-true, own-label}
use Rattle.ynl_inventory.proofs.Lookups.{place-there}
use Rattle.ynl_cluster.specs.Cluster.{ClusterView, label_of, maxima_in, state_in, stops_in}
use Rattle.ynl_model.specs.Changes.{with_container}
use Rattle.ynl_saved.specs.Restoring.{last_clock}
use Rattle.ynl_snapshots.specs.restoring.Placing.{AreLasts, last_of}
use Rattle.ynl_snapshots.proofs.restoring.Clocks.{as-it-is}

-- ---- clocks that rise

abbrev last : ℕ → List (ℕ × Container) → ℕ
last n es = fold (λ (before : ℕ) (e : ℕ × Container). e.1.clock) n es

-- the last one is no earlier than what all are behind
no-earlier : (n : ℕ) (es : List (ℕ × Container)) → AllByRecursion (λ (e : ℕ × Container). n < e.1.clock) es → IsRising es → n ≤ last n es
no-earlier n [] behind rising = omega arith
no-earlier n (e ∷ es) behind rising = let more = no-earlier e.1.clock es rising.0 rising.1 in omega (arith, behind.0, more)

-- and each is no later than the last one
pub each-before : (n : ℕ) (es : List (ℕ × Container)) → IsRising es → AllByRecursion (λ (e : ℕ × Container). e.1.clock ≤ last n es) es
each-before n [] rising = tt
each-before n (e ∷ es) rising = (no-earlier e.1.clock es rising.0 rising.1, each-before e.1.clock es rising.1)

-- ---- one element changes

set-one : {X : Type 0} (f : X → ℕ) (test : X → Bool) (g : X → X) (xs : List X) (i : ℕ) (x : X) → slice_get xs i ≡ Some x → test x ≡ true
    → ((j : ℕ) (y : X) → slice_get xs j ≡ Some y → test y ≡ true → j ≡ i) → map f (update test g xs) ≡ slice_set (map f xs) i (f (g x))
set-one f test g [] i x at here only = cc
set-one {X} f test g (y ∷ xs) zero x at here only = λ i. f (first i) ∷ map f (rest i)
  where
    is : y ≡ x
    is = same_Some y x at

    first : cond (test y) (g y) y ≡ g x
    first = ap (λ z. cond (test z) (g z) z) is ∙ ap (λ b. cond b (g x) x) here

    others : (j : ℕ) (xs : List X) → ((k : ℕ) (z : X) → slice_get xs k ≡ Some z → test z ≡ true → suc (j + k) ≡ 0) → AllByRecursion (λ z. test z ≡ true → g z ≡ z) xs
    others j [] only = tt
    others j (z ∷ xs) only = (λ yes. absurd (omega (arith, only 0 z refl yes)), others (suc j) xs (λ k w at yes. let no = only (suc k) w at yes in omega (arith, no)))

    rest : update test g xs ≡ xs
    rest = as-it-is test g xs (others 0 xs (λ k z at yes. let no = only (suc k) z at yes in omega (arith, no)))
set-one f test g (y ∷ xs) (suc i) x at here only =
    λ k. f (kept k) ∷ set-one f test g xs i x at here (λ j z found yes. let is = only (suc j) z found yes in omega (arith, is)) k
  where
    kept : cond (test y) (g y) y ≡ y
    kept = ap (λ b. cond b (g y) y) (not-true (test y) (λ yes. let no = only 0 y refl yes in omega (arith, no)))

-- ---- those of a cluster

module _ (w : ClusterView) (sound : IsSound w.rows) (p : ℕ) (part : PartitionRow) (at : slice_get w.rows.partitions p ≡ Some part) where
  held : last_clock (state_in w) (label_of w p) ≡ last_of (partition_of w.rows part)
  held =
      ap (last_clock (state_in w)) (own-label w.rows sound p part at)
      ∙ ap (fold (λ (before : ℕ) (container : Placed). container.id.clock) 0) (containers-at w.rows sound p part at (stops_in w) (maxima_in w))

  abbrev rows : List Partition
  rows = map (partition_of w.rows) w.rows.partitions

  there : slice_get rows p ≡ Some (partition_of w.rows part)
  there = slice_get-map (partition_of w.rows) w.rows.partitions p ∙ ap (option_map (partition_of w.rows)) at

  -- what they have of a partition
  pub last-at : (lasts : List ℕ) → AreLasts (state_in w) lasts → slice_index_or lasts p 0 ≡ last_clock (state_in w) (label_of w p)
  last-at lasts are =
      ap (λ (lasts : List ℕ). slice_index_or lasts p 0) (sym are)
      ∙ get_or-map last_of rows p (partition_of w.rows part) 0 within
      ∙ ap last_of (same_Some _ (partition_of w.rows part) (sym (slice_get-get_or rows p (partition_of w.rows part) within) ∙ there))
      ∙ sym held
    where
      within : p < length rows
      within = slice_get_within rows p (partition_of w.rows part) there

  -- a clock that is behind it is behind all
  pub all-before : (clock : ℕ) → last_clock (state_in w) (label_of w p) < clock → AllByRecursion (λ (e : ℕ × Container). e.1.clock < clock) part.containers
  all-before clock behind =
      let is : last_clock (state_in w) (label_of w p) ≡ last 0 part.containers = held ∙ fold-map (λ (before : ℕ) (container : Placed). container.id.clock) (λ (e : ℕ × Container). placed_of w.rows part.label e.1) 0 part.containers in
      Each-weaker (λ (e : ℕ × Container). e.1.clock ≤ last 0 part.containers) (λ (e : ℕ × Container). e.1.clock < clock) (λ e h. omega (arith, h, is, behind)) part.containers
      (each-before 0 part.containers (sound.partitions p part at).rising)

  -- one more comes last on a partition
  pub last-set : (lasts : List ℕ) → AreLasts (state_in w) lasts → (placed : Placed) → label_of w p ≡ placed.id.label → AreLasts (with_container placed (state_in w)) (slice_set lasts p placed.id.clock)
  last-set lasts are placed own =
      set-one last_of (is_partition placed.id.label) (λ row. record row { containers = row.containers ++ placed ∷ [] }) rows p (partition_of w.rows part) there
      (ap (λ l. same_label l placed.id.label) (sym (own-label w.rows sound p part at) ∙ own) ∙ same-label_self placed.id.label) only
      ∙ ap (slice_set (map last_of rows) p) (fold-append (λ (before : ℕ) (container : Placed). container.id.clock) 0 (partition_of w.rows part).containers (placed ∷ []))
      ∙ ap (λ (lasts : List ℕ). slice_set lasts p placed.id.clock) are
    where
      only : (j : ℕ) (row : Partition) → slice_get rows j ≡ Some row → is_partition placed.id.label row ≡ true → j ≡ p
      only j row found here =
          let has : j < length w.rows.partitions = let in-rows = slice_get_within rows j row found in let as-many = length-map w.rows.partitions (partition_of w.rows) in omega (arith, in-rows, as-many) in
          let its = place-there w.rows.partitions j has in
          let is = same_Some row (partition_of w.rows its.0) (sym found ∙ slice_get-map (partition_of w.rows) w.rows.partitions j ∙ ap (option_map (partition_of w.rows)) its.1) in
          sound.labels j p has (slice_get_within w.rows.partitions p part at)
          (own-label w.rows sound j its.0 its.1 ∙ sym (ap (λ (row : Partition). row.label) is) ∙ same-label_path row.label placed.id.label here ∙ sym own)
