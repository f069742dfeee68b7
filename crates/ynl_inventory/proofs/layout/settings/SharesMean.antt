-- What the shares of a way leave of a total is what the model's queues may use, and are guaranteed.
use Rattle.std.proofs.Common.{◌≡◌, ℕ, zero, suc, ◌+◌, ◌<◌, List, [], ◌∷◌, ◌++◌, length, map, take, get_or, fold, refl, sym, ap, ◌∙◌, arith}
use Rattle.std.specs.List.{AllByRecursion, flat_map}
use Rattle.std.proofs.lemmas.List.{append_assoc, get_or-map, map-id}
use Rattle.std.proofs.lemmas.List.Folds.{flat_map-map, fold-map}
use Rattle.ynl_resource.specs.Amounts.{scale_floor}
use Rattle.ynl_resource.specs.Names.{root, way_to}
use Rattle.ynl_resource.specs.Ranges.{whole}
use Rattle.ynl_resource.specs.declared.amounts.Resource.{Resource}
use Rattle.ynl_resource.specs.declared.labels.Label.{Label}
use Rattle.ynl_resource.specs.declared.labels.Label.TheVariants.{Unlabelled}
use Rattle.ynl_resource.specs.declared.paths.Path.{Path}
use Rattle.ynl_model.specs.Nodes.{partition_labels}
use Rattle.ynl_model.specs.declared.queues.MaximumRow.{MaximumRow}
use Rattle.ynl_model.specs.Queues.{Config, QueueRow, capacity_on, configured_maximum, guaranteed, maximum, maximum_on, nested_floor, opening_maxima}
use Rattle.ynl_laws.proofs.Lists.{map-map}
use Rattle.ynl_inventory.specs.layout.Paths.{HasNumber, IsLine, IsTree, path_at, paths_of}
use Rattle.ynl_inventory.specs.declared.layout.settings.shares.Share.{Share}
use Rattle.ynl_inventory.specs.layout.settings.Shares.{capacity_at, configured_on, configured_share, configured_shares, maximum_at, no_share, reached, share_at}
use Rattle.ynl_inventory.specs.layout.settings.Meaning.{maxima_of, maxima_from, maxima_on}
use Rattle.ynl_inventory.proofs.layout.settings.MaximaMean.{AreLabels, maximum-means}

-- ---- the paths of a way

-- the queues whose paths are the fronts of a path are those on its way
fronts : (of : ℕ → Path) (ns : List ℕ) (front path : Path) → length ns ≡ length path → ((i : ℕ) → i < length ns → of (get_or ns i 0) ≡ front ++ take (suc i) path)
    → map of ns ≡ map (λ (below : Path). front ++ below) (way_to path)
fronts of [] front [] many is = refl
fronts of [] front (name ∷ path) many is = absurd (omega (arith, many))
fronts of (n ∷ ns) front [] many is = absurd (omega (arith, many))
fronts of (n ∷ ns) front (name ∷ path) many is =
    (λ i. is 0 (omega arith) i ∷ fronts of ns (front ++ name ∷ []) path (omega (arith, many)) (λ k inside. is (suc k) (omega (arith, inside)) ∙ sym (append_assoc front (name ∷ []) (take (suc k) path))) i)
    ∙ ap (λ rest. (front ++ name ∷ []) ∷ rest) (longer (way_to path) ∙ sym (map-map (λ (below : Path). front ++ below) (λ (below : Path). name ∷ below) (way_to path)))
  where
    longer : (paths : List Path) → map (λ (below : Path). (front ++ name ∷ []) ++ below) paths ≡ map (λ (below : Path). front ++ (name ∷ below)) paths
    longer [] = refl
    longer (p ∷ ps) = λ i. append_assoc front (name ∷ []) p i ∷ longer ps i

-- the numbers of a line below root are those on the way to its queue
pub way-paths : (paths : List Path) (q : ℕ) (way : List ℕ) → IsLine paths q (0 ∷ way) → map (path_at paths) way ≡ way_to (path_at paths q)
way-paths paths q way is =
    fronts (path_at paths) way [] (path_at paths q) (omega (arith, is.len)) (λ i inside. is.path (suc i) 0 (omega (arith, inside)))
    ∙ map-id (way_to (path_at paths q))

-- ---- what reaches the last queue of a way

-- shares that agree on the way leave the same
agree : (f g : ℕ → ℕ) (way : List ℕ) → AllByRecursion (λ n. f n ≡ g n) way → (amount : Resource) → reached f way amount ≡ reached g way amount
agree f g [] same amount = refl
agree f g (n ∷ way) same amount = ap (λ share. reached f way (scale_floor amount share whole)) same.0 ∙ agree f g way same.1 (scale_floor amount (g n) whole)

-- what the shares of a way leave is the model's, where they are the model's
reached-means : (paths : List Path) (q : ℕ) (way : List ℕ) → IsLine paths q (0 ∷ way) → (share : Path → ℕ) (at : ℕ → ℕ) → AllByRecursion (λ n. share (path_at paths n) ≡ at n) way → (amount : Resource)
    → nested_floor share (path_at paths q) amount ≡ reached at way amount
reached-means paths q way is share at same amount =
    ap (fold (λ (above : Resource) (step : Path). scale_floor above (share step) whole) amount) (sym (way-paths paths q way is))
    ∙ fold-map (λ (above : Resource) (step : Path). scale_floor above (share step) whole) (path_at paths) amount way
    ∙ agree (λ n. share (path_at paths n)) at way same amount

-- a queue below root
abbrev pub IsBelowRoot : List Path → ℕ → Type 0
IsBelowRoot paths n = (0 < n) × HasNumber paths n

-- the most that a queue may use
pub most-means : (paths : List Path) → IsTree paths → (labels : List Label) → AreLabels labels → (rows : List (List Share)) (p q : ℕ) (way : List ℕ) → p < length labels
    → IsLine paths q (0 ∷ way) → AllByRecursion (IsBelowRoot paths) way → (total : Resource)
    → maximum (maxima_of paths labels rows) (path_at paths q) (get_or labels p Unlabelled) total ≡ reached (maximum_at rows p) way total
unfolding maximum
most-means paths tree labels apart rows p q way inside is below total =
    reached-means paths q way is (λ step. maximum_on (maxima_of paths labels rows) step (get_or labels p Unlabelled)) (maximum_at rows p) (each way below) total
  where
    each : (ns : List ℕ) → AllByRecursion (IsBelowRoot paths) ns → AllByRecursion (λ n. maximum_on (maxima_of paths labels rows) (path_at paths n) (get_or labels p Unlabelled) ≡ maximum_at rows p n) ns
    each [] all = tt
    each (n ∷ ns) all = (maximum-means paths tree labels apart p n inside all.0.0 all.0.1 rows, each ns all.1)

-- the capacities are the configured ones
pub record AreConfigured (c : Config) (paths : List Path) (labels : List Label) (rows : List (List Share)) : Type 0 where
  pub capacity : (p n : ℕ) → p < length labels → IsBelowRoot paths n → capacity_at rows p n ≡ capacity_on c (path_at paths n) (get_or labels p Unlabelled)

-- what a queue is guaranteed
pub guaranteed-means : (c : Config) (paths : List Path) (labels : List Label) (rows : List (List Share)) → AreConfigured c paths labels rows → (p q : ℕ) (way : List ℕ) → p < length labels
    → IsLine paths q (0 ∷ way) → AllByRecursion (IsBelowRoot paths) way → (total : Resource)
    → guaranteed c (path_at paths q) (get_or labels p Unlabelled) total ≡ reached (capacity_at rows p) way total
unfolding guaranteed
guaranteed-means c paths labels rows are p q way inside is below total =
    reached-means paths q way is (λ step. capacity_on c step (get_or labels p Unlabelled)) (capacity_at rows p) (each way below) total
  where
    each : (ns : List ℕ) → AllByRecursion (IsBelowRoot paths) ns → AllByRecursion (λ n. capacity_on c (path_at paths n) (get_or labels p Unlabelled) ≡ capacity_at rows p n) ns
    each [] all = tt
    each (n ∷ ns) all = (sym (are.capacity p n inside all.0), each ns all.1)

-- ---- the configured shares

-- the share of a queue and a partition is what is configured of them
pub configured-at : (c : Config) (p j : ℕ) → p < length (partition_labels c.labels) → j < length (paths_of c)
    → share_at (configured_shares c) p (suc j) ≡ configured_share c (get_or (partition_labels c.labels) p Unlabelled) (path_at (paths_of c) (suc j))
configured-at c p j inside within =
    ap (λ row. get_or row (suc j) no_share) (get_or-map (configured_on c) (partition_labels c.labels) p Unlabelled [] inside)
    ∙ ap (λ row. get_or row j no_share) (sym (map-map (configured_share c label) (λ (row : QueueRow). row.path) c.queues))
    ∙ get_or-map (configured_share c label) (paths_of c) j root no_share within
  where
    label : Label
    label = get_or (partition_labels c.labels) p Unlabelled

-- so their capacities are the configured ones
pub configured-are : (c : Config) → AreConfigured c (paths_of c) (partition_labels c.labels) (configured_shares c)
configured-are c = record { capacity = λ p n inside below. at p n inside below.0 below.1 }
  where
    at : (p n : ℕ) → p < length (partition_labels c.labels) → 0 < n → HasNumber (paths_of c) n
        → capacity_at (configured_shares c) p n ≡ capacity_on c (path_at (paths_of c) n) (get_or (partition_labels c.labels) p Unlabelled)
    at p zero inside above has = absurd (omega (arith, above))
    at p (suc j) inside above has = ap (λ (s : Share). s.capacity) (configured-at c p j inside (omega (arith, has)))

-- a row of the maxima
abbrev row_of : (Label → Path → ℕ) → Path → Label → MaximumRow
row_of set path label = record { queue = path; label = label; share = set label path }

opened-on : (p q : ℕ) (path : Path) (labels : List Label) (rows : List (List Share)) (set : Label → Path → ℕ) → ((m : ℕ) → m < length labels → maximum_at rows (p + m) q ≡ set (get_or labels m Unlabelled) path)
    → maxima_on p q path labels rows ≡ map (row_of set path) labels
opened-on p q path [] rows set same = refl
opened-on p q path (l ∷ ls) rows set same =
    λ i. record { queue = path; label = l; share = here i }
    ∷ opened-on (p + 1) q path ls rows set (λ m inside. ap (λ r. maximum_at rows r q) (next p m) ∙ same (suc m) (omega (arith, inside))) i
  where
    here : maximum_at rows p q ≡ set l path
    here = ap (λ r. maximum_at rows r q) (omega arith) ∙ same 0 (omega arith)

    next : (n k : ℕ) → n + 1 + k ≡ n + suc k
    next n k = omega arith

opened-from : (q : ℕ) (paths : List Path) (labels : List Label) (rows : List (List Share)) (set : Label → Path → ℕ)
    → ((j m : ℕ) → j < length paths → m < length labels → maximum_at rows m (q + j) ≡ set (get_or labels m Unlabelled) (get_or paths j root))
    → maxima_from q paths labels rows ≡ flat_map (λ path. map (row_of set path) labels) paths
opened-from q [] labels rows set same = refl
opened-from q (path ∷ paths) labels rows set same =
    λ i. opened-on 0 q path labels rows set first i
    ++ opened-from (q + 1) paths labels rows set (λ j m inside within. ap (maximum_at rows m) (next q j) ∙ same (suc j) m (omega (arith, inside)) within) i
  where
    next : (n k : ℕ) → n + 1 + k ≡ n + suc k
    next n k = omega arith

    first : (m : ℕ) → m < length labels → maximum_at rows (0 + m) q ≡ set (get_or labels m Unlabelled) path
    first m within = (λ i. maximum_at rows (none m i) (more q i)) ∙ same 0 m (omega arith) within
      where
        none : (n : ℕ) → 0 + n ≡ n
        none n = omega arith

        more : (n : ℕ) → n ≡ n + 0
        more n = omega arith

-- and their maxima are the model's opening maxima
pub maxima-opening : (c : Config) → maxima_of (paths_of c) (partition_labels c.labels) (configured_shares c) ≡ opening_maxima c
unfolding opening_maxima
maxima-opening c =
    opened-from 1 (paths_of c) (partition_labels c.labels) (configured_shares c) (λ label path. configured_maximum c path label)
    (λ j m inside within. ap (maximum_at (configured_shares c) m) (one-more j) ∙ ap (λ (s : Share). s.maximum) (configured-at c m j within inside))
    ∙ flat_map-map (λ path. map (row_of (λ label path. configured_maximum c path label) path) (partition_labels c.labels)) (λ (row : QueueRow). row.path) c.queues
  where
    one-more : (n : ℕ) → 1 + n ≡ suc n
    one-more n = omega arith
