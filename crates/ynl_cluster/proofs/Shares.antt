-- What is set of a queue, as the readers of a cluster find it.
use Rattle.std.proofs.Common.{◌≡◌, ℕ, zero, suc, ◌-◌, ◌<◌, Bool, true, false, cond, nat_eq, List, [], ◌∷◌, length, get_or, find, Some, refl, sym, ap, subst, ◌∙◌, option_map, arith}
use Rattle.std.proofs.lemmas.Bool.Decides.{nat_tests}
use Rattle.std.proofs.lemmas.List.{get_or-map, length-map}
use Rattle.ynl_resource.specs.Names.{root, same_path}
use Rattle.ynl_resource.specs.declared.paths.Path.{Path}
use Rattle.ynl_model.specs.declared.queues.LeafSettings.{LeafSettings}
use Rattle.ynl_model.specs.Queues.{Config, QueueRow, capacity_on, maximum_on, queue_row}
use Rattle.ynl_inventory.specs.layout.Paths.{HasNumber, IsTree, path_at, paths_of}
use Rattle.ynl_inventory.specs.layout.settings.Shares.{capacity_at, maximum_at}
use Rattle.ynl_inventory.proofs.layout.settings.MaximaMean.{maximum-means}
use Rattle.ynl_inventory.proofs.layout.settings.StopsMean.{other-path, own-path}
use Rattle.ynl_lanes.specs.table.Lanes.{IsLaneAt}
use Rattle.ynl_inventory.specs.Sound.{HasPartition}
use Rattle.ynl_cluster.specs.declared.cluster.Cluster.TheInside.{Inside}
use Rattle.ynl_cluster.specs.Cluster.{ClusterView, label_of, maxima_in, path_of, state_in, IsCell}
use Rattle.ynl_cluster.specs.Whole.{view_of, IsCluster}
use Rattle.ynl_cluster.proofs.Reading.{in-labels, in-paths, label-is, labels, labels-apart, number-there, paths, tree}

-- ---- the row of a queue

one-more : (m n : ℕ) → nat_eq (suc m) (suc n) ≡ nat_eq m n
one-more m n = grind (arith, nat_tests)

before-one : (n : ℕ) → nat_eq 0 (suc n) ≡ false
before-one n = grind (arith, nat_tests)

-- what alone passes a test is found
find-own : {X : Type 0} (test : X → Bool) (xs : List X) (k : ℕ) (d : X) → k < length xs → ((m : ℕ) → m < length xs → test (get_or xs m d) ≡ nat_eq m k) → find test xs ≡ Some (get_or xs k d)
find-own test [] k d inside only = absurd (omega (arith, inside))
find-own test (x ∷ xs) zero d inside only = ap (λ b. cond b (Some x) (find test xs)) (only 0 (omega arith))
find-own test (x ∷ xs) (suc k) d inside only =
    ap (λ b. cond b (Some x) (find test xs)) (only 0 (omega arith) ∙ before-one k)
    ∙ find-own test xs k d (omega (arith, inside)) (λ m within. only (suc m) (omega (arith, within)) ∙ one-more m k)

some-of : {X : Type 0} (xs : List X) (k : ℕ) → k < length xs → X
some-of [] k inside = absurd (omega (arith, inside))
some-of (x ∷ xs) k inside = x

-- two numbers have one path where they are one
same-paths : (all : List Path) → IsTree all → (m q : ℕ) → HasNumber all m → HasNumber all q → same_path (path_at all m) (path_at all q) ≡ nat_eq m q
same-paths all tree m q there has = go (nat_eq m q) refl
  where
    go : (b : Bool) → nat_eq m q ≡ b → same_path (path_at all m) (path_at all q) ≡ b
    go true e = ap (λ n. same_path (path_at all n) (path_at all q)) (grind (arith, nat_tests, e)) ∙ own-path all q
    go false e = other-path all tree m q there has (grind (arith, nat_tests, e))

-- the row of a queue below root is that of its number
row-found : (c : Config) → IsTree (paths_of c) → (k : ℕ) → k < length c.queues → HasNumber (paths_of c) (suc k) → (d : QueueRow)
    → ((m : ℕ) → m < length c.queues → HasNumber (paths_of c) (suc m))
    → queue_row c (path_at (paths_of c) (suc k)) ≡ Some (get_or c.queues k d)
row-found c tree k inside has d each =
    find-own (λ (row : QueueRow). same_path row.path (path_at (paths_of c) (suc k))) c.queues k d inside
    (λ m within.
    ap (λ (path : Path). same_path path (path_at (paths_of c) (suc k))) (sym (get_or-map (λ (row : QueueRow). row.path) c.queues m d root within))
    ∙ same-paths (paths_of c) tree (suc m) (suc k) (each m within) has ∙ one-more m k)

module _ (a : Inside) (is : IsCluster a) (w : ClusterView) (view : view_of a ≡ w) where
  -- ---- shares

  module _ (p q : ℕ) (below : 0 < q) (cell : IsCell w p q) where
    -- the capacity that is kept is the configured one
    pub capacity-means : (share : ℕ) → share ≡ capacity_at a.shares p q → share ≡ capacity_on w.config (path_of w q) (label_of w p)
    capacity-means share read =
        read ∙ is.settings.capacities p q (in-labels a is w view p cell.partition) below (in-paths a is w view q cell.queue)
        ∙ (λ i. capacity_on a.config (path_at (sym is.parts.configured.paths i) q) (sym (label-is a is w view p) i))
        ∙ (λ i. capacity_on (view i).config (path_of (view i) q) (label_of (view i) p))

    -- and the maximum is the present one
    pub maximum-is : (share : ℕ) → share ≡ maximum_at a.shares p q → share ≡ maximum_on (state_in w).maxima (path_of w q) (label_of w p)
    maximum-is share read =
        read
        ∙ sym (maximum-means (paths a is w view) (tree a is w view) (labels a is w view) (labels-apart a is w view) p q (in-labels a is w view p cell.partition) below (in-paths a is w view q cell.queue) a.shares)
        ∙ (λ i. maximum_on (maxima_in (view_of a)) (path_at (sym is.parts.configured.paths i) q) (sym (label-is a is w view p) i))
        ∙ (λ i. maximum_on (maxima_in (view i)) (path_of (view i) q) (label_of (view i) p))

  -- ---- leaves

  -- a leaf has a lane on each partition
  pub lane-there : (p q : ℕ) → IsCell w p q → IsLaneAt p q a.lanes
  lane-there p q cell = (is.parts.seated.seats p q (subst (λ (w : ClusterView). HasPartition w.rows p) (sym view) cell.partition) (number-there a is w view q cell.queue)).there

  module _ (q : ℕ) (below : 0 < q) (has : HasNumber w.rows.paths q) where
    many : length (paths_of a.config) ≡ length a.config.queues
    many = length-map a.config.queues (λ (row : QueueRow). row.path)

    -- a queue below root has a row
    pub row-there : (c : Config) → c ≡ a.config → q - 1 < length c.queues
    row-there c same =
        subst (λ (c : Config). q - 1 < length c.queues) (sym same)
        (let there : q < suc (length (paths_of a.config)) = in-paths a is w view q has in
        subst (λ (n : ℕ). q - 1 < n) many (omega (arith, there, below)))

    -- what is set of it there is what is configured
    pub settings-mean : (c : Config) → c ≡ a.config → (set : LeafSettings) → ((d : QueueRow) → set ≡ (get_or c.queues (q - 1) d).leaf) → option_map (λ row. row.leaf) (queue_row w.config (path_of w q)) ≡ Some set
    settings-mean c same set read =
        (λ i. option_map (λ row. row.leaf) (queue_row (sym view i).config (path_of (sym view i) q)))
        ∙ (λ i. option_map (λ row. row.leaf) (queue_row (sym same i) (path_at (is.parts.configured.paths i) q)))
        ∙ own q below (row-there c same) refl (in-paths a is w view q has)
      where
        each : (m : ℕ) → m < length a.config.queues → HasNumber (paths_of a.config) (suc m)
        each m inside = let within : m < length (paths_of a.config) = subst (λ (n : ℕ). m < n) (sym many) inside in omega (arith, within)

        own : (n : ℕ) → 0 < n → q - 1 < length c.queues → n ≡ q → HasNumber (paths_of a.config) n → option_map (λ row. row.leaf) (queue_row c (path_at (paths_of a.config) n)) ≡ Some set
        own zero above inside e there = absurd (omega (arith, above))
        own (suc k) above inside e there =
            (λ i. option_map (λ (row : QueueRow). row.leaf) (queue_row (same i) (path_at (paths_of a.config) (suc k))))
            ∙ ap (option_map (λ (row : QueueRow). row.leaf)) (row-found a.config (tree a is w view) k (omega (arith, within)) there d each)
            ∙ ap (λ (n : ℕ). Some (get_or a.config.queues n d).leaf) (omega (arith, e))
            ∙ (λ i. Some (get_or (sym same i).queues (q - 1) d).leaf)
            ∙ ap (λ (set : LeafSettings). Some set) (sym (read d))
          where
            d : QueueRow
            d = some-of c.queues (q - 1) inside

            within : k < length a.config.queues
            within = let has : suc k < suc (length (paths_of a.config)) = there in subst (λ (n : ℕ). k < n) many (omega (arith, has))
