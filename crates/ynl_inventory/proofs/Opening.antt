-- The rows of a configuration before any event: they are sound, and mean the model's opening state.
use Rattle.std.proofs.Common.{◌≡◌, ◌<◌, ℕ, zero, suc, ◌+◌, Bool, true, false, cond, not, ◌&&◌, ◌||◌, List, [], ◌∷◌, ◌++◌, map, filter, length, slice_get, get_or, Some, option_map, refl, sym, ap, subst, ◌∙◌, arith, true≢false}
use Rattle.std.specs.Prelude.{⊤, replicate}
use Rattle.std.specs.List.{AllByRecursion, filter_map, list_any}
use Rattle.std.proofs.lemmas.Bool.{and_parts, or_parts}
use Rattle.std.proofs.lemmas.List.{length-replicate}
use Rattle.std.proofs.lemmas.Option.{none-some, same_Some, slice_get-map, slice_get_within, slice_get-get_or}
use Rattle.ynl_resource.specs.Names.{root, same_name, same_label, same_path, is_within}
use Rattle.ynl_resource.specs.declared.labels.Label.{Label}
use Rattle.ynl_resource.specs.declared.labels.Label.TheVariants.{Unlabelled, Named}
use Rattle.ynl_resource.specs.declared.paths.Path.{Path}
use Rattle.ynl_model.specs.declared.labels.LabelRow.{LabelRow}
use Rattle.ynl_model.specs.Accepted.{all_differ}
use Rattle.ynl_model.specs.Applications.{LeafApps}
use Rattle.ynl_model.specs.Nodes.{Labels, clock_limit, partition_labels}
use Rattle.ynl_model.specs.Service.{takes_guests}
use Rattle.ynl_model.specs.Queues.{Config, QueueRow, is_leaf}
use Rattle.ynl_laws.specs.Working.{Pairs}
use Rattle.ynl_laws.proofs.Lists.{Each-map, Each-all, all-of, map-map}
use Rattle.ynl_laws.proofs.Logic.{not-true}
use Rattle.ynl_laws.proofs.Names.{same-label_self}
use Rattle.ynl_queues.specs.Trees.{HasTree}
use Rattle.ynl_inventory.specs.layout.Paths.{IsTree, path_at, paths_of}
use Rattle.ynl_tables.specs.declared.submissions.submissions.Submission.{Submission}
use Rattle.ynl_resource.specs.declared.names.Name.{Name}
use Rattle.ynl_inventory.specs.Rows.{Rows, PartitionRow}
use Rattle.ynl_inventory.specs.Meaning.{has_none_below, label_at, leaf_of, leaves_from, live_of, partition_of, submitted_in, tenant_at}
use Rattle.ynl_inventory.specs.Opening.{opening_partition, opening_rows, IsOpening}
use Rattle.ynl_inventory.specs.Sound.{IsFor, IsPartition, IsTenant, IsSound}
use Rattle.ynl_inventory.proofs.PartLists.{unmapped}

-- ---- lists

-- where all are the same, so is each
replicate-at : {X : Type 0} (n t : ℕ) (x : X) → get_or (replicate n x) t x ≡ x
replicate-at zero t x = refl
replicate-at (suc n) zero x = refl
replicate-at (suc n) (suc t) x = replicate-at n t x

replicate-found : {X : Type 0} (n t : ℕ) (x y : X) → slice_get (replicate n x) t ≡ Some y → y ≡ x
replicate-found zero t x y at = absurd (none-some y at)
replicate-found (suc n) zero x y at = sym (same_Some x y at)
replicate-found (suc n) (suc t) x y at = replicate-found n t x y at

-- ---- the partitions

labels-of : (labels : Labels) (all : List Label) → map (λ row. row.label) (map (opening_partition labels) all) ≡ all
labels-of labels [] = refl
labels-of labels (label ∷ all) = ap (λ rest. label ∷ rest) (labels-of labels all)

-- labels whose names all differ are apart
labels-differ : (rows : List LabelRow) → all_differ same_name (map (λ row. row.name) rows) ≡ true → Pairs (λ a b. same_label a b ≡ false) (map (λ row. Named row.name) rows)
labels-differ [] h = tt
labels-differ (row ∷ rows) h = (go rows (not-true _ (and_parts _ _ h).0), labels-differ rows (and_parts (not (list_any (same_name row.name) (map (λ row. row.name) rows))) _ h).1)
  where
    go : (rows : List LabelRow) → list_any (same_name row.name) (map (λ row. row.name) rows) ≡ false → AllByRecursion (λ b. same_label (Named row.name) b ≡ false) (map (λ row. Named row.name) rows)
    go [] e = tt
    go (x ∷ rows) e = ((or_parts _ _ e).0, go rows (or_parts (same_name row.name x.name) _ e).1)

-- and so are those of all partitions
partitions-differ : (labels : Labels) → all_differ same_name (map (λ row. row.name) labels.rows) ≡ true → Pairs (λ a b. same_label a b ≡ false) (partition_labels labels)
partitions-differ labels h = (
  Each-map (λ (row : LabelRow). ⊤) (λ label. same_label Unlabelled label ≡ false) (λ row. Named row.name) (λ row _. refl) labels.rows (Each-all (λ (row : LabelRow). ⊤) (λ row. tt) labels.rows),
  labels-differ labels.rows h,
)

module _ (labels : Labels) where
  abbrev rows_of : List Label → List PartitionRow
  rows_of all = map (opening_partition labels) all

  each-at : (P : Label → Type 0) (all : List Label) → AllByRecursion P all → (p : ℕ) → p < length (rows_of all) → P (label_at (rows_of all) p)
  each-at P [] h p inside = absurd (omega (arith, inside))
  each-at P (label ∷ all) h zero inside = h.0
  each-at P (label ∷ all) h (suc p) inside = each-at P all h.1 p (omega (arith, inside))

  -- a label tells the partition
  labels-tell : (all : List Label) → Pairs (λ a b. same_label a b ≡ false) all → (p q : ℕ) → p < length (rows_of all) → q < length (rows_of all)
      → label_at (rows_of all) p ≡ label_at (rows_of all) q → p ≡ q
  labels-tell [] apart p q p-in q-in same = absurd (omega (arith, p-in))
  labels-tell (label ∷ all) apart zero zero p-in q-in same = refl
  labels-tell (label ∷ all) apart zero (suc q) p-in q-in same =
      let differ : same_label label (label_at (rows_of all) q) ≡ false = each-at (λ b. same_label label b ≡ false) all apart.0 q (omega (arith, q-in)) in
      absurd (true≢false (sym (same-label_self label) ∙ ap (same_label label) same ∙ differ))
  labels-tell (label ∷ all) apart (suc p) zero p-in q-in same =
      let differ : same_label label (label_at (rows_of all) p) ≡ false = each-at (λ b. same_label label b ≡ false) all apart.0 p (omega (arith, p-in)) in
      absurd (true≢false (sym (same-label_self label) ∙ ap (same_label label) (sym same) ∙ differ))
  labels-tell (label ∷ all) apart (suc p) (suc q) p-in q-in same = ap suc (labels-tell all apart.1 p q (omega (arith, p-in)) (omega (arith, q-in)) same)

-- ---- the rows

module _ (c : Config) where
  abbrev v : Rows
  v = opening_rows c

  -- they are those of the configuration
  pub opening-for : IsFor c v
  opening-for = record {
    labels = labels-of c.labels (partition_labels c.labels);
    limits =
        all-of (λ (row : PartitionRow). row.limit ≡ clock_limit c.labels row.label) v.partitions
        (Each-map (λ (label : Label). ⊤) (λ (row : PartitionRow). row.limit ≡ clock_limit c.labels row.label) (opening_partition c.labels) (λ label _. refl) (partition_labels c.labels)
        (Each-all (λ (label : Label). ⊤) (λ label. tt) (partition_labels c.labels)));
    guests =
        all-of (λ (row : PartitionRow). row.guests ≡ takes_guests c row.label) v.partitions
        (Each-map (λ (label : Label). ⊤) (λ (row : PartitionRow). row.guests ≡ takes_guests c row.label) (opening_partition c.labels) (λ label _. refl) (partition_labels c.labels)
        (Each-all (λ (label : Label). ⊤) (λ label. tt) (partition_labels c.labels)));
    paths = refl;
  }

  is-partition : (p : ℕ) (row : PartitionRow) → slice_get v.partitions p ≡ Some row → IsPartition v p row
  is-partition p row at =
      let label = unmapped (opening_partition c.labels) (slice_get (partition_labels c.labels) p) row (sym (slice_get-map (opening_partition c.labels) (partition_labels c.labels) p) ∙ at) in
      subst (IsPartition v p) label.2 (empty label.0)
    where
      empty : (label : Label) → IsPartition v p (opening_partition c.labels label)
      empty label = record { numbers = tt; rising = tt; clock = omega arith; masters = λ n m c d found. absurd (none-some c found); each = λ n held found. absurd (none-some held found) }

  is-tenant : (t : ℕ) (entries : List (Name × Submission)) → slice_get v.tenants t ≡ Some entries → IsTenant v t entries
  is-tenant t entries at =
      subst (IsTenant v t) (sym (replicate-found (length (root ∷ paths_of c)) t [] entries at))
      (record { names = tt; each = λ turn name s found. absurd (none-some (name, s) found) })

  -- they are sound
  pub opening-sound : HasTree c → IsTree (paths_of c) → IsSound v
  opening-sound has tree = record {
    tree = tree;
    default = refl;
    some = omega arith;
    labels = λ p q p-in q-in same. labels-tell c.labels (partition_labels c.labels) (partitions-differ c.labels has.labels) p q p-in q-in same;
    partitions = is-partition;
    node_numbers = tt;
    node_names = tt;
    nodes = λ n row found. absurd (none-some row found);
    app_numbers = tt;
    apps = λ n row found. absurd (none-some row found);
    order = tt;
    many = length-replicate (length (root ∷ paths_of c)) [];
    tenants = is-tenant;
    users = tt;
  }

  -- ---- what they mean

  -- nothing was submitted to a queue
  nothing-in : (q : ℕ) → submitted_in v q ≡ []
  nothing-in q = ap (filter (λ e. _)) (replicate-at (length (root ∷ paths_of c)) (tenant_at v.paths q) [])

  abbrev empty_leaf : Path → LeafApps
  empty_leaf path = record { leaf = path; names = []; apps = [] }

  -- a leaf has no applications
  leaf-is : (q : ℕ) (path : Path) → path_at v.paths q ≡ path → leaf_of v q ≡ empty_leaf path
  leaf-is q path is = λ i. record { leaf = is i; names = map (λ e. e.0) (nothing-in q i); apps = filter_map (live_of v) (nothing-in q i) }

  -- a queue has none below it in the list of the paths as in the configuration
  none-below : (queue : Path) (rows : List QueueRow)
      → list_any (λ other. is_within queue other && not (same_path queue other)) (map (λ row. row.path) rows) ≡ list_any (λ row. is_within queue row.path && not (same_path queue row.path)) rows
  none-below queue [] = refl
  none-below queue (row ∷ rows) = ap (λ (b : Bool). (is_within queue row.path && not (same_path queue row.path)) || b) (none-below queue rows)

  leaf-same : (queue : Path) → has_none_below (paths_of c) queue ≡ is_leaf c queue
  unfolding is_leaf
  leaf-same queue = ap (λ b. not (same_path queue root) && not b) (none-below queue c.queues)

  -- the leaves are those of the configuration
  leaves-are : (n : ℕ) (rows : List QueueRow) → ((k : ℕ) (row : QueueRow) → slice_get rows k ≡ Some row → path_at (paths_of c) (n + k) ≡ row.path)
      → map (leaf_of v) (leaves_from (paths_of c) n (map (λ row. row.path) rows)) ≡ map (λ row. empty_leaf row.path) (filter (λ row. is_leaf c row.path) rows)
  leaves-are n [] at = refl
  leaves-are n (row ∷ rows) at =
      ap (λ (b : Bool). map (leaf_of v) (cond b (n ∷ []) [] ++ leaves_from (paths_of c) (n + 1) (map (λ row. row.path) rows))) (leaf-same row.path)
      ∙ go (is_leaf c row.path)
      (leaves-are (n + 1) rows
      (λ k other found. let m : n + 1 + k ≡ n + suc k = omega arith in ap (path_at (paths_of c)) m ∙ at (suc k) other found))
    where
      here : path_at (paths_of c) n ≡ row.path
      here = let m : n ≡ n + 0 = omega arith in ap (path_at (paths_of c)) m ∙ at 0 row refl

      go : (b : Bool)
          → map (leaf_of v) (leaves_from (paths_of c) (n + 1) (map (λ row. row.path) rows)) ≡ map (λ row. empty_leaf row.path) (filter (λ row. is_leaf c row.path) rows)
          → map (leaf_of v) (cond b (n ∷ []) [] ++ leaves_from (paths_of c) (n + 1) (map (λ row. row.path) rows))
          ≡ map (λ row. empty_leaf row.path) (cond b (row ∷ filter (λ row. is_leaf c row.path) rows) (filter (λ row. is_leaf c row.path) rows))
      go true rest = λ i. leaf-is n row.path here i ∷ rest i
      go false rest = rest

  path-of : (k : ℕ) (row : QueueRow) → slice_get c.queues k ≡ Some row → path_at (paths_of c) (1 + k) ≡ row.path
  path-of k row found =
      let its : slice_get (paths_of c) k ≡ Some row.path = slice_get-map (λ (row : QueueRow). row.path) c.queues k ∙ ap (option_map (λ (row : QueueRow). row.path)) found in
      let m : 1 + k ≡ suc k = omega arith in
      ap (path_at (paths_of c)) m
      ∙ same_Some (get_or (paths_of c) k root) row.path (sym (slice_get-get_or (paths_of c) k root (slice_get_within (paths_of c) k row.path its)) ∙ its)

  -- they mean the model's opening state
  pub opening-means : IsOpening c v
  opening-means stops maxima = λ i. record {
    nodes = [];
    partitions = map-map (partition_of v) (opening_partition c.labels) (partition_labels c.labels) i;
    leaves = leaves-are 1 c.queues path-of i;
    stops = stops;
    maxima = maxima;
  }
