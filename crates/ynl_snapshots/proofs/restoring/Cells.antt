-- The queues and partitions of which a maximum had a line, by numbers.
use Rattle.std.proofs.Common.{◌≡◌, ◌<◌, ℕ, Bool, true, false, ◌&&◌, ◌||◌, nat_eq, List, [], ◌∷◌, ◌++◌, length, slice_index_or, refl, sym, ap, subst, ◌∙◌, arith}
use Rattle.std.specs.List.{list_any}
use Rattle.std.proofs.lemmas.Bool.Decides.{nat_tests}
use Rattle.std.proofs.lemmas.List.{length-map}
use Rattle.std.proofs.lemmas.List.Folds.{list_any-append}
use Rattle.std.proofs.lemmas.Option.{get_or_from_slice_get}
use Rattle.ynl_resource.specs.Names.{same_label, same_path}
use Rattle.ynl_resource.specs.declared.labels.Label.{Label}
use Rattle.ynl_resource.specs.declared.labels.Label.TheVariants.{Unlabelled}
use Rattle.ynl_resource.specs.declared.paths.Path.{Path}
use Rattle.ynl_model.specs.Nodes.{partition_labels}
use Rattle.ynl_laws.proofs.Lists.{Each-append, Each-weaker}
use Rattle.ynl_inventory.specs.layout.Paths.{HasNumber, path_at, paths_of}
use Rattle.ynl_inventory.proofs.layout.settings.StopsMean.{other-path, own-path}
use Rattle.ynl_inventory.specs.Rows.{PartitionRow}
use Rattle.ynl_inventory.specs.Sound.{IsFor, IsSound}
use Rattle.ynl_inventory.proofs.Asking.{same-label}
use Rattle.ynl_cluster.proofs.requests.Members.{any-agree}
use Rattle.ynl_cluster.specs.Cluster.{ClusterView, label_of}
use Rattle.ynl_replies.specs.declared.admission.queues.CellNumbers.{CellNumbers}
use Rattle.ynl_replies.specs.admission.Named.{IsCellBelowRoot}
use Rattle.ynl_snapshots.specs.restoring.Telling.{AreMaxima, IsCellIn, cell_label, is_cell_of}
use Rattle.ynl_snapshots.proofs.saving.QueuePlaces.{label-there}

-- one more at the end, or at the front
pub turn : (a x : Bool) → (a || (x || false)) ≡ (x || a)
turn true true = refl
turn true false = refl
turn false true = refl
turn false false = refl

module _ (w : ClusterView) (sound : IsSound w.rows) (configured : IsFor w.config w.rows) where
  as-many : length (partition_labels w.config.labels) ≡ length w.rows.partitions
  as-many = ap length (sym configured.labels) ∙ length-map w.rows.partitions (λ (row : PartitionRow). row.label)

  -- a partition has the configured label of its number
  label-configured : (p : ℕ) → p < length w.rows.partitions → slice_index_or (partition_labels w.config.labels) p Unlabelled ≡ label_of w p
  label-configured p within = get_or_from_slice_get (partition_labels w.config.labels) p (label_of w p) Unlabelled (label-there w configured p within)

  module _ (queue : Path) (label : Label) (cell : CellNumbers) (its : IsCellBelowRoot w queue label cell) where
    -- its numbers are configured
    pub cell-there : IsCellIn w.config cell
    cell-there = (
      subst (λ paths. HasNumber paths cell.queue) configured.paths its.queue.queue.there,
      subst (λ n. cell.partition < n) (sym as-many) its.partition.there,
    )

    -- it is that queue's and that partition's
    cell-path : path_at (paths_of w.config) cell.queue ≡ queue
    cell-path = ap (λ paths. path_at paths cell.queue) (sym configured.paths) ∙ its.queue.queue.own

    cell-label : cell_label w.config cell ≡ label
    cell-label = label-configured cell.partition its.partition.there ∙ its.partition.own

    same-numbers : (m q : ℕ) → HasNumber w.rows.paths m → HasNumber w.rows.paths q → same_path (path_at w.rows.paths m) (path_at w.rows.paths q) ≡ nat_eq m q
    same-numbers m q there has = go (nat_eq m q) refl
      where
        go : (b : Bool) → nat_eq m q ≡ b → same_path (path_at w.rows.paths m) (path_at w.rows.paths q) ≡ b
        go true e = ap (λ n. same_path (path_at w.rows.paths n) (path_at w.rows.paths q)) (grind (arith, nat_tests, e)) ∙ own-path w.rows.paths q
        go false e = other-path w.rows.paths sound.tree m q there has (grind (arith, nat_tests, e))

    -- another is where its numbers are the same
    by-number : (told : CellNumbers) → IsCellIn w.config told → is_cell_of w.config queue label told ≡ (nat_eq told.queue cell.queue && nat_eq told.partition cell.partition)
    by-number told there = λ i. path i && own i
      where
        path : same_path (path_at (paths_of w.config) told.queue) queue ≡ nat_eq told.queue cell.queue
        path =
            ap (λ paths. same_path (path_at paths told.queue) queue) (sym configured.paths) ∙ ap (same_path (path_at w.rows.paths told.queue)) (sym its.queue.queue.own)
            ∙ same-numbers told.queue cell.queue (subst (λ paths. HasNumber paths told.queue) (sym configured.paths) there.0) its.queue.queue.there

        within : told.partition < length w.rows.partitions
        within = subst (λ n. told.partition < n) as-many there.1

        own : same_label (cell_label w.config told) label ≡ nat_eq told.partition cell.partition
        own =
            ap (λ l. same_label l label) (label-configured told.partition within) ∙ ap (same_label (label_of w told.partition)) (sym its.partition.own)
            ∙ same-label w.rows sound told.partition cell.partition within its.partition.there

    -- whether a line told its maximum is told by numbers
    pub told-by-number : (cells : List CellNumbers) (maxima : List (Path × Label)) → AreMaxima w.config cells maxima
        → list_any (λ set. same_path set.0 queue && same_label set.1 label) maxima ≡ list_any (λ told. nat_eq told.queue cell.queue && nat_eq told.partition cell.partition) cells
    told-by-number cells maxima are =
        sym (are.same queue label)
        ∙ any-agree (is_cell_of w.config queue label) (λ told. nat_eq told.queue cell.queue && nat_eq told.partition cell.partition) cells (Each-weaker (IsCellIn w.config) _ by-number cells are.there)

    -- one more
    pub cells-more : (cells : List CellNumbers) (maxima : List (Path × Label)) → AreMaxima w.config cells maxima → AreMaxima w.config (cells ++ cell ∷ []) ((queue, label) ∷ maxima)
    cells-more cells maxima are = record {
      there = Each-append (IsCellIn w.config) cells (cell ∷ []) are.there (cell-there, tt);
      same = λ q l. list_any-append (is_cell_of w.config q l) cells (cell ∷ [])
          ∙ (λ i. are.same q l i || ((same_path (cell-path i) q && same_label (cell-label i) l) || false))
          ∙ turn (list_any (λ set. same_path set.0 q && same_label set.1 l) maxima) (same_path queue q && same_label label l);
    }
