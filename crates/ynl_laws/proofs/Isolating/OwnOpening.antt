-- At first the tenant's own cluster is what the whole one is to the tenant.
use Rattle.std.proofs.Common.{◌≡◌, refl, sym, ap, ◌∙◌, Bool, true, false, cond, not, ◌&&◌, ◌||◌, List, [], ◌∷◌, ◌++◌, map, Some, None, option_map, filter, find}
use Rattle.std.specs.Prelude.{⊤, flat_map}
use Rattle.std.specs.List.{list_all}
use mathlib.Core.Bool.{true≢false}
use Rattle.ynl_resource.specs.Names.{same_label, root, top_level, same_path, is_within}
use Rattle.ynl_resource.specs.declared.names.Name.{Name}
use Rattle.ynl_resource.specs.declared.labels.Label.{Label}
use Rattle.ynl_resource.specs.declared.paths.Path.{Path}
use Rattle.ynl_model.specs.Nodes.{partition_labels}
use Rattle.ynl_model.specs.Queues.{QueueRow, Config, is_leaf, configured_maximum, is_maximum_of, opening_maxima}
use Rattle.ynl_model.specs.declared.queues.MaximumRow.{MaximumRow}
use Rattle.ynl_model.specs.declared.queues.StopRow.{StopRow}
use Rattle.ynl_model.specs.Applications.{LeafApps, no_apps}
use Rattle.ynl_model.specs.Cluster.{Partition, opening}
use Rattle.ynl_model.specs.View.{restrict}
use Rattle.ynl_laws.proofs.Isolating.Restricted.{is_leaf-restrict, configured-restrict}
use Rattle.ynl_laws.proofs.Isolating.Own.{only_row, is_row_of}
use Rattle.ynl_laws.proofs.Isolating.Mirrored.{bears_on, cleared, Mirrors}
use Rattle.ynl_laws.proofs.Lists.{Each-map, Each-all, all-self, find-append_none, find-nothing, filter-same, filter-swap, map-map, filter-map}
use Rattle.ynl_laws.proofs.Logic.{not-true}
use Rattle.ynl_laws.proofs.Names.{same-path}
use Rattle.std.proofs.Math.Bool.{or-false}

module _ (c : Config) (t : Name) (p : Label) where
  abbrev within : QueueRow → Bool
  within row = is_within (top_level t) row.path

  abbrev empty_row : QueueRow → LeafApps
  empty_row row = record { leaf = row.path; names = []; apps = [] }

  leaves-are : no_apps (restrict c t) ≡ map (only_row p) (filter (is_row_of t) (no_apps c))
  leaves-are =
      ap (map empty_row) (filter-same within (λ row. is_leaf (restrict c t) row.path) (λ row. is_leaf c row.path) (λ row w. is_leaf-restrict c t row.path w) (filter within c.queues) (all-self within c.queues)
      ∙ filter-swap within (λ row. is_leaf c row.path) c.queues)
      ∙ sym (ap (map (only_row p)) (filter-map empty_row (is_row_of t) (filter (λ row. is_leaf c row.path) c.queues)) ∙ map-map (only_row p) empty_row (filter within (filter (λ row. is_leaf c row.path) c.queues)))

  -- the maximum of a row on a partition, as it is configured
  abbrev row_at : Config → QueueRow → Label → MaximumRow
  row_at d row label = record { queue = row.path; label = label; share = configured_maximum d row.path label }

  abbrev rows-of : Config → QueueRow → List MaximumRow
  rows-of d row = map (row_at d row) (partition_labels c.labels)

  rows-same : (row : QueueRow) → within row ≡ true → (labels : List Label) → map (row_at (restrict c t) row) labels ≡ map (row_at c row) labels
  rows-same row w [] = refl
  rows-same row w (label ∷ labels) = λ i. record { queue = row.path; label = label; share = configured-restrict c t row.path label w i } ∷ rows-same row w labels i

  rows-none : (queue : Path) → is_within (top_level t) queue ≡ true → (row : QueueRow) → within row ≡ false → find (is_maximum_of queue p) (rows-of c row) ≡ None
  rows-none queue w row off = find-nothing (is_maximum_of queue p) (rows-of c row)
      (Each-map (λ (label : Label). ⊤) (λ maximum. is_maximum_of queue p maximum ≡ false) (row_at c row) (λ label _. go (same_path row.path queue) refl (same_label label p)) (partition_labels c.labels) (Each-all (λ (label : Label). ⊤) (λ label. tt) (partition_labels c.labels)))
    where
      go : (b : Bool) → same_path row.path queue ≡ b → (d : Bool) → (same_path row.path queue && d) ≡ false
      go false e d = ap (λ b. b && d) e
      go true e d = absurd (true≢false (sym w ∙ ap (is_within (top_level t)) (sym (same-path row.path queue e)) ∙ off))

  maxima-found : (queue : Path) → is_within (top_level t) queue ≡ true → (rows : List QueueRow) → find (is_maximum_of queue p) (flat_map (rows-of c) rows) ≡ find (is_maximum_of queue p) (flat_map (rows-of (restrict c t)) (filter within rows))
  maxima-found queue w [] = refl
  maxima-found queue w (row ∷ rows) = go (maxima-found queue w rows) (within row) refl
    where
      after : find (is_maximum_of queue p) (flat_map (rows-of c) rows) ≡ find (is_maximum_of queue p) (flat_map (rows-of (restrict c t)) (filter within rows)) → (xs : List MaximumRow) →
          find (is_maximum_of queue p) (xs ++ flat_map (rows-of c) rows) ≡ find (is_maximum_of queue p) (xs ++ flat_map (rows-of (restrict c t)) (filter within rows))
      after rest [] = rest
      after rest (x ∷ xs) = λ i. cond (is_maximum_of queue p x) (Some x) (after rest xs i)

      go : find (is_maximum_of queue p) (flat_map (rows-of c) rows) ≡ find (is_maximum_of queue p) (flat_map (rows-of (restrict c t)) (filter within rows)) → (b : Bool) → within row ≡ b →
          find (is_maximum_of queue p) (flat_map (rows-of c) (row ∷ rows)) ≡ find (is_maximum_of queue p) (flat_map (rows-of (restrict c t)) (cond b (row ∷ filter within rows) (filter within rows)))
      go rest true e = after rest (rows-of c row) ∙ ap (λ xs. find (is_maximum_of queue p) (xs ++ flat_map (rows-of (restrict c t)) (filter within rows))) (sym (rows-same row e (partition_labels c.labels)))
      go rest false e = find-append_none (is_maximum_of queue p) (rows-of c row) (flat_map (rows-of c) rows) (rows-none queue w row e) ∙ rest

  -- of the opening states the second is what the first is to the tenant
  pub mirrors-opening : list_all (λ row. not (same_path row.path root)) c.queues ≡ true → Mirrors t p (opening c) (opening (restrict c t))
  unfolding opening_maxima
  mirrors-opening rooted = record {
    nodes = refl;
    partitions = sym (map-map (cleared p) (λ label. record { label = label; clock = 0; containers = [] }) (partition_labels c.labels) ∙ (λ i. map (λ label. empty label (same_label label p) i) (partition_labels c.labels)));
    leaves = leaves-are;
    stops = sym (filter-map stop (bears_on t) c.queues ∙ ap (map stop) (filter-same (λ row. not (same_path row.path root)) (λ row. bears_on t (stop row)) within (λ row below. bears row (not-true _ below)) c.queues rooted));
    maxima = λ queue w. ap (option_map (λ row. row.share)) (maxima-found queue w c.queues);
  }
    where
      stop : QueueRow → StopRow
      stop row = record { queue = row.path; stopped = row.stopped }

      bears : (row : QueueRow) → same_path row.path root ≡ false → bears_on t (stop row) ≡ within row
      bears row below = ap (λ b. within row || b) below ∙ or-false (within row)

      empty : (label : Label) (b : Bool) → ◌≡◌ {A = Partition} (cond b (record { label = label; clock = 0; containers = [] }) (record { label = label; clock = 0; containers = [] })) (record { label = label; clock = 0; containers = [] })
      empty label true = refl
      empty label false = refl
