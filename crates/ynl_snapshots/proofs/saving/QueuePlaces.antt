-- Queues in places, and what the model has set of them.
use Rattle.std.proofs.Common.{◌≡◌, ◌<◌, ◌≤◌, ◌+◌, ◌-◌, ℕ, Bool, Option, None, List, [], ◌∷◌, length, slice_get, Some, option_map, refl, sym, ap, ◌∙◌, arith}
use Rattle.std.specs.Option.{option_map_or, IsSome}
use Rattle.std.proofs.lemmas.List.{length-map}
use Rattle.std.proofs.lemmas.Option.{slice_get-map}
use Rattle.ynl_resource.specs.declared.labels.Label.{Label}
use Rattle.ynl_resource.specs.declared.labels.Label.TheVariants.{Unlabelled}
use Rattle.ynl_resource.specs.declared.paths.Path.{Path}
use Rattle.ynl_model.specs.Nodes.{partition_labels}
use Rattle.ynl_model.specs.Queues.{QueueRow}
use Rattle.ynl_model.specs.declared.queues.StopRow.{StopRow}
use Rattle.ynl_inventory.specs.layout.settings.Meaning.{stops_of}
use Rattle.ynl_inventory.specs.layout.Paths.{HasNumber, paths_of}
use Rattle.ynl_inventory.specs.Rows.{PartitionRow}
use Rattle.ynl_inventory.specs.Sound.{HasPartition, IsFor}
use Rattle.ynl_inventory.proofs.Lookups.{place-there}
use Rattle.ynl_cluster.specs.Cluster.{ClusterView, label_of, path_of, state_in}
use Rattle.ynl_snapshots.proofs.saving.Rows.{path-own}

module _ (w : ClusterView) (configured : IsFor w.config w.rows) (i : ℕ) (inside : i < length w.config.queues) where
  -- the queue in a place has the number behind it
  pub queue-there : HasNumber w.rows.paths (i + 1)
  queue-there =
      let many : length w.rows.paths ≡ length w.config.queues = ap length configured.paths ∙ length-map w.config.queues (λ (row : QueueRow). row.path) in
      omega (arith, many, inside)

  pub queue-above : 0 < i + 1
  queue-above = omega arith

  pub queue-row : (row : QueueRow) × (slice_get w.config.queues i ≡ Some row)
  queue-row = place-there w.config.queues i inside

  -- and its path
  pub queue-path : path_of w (i + 1) ≡ queue-row.0.path
  queue-path = path-own w configured i queue-row.0 queue-row.1

-- the label of a partition is that of its place
pub label-there : (w : ClusterView) → IsFor w.config w.rows → (p : ℕ) → HasPartition w.rows p → slice_get (partition_labels w.config.labels) p ≡ Some (label_of w p)
label-there w configured p has =
    let there = place-there w.rows.partitions p has in
    ap (λ (labels : List Label). slice_get labels p) (sym configured.labels) ∙ slice_get-map (λ (row : PartitionRow). row.label) w.rows.partitions p
    ∙ ap (option_map (λ (row : PartitionRow). row.label)) there.1
    ∙ ap (λ label. Some label) (sym (ap (λ o. option_map_or (λ (row : PartitionRow). row.label) o Unlabelled) there.1))

-- there are no more stops than queues
fewer : (paths : List Path) (marks : List Bool) → length (stops_of paths marks) ≤ length paths
fewer [] marks = omega arith
fewer (path ∷ paths) [] = omega arith
fewer (path ∷ paths) (mark ∷ marks) = let rest = fewer paths marks in omega (arith, rest)

pub few-stops : (w : ClusterView) → length (state_in w).stops ≤ length w.config.queues
few-stops w = let few = fewer (paths_of w.config) w.stops in let many = length-map w.config.queues (λ (row : QueueRow). row.path) in omega (arith, few, many)

-- the stop in a place
pub stop-at : (stops : List StopRow) (i : ℕ) → IsSome (slice_get stops (i + 1 - 1)) → (row : StopRow) × (slice_get stops i ≡ Some row) × (slice_get stops (i + 1 - 1) ≡ Some row)
stop-at stops i there =
    let same : i + 1 - 1 ≡ i = omega arith in
    let own = some-of (slice_get stops (i + 1 - 1)) there in
    (own.0, ap (slice_get stops) (sym same) ∙ own.1, own.1)
  where
    some-of : (o : Option StopRow) → IsSome o → (row : StopRow) × (o ≡ Some row)
    some-of None h = absurd (grind (arith, h))
    some-of (Some row) h = (row, refl)
