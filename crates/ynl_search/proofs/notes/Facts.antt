-- What the rows of a cluster say of the state, as the laws want it.
use Rattle.std.proofs.Common.{◌≡◌, ℕ, true, false, nat_eq, List, [], ◌∷◌, filter, slice_get, Some, sym, ap, ◌∙◌}
use Rattle.std.specs.Map.{lookup}
use Rattle.std.specs.Option.{option_map_or}
use Rattle.ynl_resource.specs.Names.{same_id}
use Rattle.ynl_model.specs.Applications.{leaf_of}
use Rattle.ynl_model.specs.Cluster.{Partition, State, containers_on}
use Rattle.ynl_model.specs.declared.containers.Placed.{Placed}
use Rattle.ynl_model.specs.declared.queues.StopRow.{StopRow}
use Rattle.ynl_model.specs.declared.queues.MaximumRow.{MaximumRow}
use Rattle.ynl_laws.specs.Working.{IsKnown, has_row}
use Rattle.ynl_inventory.specs.layout.Paths.{path_at}
use Rattle.ynl_tables.specs.declared.containers.container.Container.{Container}
use Rattle.ynl_inventory.specs.Rows.{Rows, AppRow, PartitionRow}
use Rattle.ynl_inventory.specs.Meaning.{app_name, label_at, placed_of, state_of}
use Rattle.ynl_inventory.specs.Sound.{IsSound}
use Rattle.ynl_inventory.proofs.AppsFound.{leaf-found}
use Rattle.ynl_inventory.proofs.Finding.{containers-at, find-partition, own-label}
use Rattle.ynl_inventory.proofs.Submitted.{app-submitted}
use Rattle.ynl_inventory.proofs.Tenants.{owner-named}
use Rattle.ynl_search.proofs.notes.Once.{once-placed}

module _ (v : Rows) (sound : IsSound v) (stops : List StopRow) (maxima : List MaximumRow) where
  abbrev pub s : State
  s = state_of v stops maxima

  -- a partition has a row
  pub row-there : (p : ℕ) (row : PartitionRow) → slice_get v.partitions p ≡ Some row → has_row s.partitions (label_at v.partitions p) ≡ true
  row-there p row at =
      ap (has_row s.partitions) (own-label v sound p row at)
      ∙ ap (λ o. option_map_or (λ (x : Partition). true) o false) (find-partition v sound p row at)

  -- a live application is known
  pub known : (n : ℕ) (row : AppRow) → lookup (nat_eq n) v.apps ≡ Some row → IsKnown s.leaves (path_at v.paths row.leaf) (app_name v.tenants row.tenant row.turn)
  known n row found = leaf-found v sound row.tenant row.turn (app_name v.tenants row.tenant row.turn) (record { leaf = row.leaf; app = Some n }) (app-submitted v sound n row found)

  -- a container's leaf is that of its application
  pub owned : (p n : ℕ) (row : AppRow) (c : Container) → lookup (nat_eq c.app) v.apps ≡ Some row
      → leaf_of s.leaves (placed_of v (label_at v.partitions p) c).tenant (placed_of v (label_at v.partitions p) c).app ≡ Some (path_at v.paths row.leaf)
  owned p n row c found = (λ i. leaf_of s.leaves (owner-named v sound c.app row found i).0 (owner-named v sound c.app row found i).1) ∙ known c.app row found

  -- and it alone has its id on its partition
  pub once : (p n : ℕ) (row : PartitionRow) (c : Container) → slice_get v.partitions p ≡ Some row → lookup (nat_eq n) row.containers ≡ Some c
      → filter (λ k. same_id k.id (placed_of v (label_at v.partitions p) c).id) (containers_on s (label_at v.partitions p)) ≡ placed_of v (label_at v.partitions p) c ∷ []
  once p n row c at found =
      ap (λ label. filter (λ (k : Placed). same_id k.id (placed_of v label c).id) (containers_on s label)) (own-label v sound p row at)
      ∙ ap (filter (λ k. same_id k.id (placed_of v row.label c).id)) (containers-at v sound p row at stops maxima)
      ∙ once-placed v row.label row.containers n c (sound.partitions p row at).rising found
      ∙ ap (λ label. placed_of v label c ∷ []) (sym (own-label v sound p row at))
