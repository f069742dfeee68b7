-- What is told of a container that was placed.
use Rattle.std.proofs.Common.{◌≡◌, ℕ, true, cond, nat_eq, List, [], ◌∷◌, ◌++◌, slice_get, Some, option_map, refl, sym, ap, subst, ◌∙◌, arith}
use Rattle.std.specs.Prelude.{IfSome}
use Rattle.std.specs.Map.{lookup}
use Rattle.std.specs.Option.{option_and_then, option_map_or}
use Rattle.std.proofs.lemmas.Bool.Decides.{nat_tests}
use Rattle.ynl_resource.specs.declared.amounts.Resource.{Resource}
use Rattle.ynl_resource.specs.declared.labels.Label.{Label}
use Rattle.ynl_model.specs.Queues.{Config}
use Rattle.ynl_model.specs.declared.queues.StopRow.{StopRow}
use Rattle.ynl_model.specs.declared.queues.MaximumRow.{MaximumRow}
use Rattle.ynl_model.specs.declared.containers.Placed.{Placed}
use Rattle.ynl_model.specs.Changes.{container_of}
use Rattle.ynl_slots.specs.Slots.{IsUnused}
use Rattle.ynl_slots.proofs.Lookups.{lookup-push}
use Rattle.ynl_tables.specs.declared.containers.container.Container.{Container}
use Rattle.ynl_tables.specs.declared.containers.container.Role.{Role}
use Rattle.ynl_inventory.specs.Rows.{Rows, NodeRow, PartitionRow}
use Rattle.ynl_inventory.specs.Changes.{next_clock_at, next_container, partition_of_node, ticked, with_changed, with_placed, with_taken}
use Rattle.ynl_inventory.specs.Meaning.{item_of, label_at, node_of, placed_of, state_of}
use Rattle.ynl_inventory.specs.Parts.{containers_of, held_at}
use Rattle.ynl_inventory.specs.Sound.{IsFor, IsPlaceable, IsSound}
use Rattle.ynl_inventory.proofs.AppChange.{containers-stay}
use Rattle.ynl_inventory.proofs.Containers.{labels}
use Rattle.ynl_inventory.proofs.Lookups.{at-same}
use Rattle.ynl_inventory.proofs.Naming.{node_name-changed, placed-same}
use Rattle.ynl_inventory.proofs.Placing.{placed-container, taken-leaves}
use Rattle.ynl_cluster.specs.Cluster.{ClusterView, maxima_in, state_in, stops_in}

module _ (v : Rows) (node app : ℕ) (role : Role) (size : Resource) (can : IsPlaceable v node app role) (number : ℕ) (unused : IsUnused number (containers_of v (partition_of_node v.nodes node))) where
  abbrev pub after : Rows
  after = with_placed number node app role size v

  abbrev pub new : Container
  new = next_container v node app role size

  pub stands : partition_of_node v.nodes node ≡ can.node_row.partition
  stands = ap (λ o. option_map_or (λ (row : NodeRow). row.partition) o 0) can.node_found

  part-there : slice_get v.partitions (partition_of_node v.nodes node) ≡ Some can.partition
  part-there = ap (slice_get v.partitions) stands ∙ can.partition_found

  free-there : IsUnused number can.partition.containers
  free-there = subst (IsUnused number) (ap (λ o. option_map_or (λ (row : PartitionRow). row.containers) o []) part-there) unused

  -- it stands under its number
  pub placed-there : held_at after (partition_of_node v.nodes node) number ≡ Some new
  placed-there =
      ap (option_and_then (λ (row : PartitionRow). lookup (nat_eq number) row.containers))
      (at-same (partition_of_node v.nodes node) (ticked (λ es. es ++ (number, new) ∷ [])) v.partitions ∙ ap (option_map (ticked (λ es. es ++ (number, new) ∷ []))) part-there)
      ∙ lookup-push number number new can.partition.containers free-there
      ∙ ap (λ b. cond b (Some new) (lookup (nat_eq number) can.partition.containers)) self
    where
      self : nat_eq number number ≡ true
      self = grind (arith, nat_tests)

  abbrev changed : Rows
  changed = with_changed (partition_of_node v.nodes node) node (λ es. es ++ (number, new) ∷ []) v

  -- and is called as before
  called : (label : Label) (c : Container) → placed_of after label c ≡ placed_of v label c
  called label c =
      containers-stay changed app (with_taken role) (taken-leaves role) label c
      ∙ placed-same v changed (labels v (partition_of_node v.nodes node) node (λ es. es ++ (number, new) ∷ [])) label c (node_name-changed node (λ row. record row { stamp = next_clock_at v.partitions (partition_of_node v.nodes node) }) (λ row. refl) v.nodes c.node) refl

  -- it is the model's
  pub told : (sound : IsSound v) (c : Config) → IsFor c v → (stops : List StopRow) (maxima : List MaximumRow)
      → placed_of after (label_at after.partitions (partition_of_node v.nodes node)) new ≡ container_of c (state_of v stops maxima) (node_of v.partitions can.node_row) (item_of v can.app_row role size)
  told sound c is stops maxima =
      called (label_at after.partitions (partition_of_node v.nodes node)) new
      ∙ ap (λ l. placed_of v l new) (labels v (partition_of_node v.nodes node) node (λ es. es ++ (number, new) ∷ []) (partition_of_node v.nodes node) ∙ ap (label_at v.partitions) stands)
      ∙ sym (placed-container v sound number node app role size can free-there c is stops maxima)

-- so it is of a cluster in which it was placed: it is there
pub there : (w u : ClusterView) → IsSound w.rows → (node app : ℕ) (role : Role) (size : Resource) → IsPlaceable w.rows node app role
    → (number : ℕ) → IsUnused number (containers_of w.rows (partition_of_node w.rows.nodes node)) → u.rows ≡ with_placed number node app role size w.rows
    → (p : ℕ) → partition_of_node w.rows.nodes node ≡ p → held_at u.rows p number ≡ Some (next_container w.rows node app role size)
there w u sound node app role size can number unused rows p at = (λ i. held_at (rows i) (sym at i) number) ∙ placed-there w.rows node app role size can number unused

-- and is told as the model's
pub told-in : (w u : ClusterView) (sound : IsSound w.rows) → IsFor w.config w.rows → (node app : ℕ) (role : Role) (size : Resource) (can : IsPlaceable w.rows node app role)
    (number : ℕ) → IsUnused number (containers_of w.rows (partition_of_node w.rows.nodes node)) → u.rows ≡ with_placed number node app role size w.rows
    → (p : ℕ) → partition_of_node w.rows.nodes node ≡ p → (result : Placed) → IfSome (held_at u.rows p number) (λ c. result ≡ placed_of u.rows (label_at u.rows.partitions p) c)
    → result ≡ container_of w.config (state_in w) (node_of w.rows.partitions can.node_row) (item_of w.rows can.app_row role size)
told-in w u sound is node app role size can number unused rows p at result h =
    subst (λ o. IfSome o (λ c. result ≡ placed_of u.rows (label_at u.rows.partitions p) c)) (there w u sound node app role size can number unused rows p at) h
    ∙ (λ i. placed_of (rows i) (label_at (rows i).partitions (sym at i)) (next_container w.rows node app role size))
    ∙ told w.rows node app role size can number unused sound w.config is (stops_in w) (maxima_in w)
