-- What is free of a node is what the model says.
use Rattle.std.proofs.Common.{◌≡◌, ℕ, Bool, true, false, cond, nat_eq, List, [], ◌∷◌, map, filter, slice_get, Some, refl, sym, ap, ◌∙◌}
use Rattle.std.specs.List.{AllByRecursion}
use Rattle.std.specs.Map.{lookup}
use Rattle.std.specs.Option.{option_map_or}
use Rattle.ynl_resource.specs.Amounts.{less, nothing, plus, total_of}
use Rattle.ynl_resource.specs.Names.{same_name}
use Rattle.ynl_model.specs.declared.containers.Placed.{Placed}
use Rattle.ynl_model.specs.declared.queues.StopRow.{StopRow}
use Rattle.ynl_model.specs.declared.queues.MaximumRow.{MaximumRow}
use Rattle.ynl_model.specs.Cluster.{containers_on, free, sizes}
use Rattle.ynl_tables.specs.declared.containers.container.Container.{Container}
use Rattle.ynl_inventory.specs.Rows.{Rows, NodeRow, PartitionRow}
use Rattle.ynl_inventory.specs.Meaning.{node_of, placed_of, state_of}
use Rattle.ynl_inventory.specs.Parts.{free_of, used_of}
use Rattle.ynl_inventory.specs.Sound.{IsSound}
use Rattle.ynl_inventory.proofs.Finding.{containers-at, name-tells, own-label}
use Rattle.ynl_inventory.proofs.Lookups.{place-there}
use Rattle.ynl_inventory.proofs.Updates.{each-number}

-- sizes of those that pass: of what is made of each, as of each
sizes-made : (make : Container → Placed) → ((k : Container) → (make k).size ≡ k.size) → (p : Placed → Bool) (q : ℕ × Container → Bool) (es : List (ℕ × Container)) → AllByRecursion (λ e. p (make e.1) ≡ q e) es
    → sizes (filter p (map (λ e. make e.1) es)) ≡ total_of (λ e. e.1.size) (filter q es)
sizes-made make size p q [] same = refl
sizes-made make size p q (e ∷ es) same =
    ap (λ b. sizes (cond b (make e.1 ∷ filter p (map (λ e. make e.1) es)) (filter p (map (λ e. make e.1) es)))) same.0 ∙ go (q e) (sizes-made make size p q es same.1)
  where
    go : (b : Bool) → sizes (filter p (map (λ e. make e.1) es)) ≡ total_of (λ e. e.1.size) (filter q es)
        → sizes (cond b (make e.1 ∷ filter p (map (λ e. make e.1) es)) (filter p (map (λ e. make e.1) es))) ≡ total_of (λ e. e.1.size) (cond b (e ∷ filter q es) (filter q es))
    go true rest = λ i. plus (size e.1 i) (rest i)
    go false rest = rest

pub free-means : (v : Rows) → IsSound v → (n : ℕ) (row : NodeRow) → lookup (nat_eq n) v.nodes ≡ Some row → (stops : List StopRow) (maxima : List MaximumRow)
    → free (state_of v stops maxima) (node_of v.partitions row) ≡ free_of v n
unfolding free
free-means v sound n row found stops maxima =
    (λ i. less row.size (sizes (filter test (held i))))
    ∙ ap (less row.size) (sizes-made (placed_of v home.0.label) (λ k. refl) test (λ e. nat_eq e.1.node n) home.0.containers
    (each-number (λ m k. test (placed_of v home.0.label k) ≡ nat_eq k.node n) home.0.containers (sound.partitions row.partition home.0 home.1).numbers one))
    ∙ sym
    (ap (λ o. option_map_or (λ (r : NodeRow). less r.size (used_of (option_map_or (λ (p : PartitionRow). p.containers) (slice_get v.partitions r.partition) []) n)) o nothing) found
    ∙ ap (λ o. less row.size (used_of (option_map_or (λ (p : PartitionRow). p.containers) o []) n)) home.1)
  where
    home : (part : PartitionRow) × (slice_get v.partitions row.partition ≡ Some part)
    home = place-there v.partitions row.partition (sound.nodes n row found)

    test : Placed → Bool
    test k = same_name k.node row.name

    held : containers_on (state_of v stops maxima) (node_of v.partitions row).label ≡ map (λ e. placed_of v home.0.label e.1) home.0.containers
    held = ap (containers_on (state_of v stops maxima)) (own-label v sound row.partition home.0 home.1) ∙ containers-at v sound row.partition home.0 home.1 stops maxima

    one : (m : ℕ) (k : Container) → lookup (nat_eq m) home.0.containers ≡ Some k → test (placed_of v home.0.label k) ≡ nat_eq k.node n
    one m k at =
        let is = (sound.partitions row.partition home.0 home.1).each m k at in
        ap (λ o. same_name (option_map_or (λ (r : NodeRow). r.name) o []) row.name) is.node_found ∙ name-tells v sound n row found k.node is.node is.node_found
