-- A node joins a partition: the rows stay sound, and mean what the model's joining gives.
use Rattle.std.proofs.Common.{◌≡◌, ◌≤◌, ℕ, Bool, true, false, cond, List, [], ◌∷◌, ◌++◌, map, slice_get, Some, nat_eq, refl, sym, ap, subst, ◌∙◌, arith}
use Rattle.std.specs.Map.{lookup}
use Rattle.std.specs.Option.{option_map_or}
use Rattle.std.proofs.lemmas.List.{map-append}
use Rattle.std.proofs.lemmas.Option.{same_Some, slice_get_within}
use Rattle.ynl_resource.specs.Names.{same_name, same_label}
use Rattle.ynl_resource.specs.declared.amounts.Resource.{Resource}
use Rattle.ynl_resource.specs.declared.names.Name.{Name}
use Rattle.ynl_laws.specs.Numbers.{Differ}
use Rattle.ynl_laws.proofs.Lists.{Pairs-last, Each-map}
use Rattle.ynl_laws.proofs.Names.{same-label_self}
use Rattle.ynl_model.specs.declared.queues.StopRow.{StopRow}
use Rattle.ynl_model.specs.declared.queues.MaximumRow.{MaximumRow}
use Rattle.ynl_model.specs.Nodes.{joined}
use Rattle.ynl_model.specs.Queues.{Config}
use Rattle.ynl_model.specs.Cluster.{State, is_partition, in_partition, next_clock}
use Rattle.ynl_model.specs.Changes.{node_joins}
use Rattle.ynl_slots.proofs.Entries.{distinct_push}
use Rattle.ynl_slots.proofs.Lookups.{lookup-push}
use Rattle.ynl_tables.specs.declared.containers.container.Container.{Container}
use Rattle.ynl_inventory.specs.Rows.{Rows, PartitionRow, NodeRow}
use Rattle.ynl_inventory.specs.Meaning.{label_at, placed_of, partition_of, node_of, leaf_numbers, state_of}
use Rattle.ynl_inventory.specs.Changes.{next_clock as next_of_row, next_clock_at, ticked, with_joined}
use Rattle.ynl_inventory.specs.Sound.{IsFor, IsContainer, IsPartition, IsJoinable, IsNode, IsSound}
use Rattle.ynl_inventory.proofs.Lookups.{found-live, pushed-live}
use Rattle.ynl_inventory.proofs.Naming.{node_name-push, placed-same, node-same, partition-same}
use Rattle.ynl_inventory.proofs.Updates.{update-place, each-number}
use Rattle.ynl_inventory.proofs.Finding.{own-label, other-label, next-at}
use Rattle.ynl_inventory.proofs.Kept.{kept-container}
use Rattle.ynl_inventory.proofs.Containers.{rises-more, rises-within}
use Rattle.ynl_inventory.proofs.PartitionChange.{many, labels, leaf-stays, each-partition, moved-sound, moved-for}

-- no container comes or goes
abbrev same : List (ℕ × Container) → List (ℕ × Container)
same = λ containers. containers

module _ (v : Rows) (sound : IsSound v) (number : ℕ) (name : Name) (p : ℕ) (size : Resource) (can : IsJoinable v number name p) where
  abbrev after : Rows
  after = with_joined number name p size v

  abbrev new : NodeRow
  new = record { name = name; partition = p; size = size; stamp = next_clock_at v.partitions p }

  -- a container that is there stays there
  kept : (q shown later : ℕ) (c : Container) → IsContainer v q shown c → shown ≤ later → IsContainer after q later c
  kept q shown later c is more =
      kept-container v after (many v p (ticked same) (λ row. refl) after.nodes) q shown later c is more (λ app found. (app, found, refl))
      (λ row found. (row, pushed-live c.node number new v.nodes (found-live c.node row v.nodes found) ∙ found, refl))

  partition-kept : (q shown : ℕ) (other : PartitionRow) → IsPartition v q other → other.clock ≤ shown → shown ≤ other.limit → IsPartition after q (record other { clock = shown })
  partition-kept q shown other is more within = record {
    numbers = is.numbers;
    rising = is.rising;
    clock = within;
    masters = is.masters;
    each = λ n c found. kept q other.clock shown c (is.each n c found) more;
  }

  is-node : (n : ℕ) (row : NodeRow) → lookup (nat_eq n) after.nodes ≡ Some row → IsNode v row
  is-node n row found = go (nat_eq n number) (sym (lookup-push n number new v.nodes can.unused) ∙ found)
    where
      go : (b : Bool) → cond b (Some new) (lookup (nat_eq n) v.nodes) ≡ Some row → IsNode v row
      go true e = subst (IsNode v) (same_Some new row e) (slice_get_within v.partitions p can.partition can.found)
      go false e = sound.nodes n row e

  -- the rows stay sound
  pub joined-sound : IsSound after
  joined-sound =
      moved-sound v p (ticked same) (λ row. refl) after.nodes sound
      (each-partition v p (ticked same) (λ row. refl) after.nodes can.partition can.found
      (let old = sound.partitions p can.partition can.found in
      partition-kept p (next_of_row can.partition) can.partition old (rises-more can.partition.limit can.partition.clock) (rises-within can.partition.limit can.partition.clock old.clock))
      (λ q other at apart. partition-kept q other.clock other (sound.partitions q other at) (omega arith) (sound.partitions q other at).clock))
      (distinct_push number new v.nodes can.unused sound.node_numbers)
      (subst Differ (sym (map-append (λ (e : ℕ × NodeRow). e.1.name) v.nodes ((number, new) ∷ [])))
      (Pairs-last (λ a b. same_name a b ≡ false) (map (λ e. e.1.name) v.nodes) name sound.node_names
      (Each-map (λ e. same_name e.1.name name ≡ false) (λ a. same_name a name ≡ false) (λ (e : ℕ × NodeRow). e.1.name) (λ e h. h) v.nodes can.unnamed)))
      is-node

  -- and are still those of the configuration
  pub joined-for : (c : Config) → IsFor c v → IsFor c after
  joined-for c is = moved-for v p (ticked same) (λ row. refl) after.nodes c (λ row. refl) (λ row. refl) is

  labels-stay : (q : ℕ) → label_at after.partitions q ≡ label_at v.partitions q
  labels-stay = labels v p (ticked same) (λ row. refl) after.nodes

  -- containers are called as before
  partition-stays : (q : ℕ) (row : PartitionRow) → slice_get v.partitions q ≡ Some row → partition_of after row ≡ partition_of v row
  partition-stays q row at =
      partition-same v after row
      (each-number (λ n c. placed_of after row.label c ≡ placed_of v row.label c) row.containers (sound.partitions q row at).numbers
      (λ n c found.
      let is = (sound.partitions q row at).each n c found in
      placed-same v after labels-stay row.label c (node_name-push number new v.nodes c.node (found-live c.node is.node v.nodes is.node_found)) refl))

  module _ (c : Config) (is : IsFor c v) (stops : List StopRow) (maxima : List MaximumRow) where
    abbrev s : State
    s = state_of v stops maxima

    abbrev t : ℕ
    t = next_clock c.labels s can.partition.label

    stamped : next_clock_at v.partitions p ≡ t
    stamped = ap (λ o. option_map_or next_of_row o 0) can.found ∙ sym (next-at v sound p can.partition can.found stops maxima c is)

    nodes-mean : map (λ e. node_of after.partitions e.1) after.nodes
        ≡ joined (record { name = name; label = can.partition.label; size = size; stamp = t }) (map (λ e. node_of v.partitions e.1) v.nodes)
    unfolding joined
    nodes-mean =
        map-append (λ (e : ℕ × NodeRow). node_of after.partitions e.1) v.nodes ((number, new) ∷ [])
        ∙ (λ i.
        map (λ e. node-same v after labels-stay e.1 i) v.nodes
        ++ record { name = name; label = (labels-stay p ∙ own-label v sound p can.partition can.found) i; size = size; stamp = stamped i } ∷ [])

    partitions-mean : map (partition_of after) after.partitions ≡ in_partition can.partition.label (λ row. record row { clock = t }) (map (partition_of v) v.partitions)
    partitions-mean =
        update-place (partition_of v) (is_partition can.partition.label) (partition_of after) (λ row. record row { clock = t }) p (ticked same) v.partitions
        (λ q other at apart. (other-label v sound p can.partition can.found q other at apart, partition-stays q other at))
        (λ other at. own-means other (same_Some can.partition other (sym can.found ∙ at)))
      where
        own-means : (other : PartitionRow) → can.partition ≡ other
            → (same_label other.label can.partition.label ≡ true) × (partition_of after (ticked same other) ≡ record (partition_of v other) { clock = t })
        own-means other is-own =
            subst (λ (r : PartitionRow). (same_label r.label can.partition.label ≡ true) × (partition_of after (ticked same r) ≡ record (partition_of v r) { clock = t })) is-own (
              same-label_self can.partition.label,
              λ i. record (partition-stays p can.partition can.found i) { clock = sym (next-at v sound p can.partition can.found stops maxima c is) i },
            )

    -- and they mean what the model's joining gives
    pub joined-means : state_of after stops maxima ≡ node_joins c name can.partition.label size s
    unfolding node_joins
    joined-means = λ i. record {
      nodes = nodes-mean i;
      partitions = partitions-mean i;
      leaves = map (λ q. leaf-stays v p (ticked same) (λ row. refl) after.nodes q i) (leaf_numbers v.paths);
      stops = stops;
      maxima = maxima;
    }
