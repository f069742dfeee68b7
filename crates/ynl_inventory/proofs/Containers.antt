-- The containers of a partition change: the rows stay sound, and mean what the model's change gives.
use Rattle.std.proofs.Common.{◌≡◌, ◌≢◌, ◌≤◌, ◌+◌, ◌&&◌, ℕ, true, false, cond, nat_lt, List, map, length, slice_get, Some, nat_eq, refl, sym, ap, subst, ◌∙◌, arith}
use Rattle.std.specs.Map.{lookup}
use Rattle.std.specs.Option.{option_map_or}
use Rattle.std.proofs.lemmas.Bool.{and_from}
use Rattle.std.proofs.lemmas.Option.{same_Some}
use Rattle.ynl_resource.specs.Names.{same_name, same_label}
use Rattle.ynl_resource.specs.declared.labels.Label.{Label}
use Rattle.ynl_laws.specs.Numbers.{Differ}
use Rattle.ynl_laws.proofs.Names.{same-name_self, same-label_self}
use Rattle.ynl_model.specs.declared.containers.Placed.{Placed}
use Rattle.ynl_model.specs.declared.queues.StopRow.{StopRow}
use Rattle.ynl_model.specs.declared.queues.MaximumRow.{MaximumRow}
use Rattle.ynl_model.specs.Queues.{Config}
use Rattle.ynl_model.specs.Nodes.{rises, stamped, is_at}
use Rattle.ynl_model.specs.Cluster.{State, Partition, is_partition, in_partition, next_clock}
use Rattle.ynl_model.specs.Changes.{changed_at}
use Rattle.ynl_slots.specs.Slots.{HasDistinctNumbers}
use Rattle.ynl_tables.specs.declared.containers.container.Container.{Container}
use Rattle.ynl_tables.specs.containers.Table.{IsRising}
use Rattle.ynl_inventory.specs.Rows.{Rows, PartitionRow, NodeRow}
use Rattle.ynl_inventory.specs.Meaning.{label_at, placed_of, partition_of, node_of, leaf_numbers, state_of}
use Rattle.ynl_inventory.specs.Changes.{ticked, next_clock as next_of_row, next_clock_at, with_changed}
use Rattle.ynl_inventory.specs.Apps.{HasOneMasterEach}
use Rattle.ynl_inventory.specs.Sound.{IsFor, HasPartition, IsContainer, IsPartition, IsNode, IsSound}
use Rattle.ynl_inventory.proofs.Lookups.{row_after, still-found, was-found, read-after, changed-distinct, map-changed}
use Rattle.ynl_inventory.proofs.Naming.{node_name-changed, placed-same, node-same}
use Rattle.ynl_inventory.proofs.Updates.{update-place, update-number, each-number}
use Rattle.ynl_inventory.proofs.Finding.{own-label, other-label, other-name, next-at}
use Rattle.ynl_inventory.proofs.PartitionChange.{many as moved-many, labels as moved-labels, leaf-stays, each-partition, moved-sound, moved-for}
use Rattle.ynl_inventory.proofs.Kept.{kept-container}

-- a clock that rises stands no lower, and within its limit
pub rises-more : (limit value : ℕ) → value ≤ rises limit value
rises-more limit value = elim (nat_lt value limit) as (λ b. value ≤ cond b (value + 1) value) [ true ↦ omega arith | false ↦ omega arith ]

pub rises-within : (limit value : ℕ) → value ≤ limit → rises limit value ≤ limit
rises-within limit value h = grind (arith, h)

module _ (v : Rows) (p node : ℕ) (change : List (ℕ × Container) → List (ℕ × Container)) where
  abbrev after : Rows
  after = with_changed p node change v

  abbrev stamp : NodeRow → NodeRow
  stamp row = record row { stamp = next_clock_at v.partitions p }

  pub many : length after.partitions ≡ length v.partitions
  many = moved-many v p (ticked change) (λ row. refl) after.nodes

  -- labels stay
  pub labels : (q : ℕ) → label_at after.partitions q ≡ label_at v.partitions q
  labels q = moved-labels v p (ticked change) (λ row. refl) after.nodes q

  -- nodes stay, in their partitions
  nodes : (n : ℕ) (row : NodeRow) → lookup (nat_eq n) v.nodes ≡ Some row → (other : NodeRow) × (lookup (nat_eq n) after.nodes ≡ Some other) × (other.partition ≡ row.partition)
  nodes n row found = (row_after n node stamp row, still-found n node stamp v.nodes row found, read-after (λ row. row.partition) n node stamp row refl)

  -- and none is new
  node-was : IsSound v → (n : ℕ) (other : NodeRow) → lookup (nat_eq n) after.nodes ≡ Some other → IsNode v other
  node-was sound n other found =
      let old = was-found n node stamp v.nodes other found in
      let same : other.partition ≡ old.0.partition = ap (λ (row : NodeRow). row.partition) old.2 ∙ read-after (λ row. row.partition) n node stamp old.0 refl in
      subst (HasPartition v) (sym same) (sound.nodes n old.0 old.1)

  -- all containers are called as before
  containers : (label : Label) (c : Container) → placed_of after label c ≡ placed_of v label c
  containers label c = placed-same v after labels label c (node_name-changed node stamp (λ row. refl) v.nodes c.node) refl

  partition : (row : PartitionRow) → partition_of after row ≡ partition_of v row
  partition row = λ i. record { label = row.label; clock = row.clock; containers = map (λ e. containers row.label e.1 i) row.containers }

  module _ (sound : IsSound v) (row : PartitionRow) (there : slice_get v.partitions p ≡ Some row) where
    -- what holds of the containers that are there then
    pub record AreContainers : Type 0 where
      pub numbers : HasDistinctNumbers (change row.containers)
      pub rising : IsRising (change row.containers)
      pub masters : HasOneMasterEach (change row.containers)
      pub each : (n : ℕ) (c : Container) → lookup (nat_eq n) (change row.containers) ≡ Some c → IsContainer v p (next_of_row row) c

    kept : (q shown later : ℕ) (c : Container) → IsContainer v q shown c → shown ≤ later → IsContainer after q later c
    kept q shown later c is more = kept-container v after many q shown later c is more (λ app found. (app, found, refl)) (nodes c.node)

    own-partition : AreContainers → IsPartition after p (ticked change row)
    own-partition are = record {
      numbers = are.numbers;
      rising = are.rising;
      clock = rises-within row.limit row.clock (sound.partitions p row there).clock;
      masters = are.masters;
      each = λ n c found. kept p (next_of_row row) (next_of_row row) c (are.each n c found) (omega arith);
    }

    other-partition : (q : ℕ) (other : PartitionRow) → IsPartition v q other → IsPartition after q other
    other-partition q other is = record {
      numbers = is.numbers;
      rising = is.rising;
      clock = is.clock;
      masters = is.masters;
      each = λ n c found. kept q other.clock other.clock c (is.each n c found) (omega arith);
    }

    -- the rows stay sound
    pub changed-sound : AreContainers → IsSound after
    changed-sound are =
        moved-sound v p (ticked change) (λ row. refl) after.nodes sound
        (each-partition v p (ticked change) (λ row. refl) after.nodes row there (own-partition are) (λ q other at apart. other-partition q other (sound.partitions q other at)))
        (changed-distinct node stamp v.nodes sound.node_numbers)
        (subst Differ (sym (map-changed (λ row. row.name) node stamp (λ row. refl) v.nodes)) sound.node_names)
        (node-was sound)

    -- and are still those of the configuration
    pub changed-for : (c : Config) → IsFor c v → IsFor c after
    changed-for c is = moved-for v p (ticked change) (λ row. refl) after.nodes c (λ row. refl) (λ row. refl) is

    module _ (c : Config) (is : IsFor c v) where
      module _ (stops : List StopRow) (maxima : List MaximumRow) where
        abbrev s : State
        s = state_of v stops maxima

        abbrev t : ℕ
        t = next_clock c.labels s row.label

        same-stamp : next_clock_at v.partitions p ≡ t
        same-stamp = ap (λ o. option_map_or next_of_row o 0) there ∙ sym (next-at v sound p row there stops maxima c is)

        module _ (nrow : NodeRow) (found : lookup (nat_eq node) v.nodes ≡ Some nrow) (stands : nrow.partition ≡ p) where
          others : (n : ℕ) (other : NodeRow) → lookup (nat_eq n) v.nodes ≡ Some other → n ≢ node
              → (is_at nrow.name row.label (node_of v.partitions other) ≡ false) × (node_of after.partitions other ≡ node_of v.partitions other)
          others n other at apart =
              (ap (λ b. b && same_label (label_at v.partitions other.partition) row.label) (other-name v sound node nrow found n other at apart), node-same v after labels other)

          own : (n : ℕ) (other : NodeRow) → lookup (nat_eq n) v.nodes ≡ Some other → n ≡ node
              → (is_at nrow.name row.label (node_of v.partitions other) ≡ true) × (node_of after.partitions (stamp other) ≡ record (node_of v.partitions other) { stamp = t })
          own n other at same =
              let is : nrow ≡ other = same_Some nrow other (sym found ∙ ap (λ m. lookup (nat_eq m) v.nodes) (sym same) ∙ at) in
              let label : label_at v.partitions other.partition ≡ row.label = ap (λ (r : NodeRow). label_at v.partitions r.partition) (sym is) ∙ ap (label_at v.partitions) stands ∙ own-label v sound p row there in (
                and_from (same_name other.name nrow.name) (same_label (label_at v.partitions other.partition) row.label)
                    (ap (λ (r : NodeRow). same_name r.name nrow.name) (sym is) ∙ same-name_self nrow.name) (ap (λ l. same_label l row.label) label ∙ same-label_self row.label),
                λ i. record { name = other.name; label = labels other.partition i; size = other.size; stamp = same-stamp i },
              )

          nodes-mean : map (λ e. node_of after.partitions e.1) after.nodes ≡ stamped nrow.name row.label t (map (λ e. node_of v.partitions e.1) v.nodes)
          unfolding stamped
          nodes-mean =
              update-number (node_of v.partitions) (is_at nrow.name row.label) (node_of after.partitions) (λ node. record node { stamp = t }) node stamp v.nodes
              (each-number (λ n other. n ≢ node → (is_at nrow.name row.label (node_of v.partitions other) ≡ false) × (node_of after.partitions other ≡ node_of v.partitions other)) v.nodes sound.node_numbers others)
              (each-number (λ n other. n ≡ node → (is_at nrow.name row.label (node_of v.partitions other) ≡ true) × (node_of after.partitions (stamp other) ≡ record (node_of v.partitions other) { stamp = t })) v.nodes sound.node_numbers own)

          module _ (change' : List Placed → List Placed) (means : map (λ e. placed_of v row.label e.1) (change row.containers) ≡ change' (map (λ e. placed_of v row.label e.1) row.containers)) where
            abbrev changed : Partition → Partition
            changed = λ r. record r { clock = t; containers = change' r.containers }

            partitions-mean : map (partition_of after) after.partitions ≡ in_partition row.label changed (map (partition_of v) v.partitions)
            partitions-mean =
                update-place (partition_of v) (is_partition row.label) (partition_of after) changed p (ticked change) v.partitions
                (λ q other at apart. (other-label v sound p row there q other at apart, partition other))
                (λ other at. own-means other (same_Some row other (sym there ∙ at)))
              where
                own-means : (other : PartitionRow) → row ≡ other → (same_label other.label row.label ≡ true) × (partition_of after (ticked change other) ≡ changed (partition_of v other))
                own-means other same =
                    subst (λ (r : PartitionRow). (same_label r.label row.label ≡ true) × (partition_of after (ticked change r) ≡ changed (partition_of v r))) same (
                      same-label_self row.label,
                      partition (ticked change row)
                          ∙ (λ i. record { label = row.label; clock = sym (next-at v sound p row there stops maxima c is) i; containers = means i }),
                    )

            -- and they mean what the model's change gives
            pub changed-means : state_of after stops maxima ≡ changed_at c nrow.name row.label change' s
            unfolding changed_at
            changed-means = λ i. record {
              nodes = nodes-mean i;
              partitions = partitions-mean i;
              leaves = map (λ q. leaf-stays v p (ticked change) (λ row. refl) after.nodes q i) (leaf_numbers v.paths);
              stops = stops;
              maxima = maxima;
            }
