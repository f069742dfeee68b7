-- A node leaves with its containers: the rows stay sound, and mean what the model's leaving gives.
use Rattle.std.proofs.Common.{◌≡◌, ◌≢◌, ◌&&◌, ℕ, Bool, true, false, cond, not, List, [], map, filter, length, slice_get, Some, None, nat_eq, refl, sym, ap, subst, ◌∙◌, arith}
use Rattle.std.specs.Map.{lookup}
use Rattle.std.specs.Option.{option_map_or}
use Rattle.std.proofs.lemmas.Bool.{and_from}
use Rattle.std.proofs.lemmas.Bool.Decides.{nat_tests}
use Rattle.std.proofs.lemmas.Option.{none-some, same_Some}
use Rattle.ynl_resource.specs.Names.{same_name, same_label}
use Rattle.ynl_resource.specs.Tables.{without as dropped}
use Rattle.ynl_resource.specs.declared.labels.Label.{Label}
use Rattle.ynl_laws.proofs.Names.{same-name_self, same-label_self}
use Rattle.ynl_model.specs.declared.queues.StopRow.{StopRow}
use Rattle.ynl_model.specs.declared.queues.MaximumRow.{MaximumRow}
use Rattle.ynl_model.specs.declared.nodes.Node.{Node}
use Rattle.ynl_model.specs.Nodes.{is_at, left}
use Rattle.ynl_model.specs.Queues.{Config}
use Rattle.ynl_model.specs.Cluster.{Partition, is_partition, in_partition}
use Rattle.ynl_model.specs.Changes.{node_leaves}
use Rattle.ynl_slots.proofs.Entries.{lookup-without-other, distinct_without}
use Rattle.ynl_slots.proofs.Lookups.{lookup-without}
use Rattle.ynl_tables.specs.declared.containers.container.Container.{Container}
use Rattle.ynl_inventory.specs.Rows.{Rows, PartitionRow, NodeRow}
use Rattle.ynl_inventory.specs.Meaning.{label_at, node_name, placed_of, partition_of, node_of, leaf_numbers, state_of}
use Rattle.ynl_inventory.specs.Changes.{partition_of_node, with_left}
use Rattle.ynl_inventory.specs.Sound.{IsFor, IsContainer, IsPartition, IsNode, IsSound}
use Rattle.ynl_inventory.proofs.Lookups.{place-there}
use Rattle.ynl_inventory.proofs.Naming.{node_name-without, placed-same, node-same, partition-same}
use Rattle.ynl_inventory.proofs.Updates.{update-place, without-number, each-number}
use Rattle.ynl_inventory.proofs.Filters.{filter-distinct, filter-lookup, filter-differ, filter-masters, filter-rising, filter-means}
use Rattle.ynl_inventory.proofs.Finding.{own-label, other-label, other-name}
use Rattle.ynl_inventory.proofs.Kept.{kept-container}
use Rattle.ynl_inventory.proofs.PartitionChange.{many, labels, leaf-stays, each-partition, moved-sound, moved-for}

module _ (v : Rows) (sound : IsSound v) (node : ℕ) (nrow : NodeRow) (found : lookup (nat_eq node) v.nodes ≡ Some nrow) where
  abbrev after : Rows
  after = with_left node v

  abbrev p : ℕ
  p = partition_of_node v.nodes node

  -- the containers of others are left
  abbrev emptied : PartitionRow → PartitionRow
  emptied row = record row { containers = filter (λ e. not (nat_eq e.1.node node)) row.containers }

  stands : nrow.partition ≡ p
  stands = sym (ap (λ o. option_map_or (λ (row : NodeRow). row.partition) o 0) found)

  abbrev own : (row : PartitionRow) × (slice_get v.partitions nrow.partition ≡ Some row)
  own = place-there v.partitions nrow.partition (sound.nodes node nrow found)

  there : slice_get v.partitions p ≡ Some own.0
  there = ap (slice_get v.partitions) (sym stands) ∙ own.1

  -- no partition comes or goes, and labels stay
  pub left-many : length after.partitions ≡ length v.partitions
  left-many = many v p emptied (λ row. refl) after.nodes

  pub left-labels : (q : ℕ) → label_at after.partitions q ≡ label_at v.partitions q
  left-labels = labels v p emptied (λ row. refl) after.nodes

  -- a container on another node stays
  kept : (q shown : ℕ) (c : Container) → c.node ≢ node → IsContainer v q shown c → IsContainer after q shown c
  kept q shown c apart is =
      kept-container v after left-many q shown shown c is (omega arith) (λ app at. (app, at, refl))
      (λ row at. (row, lookup-without-other c.node node v.nodes apart ∙ at, refl))

  own-kept : IsPartition v p own.0 → IsPartition after p (emptied own.0)
  own-kept is = record {
    numbers = filter-distinct (λ e. not (nat_eq e.1.node node)) own.0.containers is.numbers;
    rising = filter-rising (λ e. not (nat_eq e.1.node node)) own.0.containers is.rising;
    clock = is.clock;
    masters = filter-masters (λ e. not (nat_eq e.1.node node)) own.0.containers is.numbers is.masters;
    each = λ n c at.
        let was = filter-lookup (λ e. not (nat_eq e.1.node node)) n c own.0.containers is.numbers at in
        kept p own.0.clock c (grind (arith, nat_tests, was.1)) (is.each n c was.0);
  }

  -- no container of another partition is on the node
  elsewhere : (q : ℕ) → q ≢ p → (shown : ℕ) (c : Container) → IsContainer v q shown c → c.node ≢ node
  elsewhere q apart shown c is same =
      let row : is.node ≡ nrow = same_Some is.node nrow (sym is.node_found ∙ ap (λ m. lookup (nat_eq m) v.nodes) same ∙ found) in
      apart (sym is.node_there ∙ ap (λ (r : NodeRow). r.partition) row ∙ stands)

  other-kept : (q : ℕ) (row : PartitionRow) → q ≢ p → IsPartition v q row → IsPartition after q row
  other-kept q row apart is = record {
    numbers = is.numbers;
    rising = is.rising;
    clock = is.clock;
    masters = is.masters;
    each = λ n c at. kept q row.clock c (elsewhere q apart row.clock c (is.each n c at)) (is.each n c at);
  }

  was-there : (n : ℕ) (row : NodeRow) → lookup (nat_eq n) after.nodes ≡ Some row → IsNode v row
  was-there n row at = go (nat_eq n node) (sym (lookup-without n node v.nodes) ∙ at)
    where
      go : (b : Bool) → cond b None (lookup (nat_eq n) v.nodes) ≡ Some row → IsNode v row
      go true e = absurd (none-some row e)
      go false e = sound.nodes n row e

  -- the rows stay sound
  pub left-sound : IsSound after
  left-sound =
      moved-sound v p emptied (λ row. refl) after.nodes sound
      (each-partition v p emptied (λ row. refl) after.nodes own.0 there (own-kept (sound.partitions p own.0 there)) (λ q row at apart. other-kept q row apart (sound.partitions q row at)))
      (distinct_without node v.nodes sound.node_numbers)
      (filter-differ (λ e. not (nat_eq node e.0)) (λ row. row.name) v.nodes sound.node_names)
      was-there

  -- and are still those of the configuration
  pub left-for : (c : Config) → IsFor c v → IsFor c after
  left-for c is = moved-for v p emptied (λ row. refl) after.nodes c (λ row. refl) (λ row. refl) is

  -- ---- what they mean

  stays : (label : Label) (c : Container) → c.node ≢ node → placed_of after label c ≡ placed_of v label c
  stays label c apart = placed-same v after left-labels label c (node_name-without node v.nodes c.node apart) refl

  other-means : (q : ℕ) (row : PartitionRow) → slice_get v.partitions q ≡ Some row → q ≢ p → partition_of after row ≡ partition_of v row
  other-means q row at apart =
      partition-same v after row
      (each-number (λ n c. placed_of after row.label c ≡ placed_of v row.label c) row.containers (sound.partitions q row at).numbers
      (λ n c it. stays row.label c (elsewhere q apart row.clock c ((sound.partitions q row at).each n c it))))

  -- a container is on the node where its node has the name
  named : (c : Container) → IsContainer v p own.0.clock c → same_name (node_name v.nodes c.node) nrow.name ≡ nat_eq c.node node
  named c is =
      ap (λ o. same_name (option_map_or (λ (r : NodeRow). r.name) o []) nrow.name) is.node_found ∙ go (nat_eq c.node node) refl
    where
      go : (b : Bool) → nat_eq c.node node ≡ b → same_name is.node.name nrow.name ≡ b
      go true q =
          let same : c.node ≡ node = grind (arith, nat_tests, q) in
          let row : is.node ≡ nrow = same_Some is.node nrow (sym is.node_found ∙ ap (λ m. lookup (nat_eq m) v.nodes) same ∙ found) in
          ap (λ (r : NodeRow). same_name r.name nrow.name) row ∙ same-name_self nrow.name
      go false q = other-name v sound node nrow found c.node is.node is.node_found (grind (arith, nat_tests, q))

  own-means : map (λ e. placed_of after own.0.label e.1) (emptied own.0).containers ≡ dropped (λ c. same_name c.node nrow.name) (map (λ e. placed_of v own.0.label e.1) own.0.containers)
  own-means =
      filter-means (λ e. placed_of v own.0.label e.1) (λ e. placed_of after own.0.label e.1) (λ e. nat_eq e.1.node node) (λ c. same_name c.node nrow.name) own.0.containers
      (each-number
      (λ n c. (same_name (node_name v.nodes c.node) nrow.name ≡ nat_eq c.node node) × (nat_eq c.node node ≡ false → placed_of after own.0.label c ≡ placed_of v own.0.label c))
      own.0.containers (sound.partitions p own.0 there).numbers
      (λ n c it. (named c ((sound.partitions p own.0 there).each n c it), λ fails. stays own.0.label c (grind (arith, nat_tests, fails)))))

  abbrev on : Node
  on = node_of v.partitions nrow

  label : on.label ≡ own.0.label
  label = own-label v sound nrow.partition own.0 own.1

  nodes-mean : map (λ e. node_of after.partitions e.1) after.nodes ≡ left on (map (λ e. node_of v.partitions e.1) v.nodes)
  unfolding left
  nodes-mean =
      without-number (node_of v.partitions) (is_at on.name on.label) (node_of after.partitions) node v.nodes
      (each-number (λ n row. n ≢ node → (is_at on.name on.label (node_of v.partitions row) ≡ false) × (node_of after.partitions row ≡ node_of v.partitions row)) v.nodes sound.node_numbers
      (λ n row at apart. (ap (λ b. b && same_label (label_at v.partitions row.partition) on.label) (other-name v sound node nrow found n row at apart), node-same v after left-labels row)))
      (each-number (λ n row. n ≡ node → is_at on.name on.label (node_of v.partitions row) ≡ true) v.nodes sound.node_numbers
      (λ n row at same.
      let is : nrow ≡ row = same_Some nrow row (sym found ∙ ap (λ m. lookup (nat_eq m) v.nodes) (sym same) ∙ at) in
      subst (λ (r : NodeRow). is_at on.name on.label (node_of v.partitions r) ≡ true) is
      (and_from (same_name on.name on.name) (same_label on.label on.label) (same-name_self on.name) (same-label_self on.label))))

  abbrev without_own : Partition → Partition
  without_own = λ row. record row { containers = dropped (λ c. same_name c.node nrow.name) row.containers }

  partitions-mean : map (partition_of after) after.partitions ≡ in_partition on.label without_own (map (partition_of v) v.partitions)
  partitions-mean =
      update-place (partition_of v) (is_partition own.0.label) (partition_of after) without_own p emptied v.partitions
      (λ q row at apart. (other-label v sound p own.0 there q row at apart, other-means q row at apart))
      (λ row at. at-own row (same_Some own.0 row (sym there ∙ at)))
      ∙ ap (λ l. in_partition l without_own (map (partition_of v) v.partitions)) (sym label)
    where
      at-own : (row : PartitionRow) → own.0 ≡ row → (same_label row.label own.0.label ≡ true) × (partition_of after (emptied row) ≡ without_own (partition_of v row))
      at-own row is =
          subst (λ (r : PartitionRow). (same_label r.label own.0.label ≡ true) × (partition_of after (emptied r) ≡ without_own (partition_of v r))) is
          (same-label_self own.0.label, λ i. record { label = own.0.label; clock = own.0.clock; containers = own-means i })

  -- and they mean what the model's leaving gives
  pub left-means : (stops : List StopRow) (maxima : List MaximumRow) → state_of after stops maxima ≡ node_leaves on (state_of v stops maxima)
  unfolding node_leaves
  left-means stops maxima = λ i. record {
    nodes = nodes-mean i;
    partitions = partitions-mean i;
    leaves = map (λ q. leaf-stays v p emptied (λ row. refl) after.nodes q i) (leaf_numbers v.paths);
    stops = stops;
    maxima = maxima;
  }
