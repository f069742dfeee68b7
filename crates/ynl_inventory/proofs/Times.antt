-- The clock of a partition, or the stamp of a node, is set: the rows stay sound, and mean the same but for it.
use Rattle.std.proofs.Common.{◌≡◌, ◌≢◌, ◌≤◌, ◌&&◌, ℕ, true, false, List, map, slice_get, Some, nat_eq, refl, sym, ap, subst, ◌∙◌, arith}
use Rattle.std.specs.List.{AllByRecursion}
use Rattle.std.specs.Map.{lookup}
use Rattle.std.proofs.lemmas.Bool.{and_from}
use Rattle.std.proofs.lemmas.Option.{same_Some}
use Rattle.ynl_resource.specs.Names.{same_name, same_label}
use Rattle.ynl_resource.specs.declared.labels.Label.{Label}
use Rattle.ynl_laws.specs.Numbers.{Differ}
use Rattle.ynl_laws.proofs.Names.{same-name_self, same-label_self}
use Rattle.ynl_model.specs.declared.queues.StopRow.{StopRow}
use Rattle.ynl_model.specs.declared.queues.MaximumRow.{MaximumRow}
use Rattle.ynl_model.specs.Queues.{Config}
use Rattle.ynl_model.specs.Nodes.{stamped, is_at}
use Rattle.ynl_model.specs.Cluster.{is_partition, in_partition}
use Rattle.ynl_tables.specs.declared.containers.container.Container.{Container}
use Rattle.ynl_inventory.specs.Rows.{Rows, PartitionRow, NodeRow}
use Rattle.ynl_inventory.specs.Meaning.{partition_of, node_of, leaf_of, leaf_numbers, state_of}
use Rattle.ynl_inventory.specs.Changes.{with_clock, with_stamp}
use Rattle.ynl_inventory.specs.Sound.{CanShow, IsFor, HasPartition, IsContainer, IsPartition, IsSound}
use Rattle.ynl_inventory.proofs.Lookups.{row_after, still-found, was-found, read-after, changed-distinct, map-changed}
use Rattle.ynl_inventory.proofs.Naming.{node_name-changed, placed-same, node-same}
use Rattle.ynl_inventory.proofs.Updates.{at-number, update-place, update-number, each-number}
use Rattle.ynl_inventory.proofs.Finding.{other-label, other-name}
use Rattle.ynl_inventory.proofs.PartitionChange.{many as moved-many, labels as moved-labels, leaf-stays, each-partition, moved-sound, moved-for}
use Rattle.ynl_inventory.proofs.Kept.{kept-container}
use Rattle.ynl_tables.proofs.containers.Removing.{at_live}

-- ---- the clock of a partition

module _ (v : Rows) (p shown : ℕ) where
  abbrev show : PartitionRow → PartitionRow
  show row = record row { clock = shown }

  abbrev at_clock : Rows
  at_clock = with_clock p shown v

  -- all else that is told of rows is told as before
  kept : (q clock later : ℕ) (c : Container) → IsContainer v q clock c → clock ≤ later → IsContainer at_clock q later c
  kept q clock later c is more =
      kept-container v at_clock (moved-many v p show (λ row. refl) v.nodes) q clock later c is more (λ app found. (app, found, refl)) (λ node found. (node, found, refl))

  module _ (sound : IsSound v) (row : PartitionRow) (there : slice_get v.partitions p ≡ Some row) where
    -- a container of a clock that is shown
    shown-container : (c : Container) → IsContainer v p row.clock c → c.clock ≤ shown → IsContainer at_clock p shown c
    shown-container c is within = record {
      app = is.app;
      node = is.node;
      node_found = is.node_found;
      node_there = is.node_there;
      role = (kept p row.clock row.clock c is (omega arith)).role;
      clock = within;
    }

    own-partition : CanShow v p shown → IsPartition at_clock p (show row)
    own-partition can = record {
      numbers = was.numbers;
      rising = was.rising;
      clock = at_live (λ (r : PartitionRow). shown ≤ r.limit) (slice_get v.partitions p) row can.within there;
      masters = was.masters;
      each = λ n c found. shown-container c (was.each n c found) (at-number (λ n (c : Container). c.clock ≤ shown) row.containers n c above found);
    }
      where
        was : IsPartition v p row
        was = sound.partitions p row there

        above : AllByRecursion (λ e. e.1.clock ≤ shown) row.containers
        above = at_live (λ (r : PartitionRow). AllByRecursion (λ e. e.1.clock ≤ shown) r.containers) (slice_get v.partitions p) row can.above there

    other-partition : (q : ℕ) (other : PartitionRow) → IsPartition v q other → IsPartition at_clock q other
    other-partition q other is = record {
      numbers = is.numbers;
      rising = is.rising;
      clock = is.clock;
      masters = is.masters;
      each = λ n c found. kept q other.clock other.clock c (is.each n c found) (omega arith);
    }

    -- the rows stay sound
    pub clock-sound : CanShow v p shown → IsSound at_clock
    clock-sound can =
        moved-sound v p show (λ row. refl) v.nodes sound
        (each-partition v p show (λ row. refl) v.nodes row there (own-partition can) (λ q other at apart. other-partition q other (sound.partitions q other at)))
        sound.node_numbers sound.node_names sound.nodes

    -- they are still those of the configuration
    pub clock-for : (c : Config) → IsFor c v → IsFor c at_clock
    clock-for c is = moved-for v p show (λ row. refl) v.nodes c (λ row. refl) (λ row. refl) is

    partition : (other : PartitionRow) → partition_of at_clock other ≡ partition_of v other
    partition other = λ i. record {
      label = other.label;
      clock = other.clock;
      containers = map (λ e. placed-same v at_clock (moved-labels v p show (λ row. refl) v.nodes) other.label e.1 refl refl i) other.containers;
    }

    partitions-mean : map (partition_of at_clock) at_clock.partitions ≡ in_partition row.label (λ r. record r { clock = shown }) (map (partition_of v) v.partitions)
    partitions-mean =
        update-place (partition_of v) (is_partition row.label) (partition_of at_clock) (λ r. record r { clock = shown }) p show v.partitions
        (λ q other at apart. (other-label v sound p row there q other at apart, partition other))
        (λ other at. own-means other (same_Some row other (sym there ∙ at)))
      where
        own-means : (other : PartitionRow) → row ≡ other → (same_label other.label row.label ≡ true) × (partition_of at_clock (show other) ≡ record (partition_of v other) { clock = shown })
        own-means other same =
            subst (λ (r : PartitionRow). (same_label r.label row.label ≡ true) × (partition_of at_clock (show r) ≡ record (partition_of v r) { clock = shown })) same
            (same-label_self row.label, partition (show row))

    -- and they mean the state with that clock
    pub clock-means : (stops : List StopRow) (maxima : List MaximumRow)
        → state_of at_clock stops maxima ≡ record (state_of v stops maxima) { partitions = in_partition row.label (λ r. record r { clock = shown }) (state_of v stops maxima).partitions }
    clock-means stops maxima = λ i. record {
      nodes = map (λ e. node-same v at_clock (moved-labels v p show (λ row. refl) v.nodes) e.1 i) v.nodes;
      partitions = partitions-mean i;
      leaves = map (λ q. leaf-stays v p show (λ row. refl) v.nodes q i) (leaf_numbers v.paths);
      stops = stops;
      maxima = maxima;
    }

-- ---- the stamp of a node

module _ (v : Rows) (node stamp : ℕ) where
  abbrev mark : NodeRow → NodeRow
  mark row = record row { stamp = stamp }

  abbrev at_stamp : Rows
  at_stamp = with_stamp node stamp v

  marked-node : (n : ℕ) (row : NodeRow) → lookup (nat_eq n) v.nodes ≡ Some row → (other : NodeRow) × (lookup (nat_eq n) at_stamp.nodes ≡ Some other) × (other.partition ≡ row.partition)
  marked-node n row found = (row_after n node mark row, still-found n node mark v.nodes row found, read-after (λ row. row.partition) n node mark row refl)

  marked-container : (q clock : ℕ) (c : Container) → IsContainer v q clock c → IsContainer at_stamp q clock c
  marked-container q clock c is = kept-container v at_stamp refl q clock clock c is (omega arith) (λ app found. (app, found, refl)) (marked-node c.node)

  -- the rows stay sound
  pub stamp-sound : IsSound v → IsSound at_stamp
  stamp-sound sound = record {
    tree = sound.tree;
    default = sound.default;
    some = sound.some;
    labels = sound.labels;
    partitions = λ q other at.
        let is = sound.partitions q other at in
        record { numbers = is.numbers; rising = is.rising; clock = is.clock; masters = is.masters; each = λ n c found. marked-container q other.clock c (is.each n c found) };
    node_numbers = changed-distinct node mark v.nodes sound.node_numbers;
    node_names = subst Differ (sym (map-changed (λ row. row.name) node mark (λ row. refl) v.nodes)) sound.node_names;
    nodes = λ n other found.
        let old = was-found n node mark v.nodes other found in
        let same : other.partition ≡ old.0.partition = ap (λ (row : NodeRow). row.partition) old.2 ∙ read-after (λ row. row.partition) n node mark old.0 refl in
        subst (HasPartition v) (sym same) (sound.nodes n old.0 old.1);
    app_numbers = sound.app_numbers;
    apps = λ n row found.
        let is = sound.apps n row found in
        record { name = is.name; submitted = is.submitted; user = is.user; home = is.home; asks = is.asks; asked = is.asked };
    order = sound.order;
    many = sound.many;
    tenants = λ t entries at.
        let is = sound.tenants t entries at in
        record {
          names = is.names;
          each = λ turn name s here. let its = is.each turn name s here in record { there = its.there; leaf = its.leaf; tenant = its.tenant; live = its.live; row = its.row };
        };
    users = sound.users;
  }

  -- they are still those of the configuration
  pub stamp-for : (c : Config) → IsFor c v → IsFor c at_stamp
  stamp-for c is = record { labels = is.labels; limits = is.limits; guests = is.guests; paths = is.paths }

  module _ (sound : IsSound v) (row : NodeRow) (found : lookup (nat_eq node) v.nodes ≡ Some row) where
    abbrev label : Label
    label = (node_of v.partitions row).label

    others : (n : ℕ) (other : NodeRow) → lookup (nat_eq n) v.nodes ≡ Some other → n ≢ node
        → (is_at row.name label (node_of v.partitions other) ≡ false) × (node_of v.partitions other ≡ node_of v.partitions other)
    others n other at apart = (ap (λ b. b && same_label (node_of v.partitions other).label label) (other-name v sound node row found n other at apart), refl)

    own : (n : ℕ) (other : NodeRow) → lookup (nat_eq n) v.nodes ≡ Some other → n ≡ node
        → (is_at row.name label (node_of v.partitions other) ≡ true) × (node_of v.partitions (mark other) ≡ record (node_of v.partitions other) { stamp = stamp })
    own n other at same =
        let is : row ≡ other = same_Some row other (sym found ∙ ap (λ m. lookup (nat_eq m) v.nodes) (sym same) ∙ at) in (
          and_from (same_name other.name row.name) (same_label (node_of v.partitions other).label label)
              (ap (λ (r : NodeRow). same_name r.name row.name) (sym is) ∙ same-name_self row.name)
              (ap (λ (r : NodeRow). same_label (node_of v.partitions r).label label) (sym is) ∙ same-label_self label),
          refl,
        )

    nodes-mean : map (λ e. node_of v.partitions e.1) at_stamp.nodes ≡ stamped row.name label stamp (map (λ e. node_of v.partitions e.1) v.nodes)
    unfolding stamped
    nodes-mean =
        update-number (node_of v.partitions) (is_at row.name label) (node_of v.partitions) (λ node. record node { stamp = stamp }) node mark v.nodes
        (each-number (λ n other. n ≢ node → (is_at row.name label (node_of v.partitions other) ≡ false) × (node_of v.partitions other ≡ node_of v.partitions other)) v.nodes sound.node_numbers others)
        (each-number (λ n other. n ≡ node → (is_at row.name label (node_of v.partitions other) ≡ true) × (node_of v.partitions (mark other) ≡ record (node_of v.partitions other) { stamp = stamp })) v.nodes sound.node_numbers own)

    -- containers are called as before
    same-partition : (other : PartitionRow) → partition_of at_stamp other ≡ partition_of v other
    same-partition other = λ i. record {
      label = other.label;
      clock = other.clock;
      containers = map (λ e. placed-same v at_stamp (λ q. refl) other.label e.1 (node_name-changed node mark (λ row. refl) v.nodes e.1.node) refl i) other.containers;
    }

    -- and they mean the state with that stamp
    pub stamp-means : (stops : List StopRow) (maxima : List MaximumRow)
        → state_of at_stamp stops maxima ≡ record (state_of v stops maxima) { nodes = stamped row.name label stamp (state_of v stops maxima).nodes }
    stamp-means stops maxima = λ i. record {
      nodes = nodes-mean i;
      partitions = map (λ other. same-partition other i) v.partitions;
      leaves = map (leaf_of v) (leaf_numbers v.paths);
      stops = stops;
      maxima = maxima;
    }
