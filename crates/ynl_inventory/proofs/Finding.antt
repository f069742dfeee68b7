-- What the state finds by labels and names, and the rows that it means.
use Rattle.std.proofs.Common.{◌≡◌, ◌≢◌, ℕ, Bool, true, false, cond, nat_le, List, [], ◌∷◌, map, find, slice_get, Option, Some, None, option_map, nat_eq, refl, sym, ap, ◌∙◌, arith, true≢false}
use Rattle.std.specs.List.{AllByRecursion}
use Rattle.std.specs.Map.{lookup}
use Rattle.std.specs.Option.{option_map_or, option_and_then}
use Rattle.std.proofs.lemmas.Option.{none-some, same_Some, slice_get_within}
use Rattle.ynl_resource.specs.Names.{same_name, same_label}
use Rattle.ynl_resource.specs.declared.names.Name.{Name}
use Rattle.ynl_resource.specs.declared.labels.Label.TheVariants.{Unlabelled}
use Rattle.ynl_laws.proofs.Names.{same-name_self, same-name_sym, same-label_path, same-label_self}
use Rattle.ynl_model.specs.declared.queues.StopRow.{StopRow}
use Rattle.ynl_model.specs.declared.queues.MaximumRow.{MaximumRow}
use Rattle.ynl_model.specs.Queues.{Config}
use Rattle.ynl_model.specs.Nodes.{rises, clock_limit, find_node}
use Rattle.ynl_model.specs.Cluster.{Partition, is_partition, clock, is_spent, next_clock, containers_on}
use Rattle.ynl_slots.proofs.Lists.{all_from}
use Rattle.ynl_inventory.specs.Rows.{Rows, PartitionRow, NodeRow}
use Rattle.ynl_inventory.specs.Meaning.{label_at, node_number, placed_of, partition_of, node_of, state_of}
use Rattle.ynl_inventory.specs.Changes.{next_clock as next_of_row}
use Rattle.ynl_inventory.specs.Sound.{IsFor, HasPartition, IsSound}
use Rattle.ynl_inventory.proofs.Lookups.{in-place}
use Rattle.ynl_laws.proofs.Lists.{find-nothing, Each-map}
use Rattle.ynl_slots.specs.Slots.{HasDistinctNumbers}
use Rattle.std.proofs.lemmas.Bool.Decides.{nat_tests}
use Rattle.ynl_inventory.proofs.Updates.{head-found, later-found, unused-apart, find-place, find-number, each-number, differ-numbers}

-- ---- truth values

pub not-true : (b : Bool) → (b ≡ true → ⊥) → b ≡ false
not-true true h = absurd (h refl)
not-true false h = refl

nat_same : (m n : ℕ) → nat_eq m n ≡ true → m ≡ n
nat_same m n h = grind (arith, nat_tests, h)

nat_apart : (m n : ℕ) → nat_eq m n ≡ false → m ≢ n
nat_apart m n h = grind (arith, nat_tests, h)

-- ---- partitions

module _ (v : Rows) (sound : IsSound v) (p : ℕ) (row : PartitionRow) (there : slice_get v.partitions p ≡ Some row) where
  -- a row has the label of its number
  pub own-label : label_at v.partitions p ≡ row.label
  own-label = ap (λ o. option_map_or (λ row. row.label) o Unlabelled) there

  pub has-partition : HasPartition v p
  has-partition = slice_get_within v.partitions p row there

  -- and it alone has it
  pub other-label : (q : ℕ) (other : PartitionRow) → slice_get v.partitions q ≡ Some other → q ≢ p → same_label other.label row.label ≡ false
  other-label q other at apart =
      not-true (same_label other.label row.label)
      (λ same.
      apart
      (sound.labels q p (slice_get_within v.partitions q other at) has-partition
      (ap (λ o. option_map_or (λ row. row.label) o Unlabelled) at ∙ same-label_path other.label row.label same ∙ sym own-label)))

  -- the partition of a label is found
  pub find-partition : find (is_partition row.label) (map (partition_of v) v.partitions) ≡ Some (partition_of v row)
  find-partition = find-place (partition_of v) (is_partition row.label) v.partitions p row there (same-label_self row.label) other-label

  module _ (stops : List StopRow) (maxima : List MaximumRow) where
    -- its containers are those of the row
    pub containers-at : containers_on (state_of v stops maxima) row.label ≡ map (λ e. placed_of v row.label e.1) row.containers
    containers-at = ap (λ o. option_map_or (λ (row : Partition). row.containers) o []) find-partition

    -- its clock shows what the row's shows
    pub clock-at : clock (state_of v stops maxima) row.label ≡ row.clock
    unfolding clock
    clock-at = ap (λ o. option_map_or (λ (row : Partition). row.clock) o 0) find-partition

    module _ (c : Config) (is : IsFor c v) where
      -- its clock goes as far as the row's
      pub limit-at : clock_limit c.labels row.label ≡ row.limit
      limit-at = sym (in-place (λ row. row.limit ≡ clock_limit c.labels row.label) v.partitions p row (all_from (λ row. row.limit ≡ clock_limit c.labels row.label) v.partitions is.limits) there)

      -- after one more change it shows what the row's shows then
      pub next-at : next_clock c.labels (state_of v stops maxima) row.label ≡ next_of_row row
      unfolding next_clock
      next-at = λ i. rises (limit-at i) (clock-at i)

      -- and it is spent just where the row's is
      pub spent-at : is_spent c.labels (state_of v stops maxima) row.label ≡ nat_le row.limit row.clock
      unfolding is_spent
      spent-at = λ i. nat_le (limit-at i) (clock-at i)

-- ---- nodes

module _ (v : Rows) (sound : IsSound v) (n : ℕ) (row : NodeRow) (found : lookup (nat_eq n) v.nodes ≡ Some row) where
  -- no node has the name of another
  pub other-name : (m : ℕ) (other : NodeRow) → lookup (nat_eq m) v.nodes ≡ Some other → m ≢ n → same_name other.name row.name ≡ false
  other-name m other at apart =
      not-true (same_name other.name row.name) (λ same. apart (differ-numbers (λ row. row.name) v.nodes m n other row sound.node_names at found same))

  pub other-names : AllByRecursion (λ e. e.0 ≢ n → same_name e.1.name row.name ≡ false) v.nodes
  other-names = each-number (λ m other. m ≢ n → same_name other.name row.name ≡ false) v.nodes sound.node_numbers other-name

  -- the node of a name is found
  pub find-node : find_node (map (λ e. node_of v.partitions e.1) v.nodes) row.name ≡ Some (node_of v.partitions row)
  find-node = find-number (node_of v.partitions) (λ node. same_name node.name row.name) v.nodes n row found (same-name_self row.name) other-names

  -- a number is the node's where its node has the name
  pub name-tells : (m : ℕ) (other : NodeRow) → lookup (nat_eq m) v.nodes ≡ Some other → same_name other.name row.name ≡ nat_eq m n
  name-tells m other at = go (nat_eq m n) refl
    where
      go : (b : Bool) → nat_eq m n ≡ b → same_name other.name row.name ≡ b
      go true q =
          let is : row ≡ other = same_Some row other (sym found ∙ ap (λ k. lookup (nat_eq k) v.nodes) (sym (nat_same m n q)) ∙ at) in
          ap (λ (r : NodeRow). same_name r.name row.name) (sym is) ∙ same-name_self row.name
      go false q = other-name m other at (nat_apart m n q)

-- a name that no node has is not found
pub unnamed : (name : Name) (nodes : List (ℕ × NodeRow)) → node_number name nodes ≡ None → AllByRecursion (λ e. same_name e.1.name name ≡ false) nodes
unnamed name [] h = tt
unnamed name (e ∷ nodes) h = go (same_name name e.1.name) refl h (unnamed name nodes)
  where
    go : (b : Bool) → same_name name e.1.name ≡ b → cond b (Some e.0) (node_number name nodes) ≡ None
        → (node_number name nodes ≡ None → AllByRecursion (λ e. same_name e.1.name name ≡ false) nodes) → (same_name e.1.name name ≡ false) × AllByRecursion (λ e. same_name e.1.name name ≡ false) nodes
    go true q k rest = absurd (none-some e.0 (sym k))
    go false q k rest =
        (not-true (same_name e.1.name name) (λ same. true≢false (sym (ap (same_name name) (same-name_sym e.1.name name same) ∙ same-name_self name) ∙ q)), rest k)

-- a name that a node has is found with the node's number
pub named : (name : Name) (nodes : List (ℕ × NodeRow)) (n : ℕ) → HasDistinctNumbers nodes → node_number name nodes ≡ Some n → (row : NodeRow) × (lookup (nat_eq n) nodes ≡ Some row) × (name ≡ row.name)
named name [] n d h = absurd (none-some n h)
named name (e ∷ nodes) n d h = go (same_name name e.1.name) refl h (named name nodes n d.1)
  where
    go : (b : Bool) → same_name name e.1.name ≡ b → cond b (Some e.0) (node_number name nodes) ≡ Some n
        → (node_number name nodes ≡ Some n → (row : NodeRow) × (lookup (nat_eq n) nodes ≡ Some row) × (name ≡ row.name))
        → (row : NodeRow) × (lookup (nat_eq n) (e ∷ nodes) ≡ Some row) × (name ≡ row.name)
    go true q k rest =
        (e.1, ap (λ m. lookup (nat_eq m) (e ∷ nodes)) (sym (same_Some e.0 n k)) ∙ head-found e nodes, same-name_sym name e.1.name q)
    go false q k rest = let is = rest k in (is.0, later-found n is.0 e nodes (unused-apart n e.0 is.0 nodes d.0 is.1) is.1, is.2)

-- so the node of a name is that of the name's number
pub node-of-name : (v : Rows) → IsSound v → (name : Name)
    → find_node (map (λ e. node_of v.partitions e.1) v.nodes) name
    ≡ option_map (node_of v.partitions) (option_and_then (λ n. lookup (nat_eq n) v.nodes) (node_number name v.nodes))
node-of-name v sound name = go (node_number name v.nodes) refl
  where
    go : (o : Option ℕ) → node_number name v.nodes ≡ o
        → find_node (map (λ e. node_of v.partitions e.1) v.nodes) name ≡ option_map (node_of v.partitions) (option_and_then (λ n. lookup (nat_eq n) v.nodes) o)
    go None is =
        find-nothing (λ node. same_name node.name name) (map (λ e. node_of v.partitions e.1) v.nodes)
        (Each-map (λ e. same_name e.1.name name ≡ false) (λ node. same_name node.name name ≡ false) (λ (e : ℕ × NodeRow). node_of v.partitions e.1) (λ e h. h) v.nodes (unnamed name v.nodes is))
    go (Some n) is =
        let there = named name v.nodes n sound.node_numbers is in
        ap (find_node (map (λ e. node_of v.partitions e.1) v.nodes)) there.2 ∙ find-node v sound n there.0 there.1 ∙ sym (ap (option_map (node_of v.partitions)) there.1)
