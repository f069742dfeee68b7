-- A container comes to stand as one that was placed at a clock: the rows stay sound, and mean the same but for it.
use Rattle.std.proofs.Common.{◌≡◌, is_some, IfSome, find, ℕ, Bool, true, false, cond, List, [], ◌∷◌, ◌++◌, map, slice_get, Some, None, nat_eq, refl, sym, ap, subst, ◌∙◌, arith, true≢false, inl, inr}
use Rattle.std.specs.Map.{lookup}
use Rattle.std.specs.Option.{option_map_or}
use Rattle.std.proofs.lemmas.List.{map-append}
use Rattle.std.proofs.lemmas.Option.{same_Some}
use Rattle.ynl_resource.specs.Names.{same_label}
use Rattle.ynl_resource.specs.declared.labels.Label.{Label}
use Rattle.ynl_laws.proofs.Names.{same-label_self}
use Rattle.ynl_model.specs.declared.containers.Placed.{Placed}
use Rattle.ynl_model.specs.declared.queues.StopRow.{StopRow}
use Rattle.ynl_model.specs.declared.queues.MaximumRow.{MaximumRow}
use Rattle.ynl_model.specs.Queues.{Config}
use Rattle.ynl_model.specs.Cluster.{Partition, is_partition, in_partition}
use Rattle.ynl_slots.specs.Slots.{IsUnused}
use Rattle.ynl_slots.proofs.Entries.{distinct_push}
use Rattle.ynl_slots.proofs.Lookups.{lookup-push}
use Rattle.ynl_tables.specs.declared.containers.container.Container.{Container}
use Rattle.ynl_tables.specs.declared.containers.container.Role.{Role}
use Rattle.ynl_tables.specs.declared.containers.container.Role.TheVariants.{Master, Ask as Asked}
use Rattle.ynl_tables.proofs.containers.Clocks.{rising_push}
use Rattle.ynl_inventory.specs.declared.partition.Placement.{Placement}
use Rattle.ynl_inventory.specs.Rows.{Rows, PartitionRow, NodeRow, AppRow}
use Rattle.ynl_inventory.specs.Meaning.{label_at, placed_of, partition_of, leaf_numbers, state_of}
use Rattle.ynl_inventory.specs.Changes.{partition_of_node, with_stood}
use Rattle.ynl_inventory.specs.Apps.{is_master_role, is_master_of}
use Rattle.ynl_inventory.specs.Sound.{IsFor, HasPartition, IsAskedOn, IsRole, MayHave, IsContainer, IsPartition, IsStandable, IsSound}
use Rattle.ynl_inventory.specs.Parts.{placed_on}
use Rattle.ynl_inventory.proofs.Naming.{placed-same, node-same}
use Rattle.ynl_inventory.proofs.Updates.{update-place}
use Rattle.ynl_inventory.proofs.Finding.{own-label, other-label}
use Rattle.ynl_inventory.proofs.Masters.{masters-push, none-runs}
use Rattle.ynl_inventory.proofs.Kept.{kept-container}
use Rattle.ynl_inventory.proofs.PartitionChange.{many, labels, leaf-stays, each-partition, moved-sound, moved-for}

-- the rows are still those of the configuration
pub stood-for : (v : Rows) (number : ℕ) (placed : Placement) (clock : ℕ) (c : Config) → IsFor c v → IsFor c (with_stood (partition_of_node v.nodes placed.node) number (placed_on placed clock) v)
stood-for v number placed clock c is =
    moved-for v (partition_of_node v.nodes placed.node) (λ row. record row { containers = row.containers ++ (number, placed_on placed clock) ∷ [] }) (λ row. refl) v.nodes c (λ row. refl) (λ row. refl) is

module _ (v : Rows) (sound : IsSound v) (number : ℕ) (placed : Placement) (clock : ℕ) (can : IsStandable v placed.node placed.app placed.role clock) where
  abbrev p : ℕ
  p = partition_of_node v.nodes placed.node

  abbrev new : Container
  new = placed_on placed clock

  abbrev push : PartitionRow → PartitionRow
  push row = record row { containers = row.containers ++ (number, new) ∷ [] }

  abbrev after : Rows
  after = with_stood p number new v

  stands : can.node_row.partition ≡ p
  stands = sym (ap (λ o. option_map_or (λ (row : NodeRow). row.partition) o 0) can.node_found)

  there : slice_get v.partitions p ≡ Some can.partition
  there = ap (slice_get v.partitions) (sym stands) ∙ can.partition_found

  old-partition : IsPartition v p can.partition
  old-partition = sound.partitions p can.partition there

  -- all else that is told of rows is told as before
  kept : (q shown : ℕ) (c : Container) → IsContainer v q shown c → IsContainer after q shown c
  kept q shown c is =
      kept-container v after (many v p push (λ row. refl) v.nodes) q shown shown c is (omega arith) (λ app found. (app, found, refl)) (λ node found. (node, found, refl))

  is-role : IsRole v p placed.app placed.role
  is-role = go placed.role can.role
    where
      on : (asked : ℕ) → IsAskedOn can.app_row.home asked → HasPartition v asked
      on asked (inl home) = subst (HasPartition v) (sym home) (sound.apps placed.app can.app_row can.app_found).home
      on asked (inr default) = subst (HasPartition v) (sym default) sound.some

      go : (s : Role) → MayHave v placed.app can.node_row.partition can.partition.guests can.app_row s → IsRole v p placed.app s
      go Master may = subst (λ o. IfSome o (λ (row : AppRow). row.home ≡ p)) (sym can.app_found) (may.0 ∙ stands)
      go (Asked asked priority) may = on asked may.0

  is-new : IsContainer v p can.partition.clock new
  is-new = record {
    app = ap is_some can.app_found;
    node = can.node_row;
    node_found = can.node_found;
    node_there = stands;
    role = is-role;
    clock = can.shown;
  }

  -- a master stands only where its application has none
  pub none-yet : is_master_role placed.role ≡ true → find (is_master_of placed.app) can.partition.containers ≡ None
  none-yet master = go placed.role can.role master
    where
      go : (s : Role) → MayHave v placed.app can.node_row.partition can.partition.guests can.app_row s → is_master_role s ≡ true → find (is_master_of placed.app) can.partition.containers ≡ None
      go Master may is = none-runs v placed.app p can.app_row can.partition there (may.0 ∙ stands) may.1
      go (Asked asked priority) may is = absurd (true≢false (sym is))

  own-partition : IsUnused number can.partition.containers → IsPartition after p (push can.partition)
  own-partition unused = record {
    numbers = distinct_push number new can.partition.containers unused old-partition.numbers;
    rising = rising_push number new can.partition.containers old-partition.rising can.last;
    clock = old-partition.clock;
    masters = masters-push number new can.partition.containers unused old-partition.masters none-yet;
    each = λ n c found. kept p can.partition.clock c (each n c found);
  }
    where
      each : (n : ℕ) (c : Container) → lookup (nat_eq n) (can.partition.containers ++ (number, new) ∷ []) ≡ Some c → IsContainer v p can.partition.clock c
      each n c found = go (nat_eq n number) (sym (lookup-push n number new can.partition.containers unused) ∙ found)
        where
          go : (b : Bool) → cond b (Some new) (lookup (nat_eq n) can.partition.containers) ≡ Some c → IsContainer v p can.partition.clock c
          go true e = subst (IsContainer v p can.partition.clock) (same_Some new c e) is-new
          go false e = old-partition.each n c e

  other-partition : (q : ℕ) (other : PartitionRow) → IsPartition v q other → IsPartition after q other
  other-partition q other is = record {
    numbers = is.numbers;
    rising = is.rising;
    clock = is.clock;
    masters = is.masters;
    each = λ n c found. kept q other.clock c (is.each n c found);
  }

  -- the rows stay sound
  pub stood-sound : IsUnused number can.partition.containers → IsSound after
  stood-sound unused =
      moved-sound v p push (λ row. refl) v.nodes sound
      (each-partition v p push (λ row. refl) v.nodes can.partition there (own-partition unused) (λ q other at apart. other-partition q other (sound.partitions q other at)))
      sound.node_numbers sound.node_names sound.nodes

  -- ---- what they mean

  -- the container as the model has it, on a partition of this label
  abbrev last : Label → Placed
  last label = placed_of v label new

  abbrev pushed : Label → Partition → Partition
  pushed label r = record r { containers = r.containers ++ last label ∷ [] }

  partition : (other : PartitionRow) → partition_of after other ≡ partition_of v other
  partition other = λ i. record {
    label = other.label;
    clock = other.clock;
    containers = map (λ e. placed-same v after (labels v p push (λ row. refl) v.nodes) other.label e.1 refl refl i) other.containers;
  }

  own-label-is : label_at v.partitions p ≡ can.partition.label
  own-label-is = own-label v sound p can.partition there

  partitions-mean : map (partition_of after) after.partitions ≡ in_partition can.partition.label (pushed can.partition.label) (map (partition_of v) v.partitions)
  partitions-mean =
      update-place (partition_of v) (is_partition can.partition.label) (partition_of after) (pushed can.partition.label) p push v.partitions
      (λ q other at apart. (other-label v sound p can.partition there q other at apart, partition other))
      (λ other at. own-means other (same_Some can.partition other (sym there ∙ at)))
    where
      own-means : (other : PartitionRow) → can.partition ≡ other → (same_label other.label can.partition.label ≡ true) × (partition_of after (push other) ≡ pushed can.partition.label (partition_of v other))
      own-means other same =
          subst (λ (r : PartitionRow). (same_label r.label can.partition.label ≡ true) × (partition_of after (push r) ≡ pushed can.partition.label (partition_of v r))) same (
            same-label_self can.partition.label,
            partition (push can.partition)
                ∙ (λ i. record {
                  label = can.partition.label;
                  clock = can.partition.clock;
                  containers = map-append (λ (e : ℕ × Container). placed_of v can.partition.label e.1) can.partition.containers ((number, new) ∷ []) i;
                }),
          )

  -- the state in which it comes last on its partition
  pub stood-means : (stops : List StopRow) (maxima : List MaximumRow)
      → state_of after stops maxima ≡ record (state_of v stops maxima) {
        partitions = in_partition (label_at v.partitions p) (λ row. record row { containers = row.containers ++ placed_of v (label_at v.partitions p) new ∷ [] }) (state_of v stops maxima).partitions;
      }
  stood-means stops maxima = λ i. record {
    nodes = map (λ e. node-same v after (labels v p push (λ row. refl) v.nodes) e.1 i) v.nodes;
    partitions = (partitions-mean ∙ ap (λ label. in_partition label (pushed label) (map (partition_of v) v.partitions)) (sym own-label-is)) i;
    leaves = map (λ q. leaf-stays v p push (λ row. refl) v.nodes q i) (leaf_numbers v.paths);
    stops = stops;
    maxima = maxima;
  }
