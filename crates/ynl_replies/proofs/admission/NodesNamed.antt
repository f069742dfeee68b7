-- The nodes of names, and what is tested of them.
use Rattle.std.proofs.Common.{◌≡◌, ◌<◌, ℕ, Bool, false, nat_eq, nat_le, is_some, IfNone, IfSome, map, slice_get, Option, None, Some, option_map, sym, ap, subst, ◌∙◌, arith}
use Rattle.std.specs.Map.{lookup}
use Rattle.std.specs.Option.{option_map_or, option_and_then}
use Rattle.std.proofs.lemmas.Bool.Decides.{nat_tests}
use Rattle.std.proofs.lemmas.Option.{same_Some}
use Rattle.ynl_resource.specs.declared.names.Name.{Name}
use Rattle.ynl_model.specs.Check.{node_that}
use Rattle.ynl_model.specs.Cluster.{is_spent, node_of}
use Rattle.ynl_model.specs.declared.nodes.Node.{Node}
use Rattle.ynl_model.specs.Nodes.{find_node}
use Rattle.ynl_inventory.specs.Rows.{NodeRow, PartitionRow}
use Rattle.ynl_inventory.specs.Meaning.{node_number, node_of as node_of_row}
use Rattle.ynl_inventory.specs.Sound.{HasPartition, IsFor, IsSound}
use Rattle.ynl_inventory.proofs.Finding.{find-node, named, node-of-name, own-label, spent-at}
use Rattle.ynl_inventory.proofs.Lookups.{place-there}
use Rattle.ynl_cluster.specs.Cluster.{ClusterView, maxima_in, state_in, stops_in}
use Rattle.ynl_replies.specs.admission.Named.{IsNodeNamed}
use Rattle.ynl_replies.specs.admission.Admitted.{CanPlaceOn}

module _ (w : ClusterView) (sound : IsSound w.rows) (name : Name) where
  -- the node of a name's number has the name
  pub node-found : (o : Option ℕ) → o ≡ node_number name w.rows.nodes → IfSome o (IsNodeNamed w name)
  node-found None is = tt
  node-found (Some n) is =
      let its = named name w.rows.nodes n sound.node_numbers (sym is) in
      record { row = its.0; found = its.1; named = ap (find_node (map (λ e. node_of_row w.rows.partitions e.1) w.rows.nodes)) its.2 ∙ find-node w.rows sound n its.0 its.1 }

  -- and none has a name without a number
  pub node-missing : node_number name w.rows.nodes ≡ None → node_of (state_in w) name ≡ None
  node-missing none = node-of-name w.rows sound name ∙ ap (λ o. option_map (node_of_row w.rows.partitions) (option_and_then (λ n. lookup (nat_eq n) w.rows.nodes) o)) none

  pub none-found : (o : Option ℕ) → o ≡ node_number name w.rows.nodes → IfNone o (node_of (state_in w) name ≡ None)
  none-found None is = node-missing (sym is)
  none-found (Some n) is = tt

  -- so there is a node of the name where there is a number of it
  pub node-known : (o : Option ℕ) → o ≡ node_number name w.rows.nodes → is_some (node_of (state_in w) name) ≡ is_some o
  node-known None is = ap is_some (node-missing (sym is))
  node-known (Some n) is = ap is_some (node-found (Some n) is).named

module _ (w : ClusterView) (sound : IsSound w.rows) (name : Name) (n : ℕ) (its : IsNodeNamed w name n) (row : NodeRow) (found : lookup (nat_eq n) w.rows.nodes ≡ Some row) where
  -- its row is the one that is read
  pub row-is : its.row ≡ row
  row-is = same_Some its.row row (sym its.found ∙ found)

  -- and its partition is there
  pub stands : HasPartition w.rows row.partition
  stands = sound.nodes n row found

  -- what is tested of it is tested of the row
  that-is : (test : Node → Bool) → node_that (state_in w) name test ≡ test (node_of_row w.rows.partitions row)
  that-is test = ap (λ o. option_map_or test o false) its.named ∙ ap (λ (row : NodeRow). test (node_of_row w.rows.partitions row)) row-is

  -- the clock of its partition is spent where the partition's row says so
  module _ (is : IsFor w.config w.rows) (spent : Bool) (read : IfSome (slice_get w.rows.partitions row.partition) (λ part. spent ≡ nat_le part.limit part.clock)) where
    its-partition : (part : PartitionRow) × (slice_get w.rows.partitions row.partition ≡ Some part)
    its-partition = place-there w.rows.partitions row.partition stands

    spent-is : spent ≡ nat_le its-partition.0.limit its-partition.0.clock
    spent-is = subst (λ (o : Option PartitionRow). IfSome o (λ part. spent ≡ nat_le part.limit part.clock)) its-partition.1 read

    pub is-spent : node_that (state_in w) name (λ node. is_spent w.config.labels (state_in w) node.label) ≡ spent
    is-spent =
        that-is (λ node. is_spent w.config.labels (state_in w) node.label)
        ∙ ap (is_spent w.config.labels (state_in w)) (own-label w.rows sound row.partition its-partition.0 its-partition.1)
        ∙ spent-at w.rows sound row.partition its-partition.0 its-partition.1 (stops_in w) (maxima_in w) w.config is
        ∙ sym spent-is

    -- where it is not, containers may be placed there
    pub may-place : spent ≡ false → CanPlaceOn w name n
    may-place rests = record {
      node = its;
      partition = its-partition.0;
      partition_found = ap (λ (row : NodeRow). slice_get w.rows.partitions row.partition) row-is ∙ its-partition.1;
      rises = rising its-partition.0.limit its-partition.0.clock (sym spent-is ∙ rests);
    }
      where
        rising : (limit clock : ℕ) → nat_le limit clock ≡ false → clock < limit
        rising limit clock h = grind (arith, nat_tests, h)
