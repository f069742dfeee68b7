-- The nodes of the state are those of the rows.
use Rattle.std.proofs.Common.{◌≡◌, ◌+◌, ◌<◌, ◌≤◌, ℕ, Bool, filter, not, nat_eq, nat_le, nat_lt, List, [], ◌∷◌, ◌++◌, length, map, get_or, slice_get, take, Option, None, Some, option_map, sym, ap, subst, ◌∙◌, arith}
use Rattle.std.specs.Prelude.{IfSome}
use Rattle.std.specs.List.{AllByRecursion, Contains, list_any}
use Rattle.std.proofs.lemmas.Bool.Decides.{nat_tests}
use Rattle.std.specs.Map.{lookup}
use Rattle.std.proofs.lemmas.List.{length-map}
use Rattle.std.proofs.lemmas.Option.{get_or_from_slice_get, none-some, same_Some, slice_get-map}
use Rattle.ynl_resource.specs.declared.amounts.Resource.{Resource}
use Rattle.ynl_resource.specs.declared.labels.Label.{Label}
use Rattle.ynl_model.specs.declared.nodes.Node.{Node}
use Rattle.ynl_model.specs.Cluster.{free, is_spent, node_of as node_named}
use Rattle.ynl_inventory.specs.Rows.{NodeRow, PartitionRow}
use Rattle.ynl_inventory.specs.Meaning.{node_of}
use Rattle.ynl_inventory.specs.Parts.{free_of}
use Rattle.ynl_inventory.specs.Sound.{IsFor, IsSound}
use Rattle.ynl_inventory.proofs.Finding.{find-node, own-label, spent-at}
use Rattle.ynl_inventory.proofs.Lookups.{in-place, place-there}
use Rattle.ynl_inventory.proofs.Updates.{each-number}
use Rattle.ynl_search.proofs.FreeMeans.{free-means}
use Rattle.ynl_search.proofs.Tests.{counted-some}
use Rattle.ynl_cluster.specs.Cluster.{ClusterView, label_of, maxima_in, state_in, stops_in}
use Rattle.ynl_replies.specs.admission.Named.{IsNodeNamed, IsPartitionOf}
use Rattle.ynl_waits.specs.Grounds.{spot}
use Rattle.ynl_service.specs.reading.Readings.{IsNodeHere}

abbrev Entry : Type 0
Entry = ℕ × NodeRow

module _ (w : ClusterView) (sound : IsSound w.rows) where
  each-found : AllByRecursion (λ (e : Entry). lookup (nat_eq e.0) w.rows.nodes ≡ Some e.1) w.rows.nodes
  each-found = each-number (λ m row. lookup (nat_eq m) w.rows.nodes ≡ Some row) w.rows.nodes sound.node_numbers (λ m row found. found)

  -- one of the nodes has a row
  row-of : (node : Node) → Contains (state_in w).nodes node → (e : Entry) × (lookup (nat_eq e.0) w.rows.nodes ≡ Some e.1) × (node_of w.rows.partitions e.1 ≡ node)
  row-of node there =
      let k = there.0 in
      let inside : k < length w.rows.nodes = subst (λ n. k < n) (length-map w.rows.nodes (λ (e : Entry). node_of w.rows.partitions e.1)) there.1 in
      let at = place-there w.rows.nodes k inside in (
        at.0,
        in-place (λ (e : Entry). lookup (nat_eq e.0) w.rows.nodes ≡ Some e.1) w.rows.nodes k at.0 each-found at.1,
        sym (get_or_from_slice_get (state_in w).nodes k (node_of w.rows.partitions at.0.1) node (slice_get-map (λ (e : Entry). node_of w.rows.partitions e.1) w.rows.nodes k ∙ ap (option_map (λ (e : Entry). node_of w.rows.partitions e.1)) at.1))
            ∙ there.2,
      )

  -- and is found by its name
  found-here : (node : Node) → Contains (state_in w).nodes node → node_named (state_in w) node.name ≡ Some node
  found-here node there =
      let its = row-of node there in
      ap (λ (m : Node). node_named (state_in w) m.name) (sym its.2) ∙ find-node w.rows sound its.0.0 its.0.1 its.1 ∙ ap (λ (m : Node). Some m) its.2

  pub not-gone : (node : Node) → Contains (state_in w).nodes node → node_named (state_in w) node.name ≡ None → ⊥
  not-gone node there none = none-some node (sym none ∙ found-here node there)

  pub is-here : (node : Node) → Contains (state_in w).nodes node → (n : ℕ) → IsNodeNamed w node.name n → IsNodeHere w node n
  is-here node there n it = record { row = it.row; found = it.found; is = same_Some (node_of w.rows.partitions it.row) node (sym it.named ∙ found-here node there) }

-- a node of a row with what is free on it
pub spot-told : (w : ClusterView) → IsSound w.rows → (n : ℕ) (row : NodeRow) → lookup (nat_eq n) w.rows.nodes ≡ Some row → (label : Label) (left : Resource) → label ≡ label_of w row.partition → left ≡ free_of w.rows n
    → record { node = record { name = row.name; label = label; size = row.size; stamp = row.stamp }; free = left } ≡ spot (state_in w) (node_of w.rows.partitions row)
spot-told w sound n row found label left label-is left-is =
    let free-is : left ≡ free (state_in w) (node_of w.rows.partitions row) = left-is ∙ sym (free-means w.rows sound n row found (stops_in w) (maxima_in w)) in
    λ i. record { node = record { name = row.name; label = label-is i; size = row.size; stamp = row.stamp }; free = free-is i }

-- whether the clock of a partition is spent
pub spent-told : (w : ClusterView) → IsSound w.rows → IsFor w.config w.rows → (label : Label) (p : ℕ) → IsPartitionOf w label p → (spent : Bool)
    → IfSome (slice_get w.rows.partitions p) (λ part. spent ≡ nat_le part.limit part.clock) → spent ≡ is_spent w.config.labels (state_in w) label
spent-told w sound configured label p on spent read =
    let part = place-there w.rows.partitions p on.there in
    subst (λ (o : Option PartitionRow). IfSome o (λ part. spent ≡ nat_le part.limit part.clock)) part.1 read
    ∙ sym (spent-at w.rows sound p part.0 part.1 (stops_in w) (maxima_in w) w.config configured)
    ∙ ap (is_spent w.config.labels (state_in w)) (sym (own-label w.rows sound p part.0 part.1) ∙ on.own)

-- no master is counted where none is there
pub none-counted : {X : Type 0} (p : X → Bool) (xs : List X) → nat_eq (length (filter p xs)) 0 ≡ not (list_any p xs)
none-counted p xs = zero-test (length (filter p xs)) ∙ ap not (counted-some p xs)
  where
    zero-test : (n : ℕ) → nat_eq n 0 ≡ not (nat_lt 0 n)
    zero-test n = grind (arith, nat_tests)
