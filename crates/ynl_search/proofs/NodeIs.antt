-- What is known of a node that a search is for.
use Rattle.std.proofs.Common.{◌≡◌, ◌≤◌, ℕ, Bool, true, false, cond, nat_eq, List, [], ◌∷◌, length, filter, Some, ap, sym, subst, ◌∙◌, arith}
use Rattle.std.specs.Map.{lookup}
use Rattle.std.specs.Prelude.{IfSome, slice_get}
use Rattle.std.proofs.lemmas.Option.{same_Some}
use Rattle.std.specs.Option.{option_map_or}
use Rattle.ynl_resource.specs.declared.amounts.Resource.{Resource}
use Rattle.ynl_model.specs.declared.nodes.Node.{Node}
use Rattle.ynl_inventory.specs.Rows.{NodeRow}
use Rattle.ynl_model.specs.Cluster.{free}
use Rattle.ynl_inventory.specs.Meaning.{label_at, node_of}
use Rattle.ynl_inventory.specs.Parts.{Held, free_of}
use Rattle.ynl_inventory.specs.Sound.{HasPartition, IsSound}
use Rattle.ynl_cluster.specs.Cluster.{ClusterView, held_in, label_of, maxima_in, state_in, stops_in}
use Rattle.ynl_search.specs.Scenes.{IsNodeOf, no_node, node_at}
use Rattle.ynl_search.proofs.FreeMeans.{free-means}

module _ (w : ClusterView) (n p : ℕ) (room : Resource) (is : IsNodeOf w n p room) where
  pub node-is : node_at w n ≡ node_of w.rows.partitions is.row
  node-is = ap (λ o. option_map_or (node_of w.rows.partitions) o no_node) is.found

  pub label-is : (node_at w n).label ≡ label_of w p
  label-is = ap (λ (node : Node). node.label) node-is ∙ ap (label_at w.rows.partitions) is.partition

module _ (w : ClusterView) (sound : IsSound w.rows) (n : ℕ) (row : NodeRow) (at : lookup (nat_eq n) w.rows.nodes ≡ Some row) where
  pub row-is : node_at w n ≡ node_of w.rows.partitions row
  row-is = ap (λ o. option_map_or (node_of w.rows.partitions) o no_node) at

  pub free-at : (room : Resource) → room ≡ free_of w.rows n → room ≡ free (state_in w) (node_at w n)
  free-at room is = is ∙ sym (free-means w.rows sound n row at (stops_in w) (maxima_in w)) ∙ ap (free (state_in w)) (sym row-is)

  pub node-of : (p : ℕ) → row.partition ≡ p → (room : Resource) → room ≡ free_of w.rows n → IsNodeOf w n p room
  node-of p same room is = record {
    row = row;
    found = at;
    partition = same;
    has = subst (HasPartition w.rows) same (sound.nodes n row at);
    free_is = free-at room is;
  }

-- no more pass a test than there are
pub few-pass : {X : Type 0} (p : X → Bool) (xs : List X) → length (filter p xs) ≤ length xs
few-pass p [] = omega arith
few-pass {X = X} p (x ∷ xs) = go (p x) (few-pass p xs)
  where
    go : (b : Bool) → length (filter p xs) ≤ length xs → length (cond b (x ∷ filter p xs) (filter p xs)) ≤ length (x ∷ xs)
    go true h = omega (arith, h)
    go false h = omega (arith, h)

-- what is read of the partition of a node's row is what is read of the node's partition
pub read-there : (w : ClusterView) (n : ℕ) (h : Held) → h ≡ held_in w → (r : NodeRow) → lookup (nat_eq n) h.rows.nodes ≡ Some r → (result : Bool)
    → IfSome (slice_get h.rows.partitions r.partition) (λ partition. result ≡ partition.guests) → (row : NodeRow) → lookup (nat_eq n) w.rows.nodes ≡ Some row
    → IfSome (slice_get w.rows.partitions row.partition) (λ partition. result ≡ partition.guests)
read-there w n h is r at result read row found =
    let here : lookup (nat_eq n) w.rows.nodes ≡ Some r = ap (λ (h : Held). lookup (nat_eq n) h.rows.nodes) (sym is) ∙ at in
    subst (λ (row : NodeRow). IfSome (slice_get w.rows.partitions row.partition) (λ partition. result ≡ partition.guests)) (same_Some r row (sym here ∙ found))
    (subst (λ (h : Held). IfSome (slice_get h.rows.partitions r.partition) (λ partition. result ≡ partition.guests)) is read)
