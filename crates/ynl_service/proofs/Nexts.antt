-- What is next on a node.
use Rattle.std.proofs.Common.{◌≡◌, ℕ, true, false, cond, nat_eq, slice_get, Option, None, Some, sym, ap, ◌∙◌, arith}
use Rattle.std.specs.Prelude.{IfSome, nat_le}
use Rattle.std.specs.Map.{lookup}
use Rattle.std.specs.Option.{option_map_or}
use Rattle.std.proofs.lemmas.Bool.Decides.{nat_tests}
use Rattle.std.proofs.lemmas.Option.{same_Some}
use Rattle.ynl_model.specs.declared.nodes.Node.{Node}
use Rattle.ynl_model.specs.Nodes.{clock_limit}
use Rattle.ynl_model.specs.Cluster.{clock, is_spent}
use Rattle.ynl_model.specs.Service.{choice}
use Rattle.ynl_inventory.specs.Rows.{NodeRow, PartitionRow}
use Rattle.ynl_inventory.specs.Meaning.{node_of}
use Rattle.ynl_inventory.specs.Sound.{IsFor, IsSound}
use Rattle.ynl_inventory.proofs.Finding.{clock-at, limit-at, own-label}
use Rattle.ynl_cluster.specs.Cluster.{ClusterView, maxima_in, state_in, stops_in}
use Rattle.ynl_search.specs.declared.found.Found.{Found}
use Rattle.ynl_search.specs.Choosing.{IsChosen, MayBePlaced}
use Rattle.ynl_service.specs.Serving.{CanBePlaced, IsNext, IsNode}

module _ (w : ClusterView) (sound : IsSound w.rows) (is : IsFor w.config w.rows) (n : ℕ) (row : NodeRow) (found : lookup (nat_eq n) w.rows.nodes ≡ Some row)
    (part : PartitionRow) (at : slice_get w.rows.partitions row.partition ≡ Some part) where
  -- the node of the number
  node-is : (node : Node) → IsNode w n node → node_of w.rows.partitions row ≡ node
  node-is node h = ap (node_of w.rows.partitions) (same_Some row h.row (sym found ∙ h.found)) ∙ h.is

  -- its partition's clock is spent where the row's stands at its limit
  pub spent-is : (node : Node) → IsNode w n node → is_spent w.config.labels (state_in w) node.label ≡ nat_le part.limit part.clock
  unfolding is_spent
  spent-is node h =
      ap (λ (m : Node). is_spent w.config.labels (state_in w) m.label) (sym (node-is node h))
      ∙ ap (λ l. nat_le (clock_limit w.config.labels l) (clock (state_in w) l)) (own-label w.rows sound row.partition part at)
      ∙ (λ i. nat_le (limit-at w.rows sound row.partition part at (stops_in w) (maxima_in w) w.config is i) (clock-at w.rows sound row.partition part at (stops_in w) (maxima_in w) i))

  pub spent-next : nat_le part.limit part.clock ≡ true → IsNext w n None
  spent-next spent node h = ap (λ b. cond b None (choice w.config (state_in w) node)) (spent-is node h ∙ spent)

  pub next-of : nat_le part.limit part.clock ≡ false → (o : Option Found) → IsChosen w n o → IsNext w n o
  next-of fresh o chosen node h =
      ap (λ b. cond b None (choice w.config (state_in w) node)) (spent-is node h ∙ fresh)
      ∙ ap (choice w.config (state_in w)) (sym (node-is node h)) ∙ chosen row found

  pub can-of : nat_le part.limit part.clock ≡ false → (o : Option Found) → IfSome o (MayBePlaced w n) → IfSome o (CanBePlaced w n)
  can-of fresh None h = tt
  can-of fresh (Some f) h = record {
    placeable = h.placeable part (ap (slice_get w.rows.partitions) (ap (λ o. option_map_or (λ (r : NodeRow). r.partition) o 0) found) ∙ at) (grind (arith, nat_tests, fresh));
    fits = h.fits;
  }
