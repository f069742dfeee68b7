use Rattle.std.proofs.Common.{◌≡◌, ℕ, Bool, nat_eq, slice_get, Some, sym, subst, ◌∙◌}
use Rattle.std.specs.Prelude.{IfSome, nat_le}
use Rattle.std.specs.Map.{lookup}
use Rattle.ynl_inventory.specs.Parts.{Held, node_row}
use Rattle.ynl_inventory.specs.Rows.{NodeRow, PartitionRow}
use Rattle.ynl_cluster.specs.Cluster.{ClusterView, held_in}
use Rattle.ynl_inventory.specs.Sound.{IsSound}
use Rattle.ynl_service.proofs.Going.{place-there}
use Rattle.ynl_service.proofs.Nexts.{can-of, next-of, spent-next}
use Rattle.ynl_service.proofs.serving.next.Goals as goal

-- the node's row and its partition's, in the rows of a cluster, and whether the clock is spent
record IsTested (w : ClusterView) (n : ℕ) (spent : Bool) : Type 0 where
  pub row : NodeRow
  pub found : lookup (nat_eq n) w.rows.nodes ≡ Some row
  pub part : PartitionRow
  pub at : slice_get w.rows.partitions row.partition ≡ Some part
  pub is : spent ≡ nat_le part.limit part.clock

tested : (w : ClusterView) (h : Held) → h ≡ held_in w → IsSound w.rows → (n : ℕ) (row : NodeRow) → lookup (nat_eq n) h.rows.nodes ≡ Some row
    → (spent : Bool) → IfSome (slice_get h.rows.partitions row.partition) (λ part. spent ≡ nat_le part.limit part.clock) → IsTested w n spent
tested w h value sound n row found spent is =
    let here : lookup (nat_eq n) w.rows.nodes ≡ Some row = subst (λ (h : Held). lookup (nat_eq n) h.rows.nodes ≡ Some row) value found in
    let at = place-there w.rows.partitions row.partition (sound.nodes n row here) in
    record {
      row = row;
      found = here;
      part = at.0;
      at = at.1;
      is = subst (λ o. IfSome o (λ (part : PartitionRow). spent ≡ nat_le part.limit part.clock)) at.1 (subst (λ (h : Held). IfSome (slice_get h.rows.partitions row.partition) (λ part. spent ≡ nat_le part.limit part.clock)) value is);
    }

pub returns-then-is_spent-clause-next : goal.returns-then-is_spent-clause-next
returns-then-is_spent-clause-next c =
    let t = tested c.args.cluster.now c.inventory-inventory.result.now c.inventory-inventory.ensures.value c.inventory-inventory.ensures.sound c.args.node (node_row c.node.result.now) c.node.ensures c.is_spent.result c.is_spent.ensures in
    spent-next c.args.cluster.now c.inventory-inventory.ensures.sound c.inventory-inventory.ensures.configured c.args.node t.row t.found t.part t.at (sym t.is ∙ c.if-is_spent.true)

pub returns-clause-next : goal.returns-clause-next
returns-clause-next c =
    let t = tested c.args.cluster.now c.inventory-inventory.result.now c.inventory-inventory.ensures.value c.inventory-inventory.ensures.sound c.args.node (node_row c.node.result.now) c.node.ensures c.is_spent.result c.is_spent.ensures in
    next-of c.args.cluster.now c.inventory-inventory.ensures.sound c.inventory-inventory.ensures.configured c.args.node t.row t.found t.part t.at (sym t.is ∙ c.if-is_spent.false) c.choose.result c.choose.ensures.choice

pub returns-clause-can : goal.returns-clause-can
returns-clause-can c =
    let t = tested c.args.cluster.now c.inventory-inventory.result.now c.inventory-inventory.ensures.value c.inventory-inventory.ensures.sound c.args.node (node_row c.node.result.now) c.node.ensures c.is_spent.result c.is_spent.ensures in
    can-of c.args.cluster.now c.inventory-inventory.ensures.sound c.inventory-inventory.ensures.configured c.args.node t.row t.found t.part t.at (sym t.is ∙ c.if-is_spent.false) c.choose.result c.choose.ensures.placed
