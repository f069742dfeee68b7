-- How totals change with the rows.
use Rattle.std.proofs.Common.{◌≡◌, ℕ, ◌+◌, Bool, true, false, cond, nat_eq, List, [], ◌∷◌, ◌++◌, map, filter, length, Some, refl, sym, ap, ◌∙◌}
use Rattle.std.specs.Map.{lookup}
use Rattle.std.proofs.lemmas.List.{length-map}
use Rattle.ynl_resource.specs.Amounts.{plus, total_of}
use Rattle.ynl_resource.specs.declared.amounts.Resource.{Resource}
use Rattle.ynl_resource.specs.declared.names.Name.{Name}
use Rattle.ynl_laws.proofs.Amounts.{total-map}
use Rattle.ynl_laws.proofs.Lists.{filter-map}
use Rattle.ynl_laws.proofs.Totals.Inserted.{Inserted, inserted-filter, inserted-length, inserted-total}
use Rattle.ynl_slots.specs.Slots.{without}
use Rattle.ynl_slots.proofs.Entries.{itself, other}
use Rattle.ynl_tables.specs.apps.Apps.{with_change}
use Rattle.ynl_inventory.specs.Rows.{Rows, PartitionRow, NodeRow, AppRow}
use Rattle.ynl_inventory.specs.Changes.{next_clock_at, ticked, with_at, with_joined, with_node_gone, with_stamp}
use Rattle.ynl_inventory.specs.Sound.{IsSound}
use Rattle.ynl_inventory.proofs.Lookups.{map-changed}
use Rattle.ynl_cluster.specs.declared.ledger.totals.Total.{Total}
use Rattle.ynl_cluster.specs.ledger.Totals.{grown, shrunk}
use Rattle.ynl_cluster.specs.ledger.Ledger.{nodes_on, total_in, total_of_nodes, totals_in}
use Rattle.ynl_cluster.proofs.ledger.Places.{at-none, by_place-changed, by_place-same}
use Rattle.ynl_cluster.proofs.ledger.Raising.{less-plus, one_less}
use Rattle.ynl_cluster.proofs.ledger.Uses.{inserted-last, inserted-number}

-- ---- nodes of a partition

-- the partition and the size of a node
abbrev pair : NodeRow → ℕ × Resource
pair row = (row.partition, row.size)

-- what a partition comes to, of such pairs
abbrev total_of_pairs : ℕ → List (ℕ × Resource) → Total
total_of_pairs p pairs = record { amount = total_of (λ r. r.1) (filter (λ r. nat_eq r.0 p) pairs); nodes = length (filter (λ r. nat_eq r.0 p) pairs) }

-- what the nodes of a partition come to is told by their partitions and sizes
total-pairs : (p : ℕ) (es : List (ℕ × NodeRow)) → total_of_pairs p (map (λ e. pair e.1) es) ≡ total_of_nodes (nodes_on p es)
total-pairs p es = λ i. record { amount = amount i; nodes = nodes i }
  where
    those : filter (λ (r : ℕ × Resource). nat_eq r.0 p) (map (λ (e : ℕ × NodeRow). pair e.1) es) ≡ map (λ (e : ℕ × NodeRow). pair e.1) (nodes_on p es)
    those = filter-map (λ (e : ℕ × NodeRow). pair e.1) (λ (r : ℕ × Resource). nat_eq r.0 p) es

    amount : total_of (λ (r : ℕ × Resource). r.1) (filter (λ (r : ℕ × Resource). nat_eq r.0 p) (map (λ (e : ℕ × NodeRow). pair e.1) es)) ≡ total_of (λ (e : ℕ × NodeRow). e.1.size) (nodes_on p es)
    amount = ap (total_of (λ (r : ℕ × Resource). r.1)) those ∙ total-map (λ (r : ℕ × Resource). r.1) (λ (e : ℕ × NodeRow). pair e.1) (nodes_on p es)

    nodes : length (filter (λ (r : ℕ × Resource). nat_eq r.0 p) (map (λ (e : ℕ × NodeRow). pair e.1) es)) ≡ length (nodes_on p es)
    nodes = ap length those ∙ length-map (nodes_on p es) (λ (e : ℕ × NodeRow). pair e.1)

-- so a stamp does not change it
pub total-stamped : (p n stamp : ℕ) (es : List (ℕ × NodeRow)) → total_of_nodes (nodes_on p (with_change n (λ row. record row { stamp = stamp }) es)) ≡ total_of_nodes (nodes_on p es)
total-stamped p n stamp es =
    sym (total-pairs p (with_change n (λ row. record row { stamp = stamp }) es)) ∙ ap (total_of_pairs p) (map-changed pair n (λ row. record row { stamp = stamp }) (λ row. refl) es) ∙ total-pairs p es

-- one node more
pub total-more : (p : ℕ) (e : ℕ × NodeRow) (more fewer : List (ℕ × NodeRow)) → Inserted true e more fewer
    → total_of_nodes (nodes_on p more) ≡ cond (nat_eq e.1.partition p) (grown e.1.size (total_of_nodes (nodes_on p fewer))) (total_of_nodes (nodes_on p fewer))
total-more p e more fewer one =
    go (nat_eq e.1.partition p) (total_of_nodes (nodes_on p more)) (total_of_nodes (nodes_on p fewer))
    (inserted-total (λ (e : ℕ × NodeRow). e.1.size) _ e _ _ its) (inserted-length _ e _ _ its)
  where
    its : Inserted (nat_eq e.1.partition p) e (nodes_on p more) (nodes_on p fewer)
    its = inserted-filter (λ e. nat_eq e.1.partition p) true e more fewer one

    go : (b : Bool) (t u : Total) → t.amount ≡ cond b (plus u.amount e.1.size) u.amount → t.nodes ≡ cond b (u.nodes + 1) u.nodes → t ≡ cond b (grown e.1.size u) u
    go true t u amount nodes = λ i. record { amount = amount i; nodes = nodes i }
    go false t u amount nodes = λ i. record { amount = amount i; nodes = nodes i }

shrunk-grown : (size : Resource) (t : Total) → shrunk size (grown size t) ≡ t
shrunk-grown size t = λ i. record { amount = less-plus t.amount size i; nodes = one_less t.nodes i }

-- ---- totals

-- a change of partitions that leaves the nodes leaves all totals
totals-kept : (v : Rows) (p : ℕ) (change : PartitionRow → PartitionRow) (nodes : List (ℕ × NodeRow)) (apps : List (ℕ × AppRow)) → ((q : ℕ) → total_of_nodes (nodes_on q nodes) ≡ total_in v q)
    → totals_in (record v { partitions = with_at p change v.partitions; nodes = nodes; apps = apps }) ≡ totals_in v
totals-kept v p change nodes apps same =
    by_place-changed (λ q row. total_in v q) (λ q row. total_of_nodes (nodes_on q nodes)) (λ t. t) p change v.partitions (λ q row at apart. same q) (λ row at. same p) ∙ at-none p (totals_in v)

-- clocks, stamps and containers do not change them
pub changed-totals : (v : Rows) (p : ℕ) (change : PartitionRow → PartitionRow) (node stamp : ℕ) (apps : List (ℕ × AppRow))
    → totals_in (record v { partitions = with_at p change v.partitions; nodes = with_change node (λ row. record row { stamp = stamp }) v.nodes; apps = apps }) ≡ totals_in v
changed-totals v p change node stamp apps =
    totals-kept v p change (with_change node (λ row. record row { stamp = stamp }) v.nodes) apps (λ q. total-stamped q node stamp v.nodes)

pub dropped-totals : (v : Rows) (p : ℕ) (change : PartitionRow → PartitionRow) → totals_in (record v { partitions = with_at p change v.partitions }) ≡ totals_in v
dropped-totals v p change = totals-kept v p change v.nodes v.apps (λ q. refl)

-- a stamp does not either
pub stamp-totals : (v : Rows) (node stamp : ℕ) → totals_in (with_stamp node stamp v) ≡ totals_in v
stamp-totals v node stamp = by_place-same (λ q row. total_in v q) (λ q row. total_in (with_stamp node stamp v) q) v.partitions (λ q row at. total-stamped q node stamp v.nodes)

-- a node joins
pub joined-totals : (v : Rows) (number : ℕ) (name : Name) (p : ℕ) (size : Resource) → totals_in (with_joined number name p size v) ≡ with_at p (grown size) (totals_in v)
joined-totals v number name p size =
    by_place-changed (λ q row. total_in v q) (λ q row. total_of_nodes (nodes_on q (v.nodes ++ e ∷ []))) (grown size) p (ticked (λ es. es)) v.partitions
    (λ q row at apart. is q ∙ ap (λ b. cond b (grown size (total_in v q)) (total_in v q)) (other p q (λ same. apart (sym same))))
    (λ row at. is p ∙ ap (λ b. cond b (grown size (total_in v p)) (total_in v p)) (itself p))
  where
    e : ℕ × NodeRow
    e = (number, record { name = name; partition = p; size = size; stamp = next_clock_at v.partitions p })

    is : (q : ℕ) → total_of_nodes (nodes_on q (v.nodes ++ e ∷ [])) ≡ cond (nat_eq p q) (grown size (total_in v q)) (total_in v q)
    is q = total-more q e (v.nodes ++ e ∷ []) v.nodes (inserted-last v.nodes e)

-- a node leaves
pub total-left : (v : Rows) → IsSound v → (node : ℕ) (row : NodeRow) → lookup (nat_eq node) v.nodes ≡ Some row → (q : ℕ)
    → total_in v q ≡ cond (nat_eq row.partition q) (grown row.size (total_of_nodes (nodes_on q (without node v.nodes)))) (total_of_nodes (nodes_on q (without node v.nodes)))
total-left v sound node row found q = total-more q (node, row) v.nodes (without node v.nodes) (inserted-number node row v.nodes sound.node_numbers found)

pub left-totals : (v : Rows) → IsSound v → (node : ℕ) (row : NodeRow) → lookup (nat_eq node) v.nodes ≡ Some row → totals_in (with_node_gone node v) ≡ with_at row.partition (shrunk row.size) (totals_in v)
left-totals v sound node row found =
    sym (ap (λ rows. totals_in (record v { partitions = rows; nodes = without node v.nodes })) (at-none row.partition v.partitions))
    ∙ by_place-changed (λ q r. total_in v q) (λ q r. left q) (shrunk row.size) row.partition (λ r. r) v.partitions
    (λ q r at apart. sym (total-left v sound node row found q ∙ ap (λ b. cond b (grown row.size (left q)) (left q)) (other row.partition q (λ same. apart (sym same)))))
    (λ r at.
    sym (ap (shrunk row.size) (total-left v sound node row found row.partition ∙ ap (λ b. cond b (grown row.size (left row.partition)) (left row.partition)) (itself row.partition)) ∙ shrunk-grown row.size (left row.partition)))
  where
    left : ℕ → Total
    left q = total_of_nodes (nodes_on q (without node v.nodes))
