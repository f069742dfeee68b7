-- The parts of a cluster after a node moved to another partition.
use Rattle.std.proofs.Common.{◌≡◌, ◌≢◌, ℕ, ◌<◌, true, false, cond, not, filter, List, length, nat_eq, Option, None, Some, refl, sym, ap, subst, ◌∙◌, arith}
use Rattle.std.specs.Prelude.{IfSome}
use Rattle.std.specs.Map.{lookup}
use Rattle.std.specs.Option.{option_map_or}
use Rattle.std.proofs.lemmas.Bool.Decides.{nat_tests}
use Rattle.ynl_resource.specs.Amounts.{IsSize}
use Rattle.ynl_resource.specs.Ranges.{most_nodes}
use Rattle.ynl_model.specs.Changes.{node_joins, node_leaves}
use Rattle.ynl_model.specs.Nodes.{is_full}
use Rattle.ynl_slots.specs.Slots.{without, IsLive, IsUnused}
use Rattle.ynl_inventory.specs.Rows.{Rows, PartitionRow, NodeRow}
use Rattle.ynl_inventory.specs.Changes.{partition_of_node, ticked, with_at, with_joined, with_left, with_node_gone}
use Rattle.ynl_inventory.specs.Meaning.{node_of}
use Rattle.ynl_inventory.specs.Parts.{Held}
use Rattle.ynl_inventory.specs.Sound.{HasNoContainers, HasPartition, IsFor, IsSound}
use Rattle.ynl_inventory.proofs.Dropping.{gone-left}
use Rattle.ynl_inventory.proofs.Lookups.{length-at, live-found}
use Rattle.ynl_inventory.proofs.Relabel.{relabelled-for, relabelled-means, relabelled-sound}
use Rattle.ynl_cluster.specs.declared.ledger.totals.Total.{Total}
use Rattle.ynl_cluster.specs.ledger.Totals.{grown, shrunk, total_at, IsSmallTotal}
use Rattle.ynl_cluster.specs.ledger.Ledger.{nodes_on, total_in, total_of_nodes, uses_in, IsBounded}
use Rattle.ynl_cluster.proofs.ledger.Bounded.{joining as bounded-joining}
use Rattle.ynl_cluster.proofs.ledger.Calls.{grown-totals, has-total, small-total}
use Rattle.ynl_cluster.proofs.ledger.Ledger.{joining as ledger-joining}
use Rattle.ynl_cluster.proofs.ledger.Means.{totals-mean}
use Rattle.ynl_cluster.proofs.ledger.Sums.{total-left}
use Rattle.ynl_cluster.specs.seating.Seating.{AreSeated}
use Rattle.ynl_cluster.proofs.seating.RowChanges.{joined-seated}
use Rattle.ynl_cluster.specs.declared.cluster.Cluster.TheInside.{Inside}
use Rattle.ynl_cluster.specs.Cluster.{ClusterView, label_of, maxima_in, state_in, stops_in}
use Rattle.ynl_cluster.specs.Leaving.{IsLeaving}
use Rattle.ynl_cluster.specs.Whole.{view_of, AreNumbered, AreParts, AskSizes, IsCluster}
use Rattle.ynl_cluster.proofs.Joining.{less-than}
use Rattle.ynl_cluster.proofs.Leaving.{empty-before, parts-after as left-parts}
use Rattle.ynl_cluster.proofs.Numbers.{numbers-at}

-- the row of a node that is there
pub row-there : (w : ClusterView) (node : ℕ) → IsLive node w.rows.nodes → (row : NodeRow) × (lookup (nat_eq node) w.rows.nodes ≡ Some row)
row-there w node = live-found node w.rows.nodes

module _ (a : Inside) (is : IsCluster a) (w : ClusterView) (view : view_of a ≡ w) (node : ℕ) (empty : HasNoContainers w.rows node) (p : ℕ) (has : HasPartition w.rows p)
    (few : (total_in w.rows p).nodes < most_nodes) (other : p ≢ partition_of_node w.rows.nodes node)
    (row : NodeRow) (found : lookup (nat_eq node) a.inventory.rows.nodes ≡ Some row) (sized : IsSize row.size)
    (taken : List Total) (took : taken ≡ with_at row.partition (shrunk row.size) a.totals) where
  abbrev v : Rows
  v = a.inventory.rows

  abbrev gone : Rows
  gone = with_node_gone node v

  -- the partition is there
  pub has-before : HasPartition v p
  has-before = subst (λ (w : ClusterView). HasPartition w.rows p) (sym view) has

  none : HasNoContainers v node
  none = empty-before a is w view node empty

  -- without the node the parts go together
  left : AreParts a.config gone a.uses taken a.lanes
  left = left-parts a is w view node empty row found gone refl taken took

  pub total-there : p < length taken
  total-there = has-total gone taken left.totals_are p has-before

  pub total-small : IsSmallTotal (total_at taken p)
  total-small = small-total gone taken left.totals_are left.sound left.bounded p has-before

  -- as many nodes are on the other partition
  apart : nat_eq row.partition p ≡ false
  apart =
      let stands : row.partition ≡ partition_of_node w.rows.nodes node =
      sym (ap (λ o. option_map_or (λ (r : NodeRow). r.partition) o 0) found) ∙ ap (λ (w : ClusterView). partition_of_node w.rows.nodes node) view in
      let off : row.partition ≢ p = λ same. other (sym same ∙ stands) in
      grind (arith, nat_tests, off)

  fewer : (total_in gone p).nodes < most_nodes
  fewer =
      subst (λ (t : Total). t.nodes < most_nodes)
      (total-left v is.parts.sound node row found p ∙ ap (λ b. cond b (grown row.size (total_of_nodes (nodes_on p (without node v.nodes)))) (total_of_nodes (nodes_on p (without node v.nodes)))) apart)
      (subst (λ (w : ClusterView). (total_in w.rows p).nodes < most_nodes) (sym view) few)

  module _ (number : ℕ) (free : IsUnused number (without node w.rows.nodes)) (new : Rows) (rows : new ≡ with_joined number row.name p row.size gone) where
    unused : IsUnused number (without node v.nodes)
    unused = subst (λ (w : ClusterView). IsUnused number (without node w.rows.nodes)) (sym view) free

    all : new ≡ with_joined number row.name p row.size (with_left node v)
    all = rows ∙ ap (with_joined number row.name p row.size) (sym (gone-left v node none))

    many : AreNumbered (record gone { partitions = with_at p (ticked (λ containers. containers)) gone.partitions })
    many = numbers-at gone p (ticked (λ containers. containers)) left.numbers

    -- with totals that follow, the parts go together
    pub parts-after : (totals : List Total) → totals ≡ with_at p (grown row.size) taken → AreParts a.config new a.uses totals a.lanes
    parts-after totals made = record {
      configured = subst (IsFor a.config) (sym all) (relabelled-for v is.parts.sound node row found number p unused has-before a.config is.parts.configured);
      sound = subst IsSound (sym all) (relabelled-sound v is.parts.sound node row found number p unused has-before);
      bounded = subst IsBounded (sym rows) (bounded-joining gone left.sound left.bounded number row.name p row.size unused sized fewer);
      sizes = subst AskSizes (sym rows) left.sizes;
      numbers = subst AreNumbered (sym rows) (record { partitions = many.partitions; queues = many.queues });
      uses_are = left.uses_are ∙ sym (ap uses_in rows ∙ (ledger-joining gone number row.name p row.size).uses);
      totals_are = grown-totals gone taken left.totals_are number row.name p row.size totals made new rows;
      seated = subst (λ v. AreSeated v a.lanes) (sym rows) (joined-seated gone number row.name p row.size has-before a.lanes left.seated);
    }

-- what holds of the row that is found holds of the row
pub at-row : (P : NodeRow → Type 0) (node : ℕ) (nodes : List (ℕ × NodeRow)) (row : NodeRow) → lookup (nat_eq node) nodes ≡ Some row → IfSome (lookup (nat_eq node) nodes) P → P row
at-row P node nodes row found some = subst (λ o. IfSome o P) found some

-- what a contract sees of the rows
pub moved-view : (a : Inside) (w : ClusterView) → view_of a ≡ w → (node p number : ℕ) (h : Held)
    → IfSome (lookup (nat_eq node) a.inventory.rows.nodes) (λ row. h ≡ record a.inventory { rows = with_joined number row.name p row.size (with_node_gone node a.inventory.rows); ready = false })
    → IfSome (lookup (nat_eq node) w.rows.nodes) (λ row. record (view_of a) { rows = h.rows; rooms = h.rooms; ready = h.ready } ≡ record w { rows = with_joined number row.name p row.size (with_node_gone node w.rows); ready = false })
moved-view a w view node p number h some =
    subst
    (λ (w : ClusterView). IfSome (lookup (nat_eq node) w.rows.nodes) (λ row. record (view_of a) { rows = h.rows; rooms = h.rooms; ready = h.ready } ≡ record w { rows = with_joined number row.name p row.size (with_node_gone node w.rows); ready = false })) view
    (go (lookup (nat_eq node) a.inventory.rows.nodes) some)
  where
    go : (o : Option NodeRow) → IfSome o (λ row. h ≡ record a.inventory { rows = with_joined number row.name p row.size (with_node_gone node a.inventory.rows); ready = false })
        → IfSome o (λ row. record (view_of a) { rows = h.rows; rooms = h.rooms; ready = h.ready } ≡ record (view_of a) { rows = with_joined number row.name p row.size (with_node_gone node a.inventory.rows); ready = false })
    go None k = tt
    go (Some row) k = ap (λ (h : Held). record (view_of a) { rows = h.rows; rooms = h.rooms; ready = h.ready }) k

-- ---- its containers go first

-- a partition without the node's containers
abbrev emptied-of : ℕ → PartitionRow → PartitionRow
emptied-of node row = record row { containers = filter (λ e. not (nat_eq e.1.node node)) row.containers }

module _ (node p number : ℕ) (old mid after : ClusterView) (row : NodeRow) (found : lookup (nat_eq node) old.rows.nodes ≡ Some row) (leaving : IsLeaving node row.partition (record old { ready = true }) mid)
    (none : HasNoContainers mid.rows node)
    (moved : IfSome (lookup (nat_eq node) mid.rows.nodes) (λ row. after ≡ record mid { rows = with_joined number row.name p row.size (with_node_gone node mid.rows); ready = false })) where
  found-there : lookup (nat_eq node) mid.rows.nodes ≡ Some row
  found-there = ap (lookup (nat_eq node)) leaving.nodes ∙ found

  is : after ≡ record mid { rows = with_joined number row.name p row.size (with_node_gone node mid.rows); ready = false }
  is = subst (λ o. IfSome o (λ (row : NodeRow). after ≡ record mid { rows = with_joined number row.name p row.size (with_node_gone node mid.rows); ready = false })) found-there moved

  emptied : with_node_gone node mid.rows ≡ with_left node old.rows
  emptied = sym (gone-left mid.rows node none) ∙ leaving.left

  -- the rows that a contract sees
  pub moved-rows : after ≡ record old { rows = with_joined number row.name p row.size (with_left node old.rows); rooms = after.rooms; ready = false }
  moved-rows =
      is ∙ (λ i. record (leaving.same i) { rows = with_joined number row.name p row.size (emptied i); rooms = (sym is i).rooms; ready = false })

  -- and the state is the model's
  pub moved-state : IsSound old.rows → IsFor old.config old.rows → IsUnused number (without node old.rows.nodes) → HasPartition old.rows p
      → state_in after ≡ node_joins old.config row.name (label_of old p) row.size (node_leaves (node_of old.rows.partitions row) (state_in old))
  moved-state sound configured unused has =
      ap state_in moved-rows ∙ relabelled-means old.rows sound node row found number p unused has old.config configured (stops_in old) (maxima_in old)

-- the number is none of the others' before either
pub unused-before : (node number : ℕ) (old mid : ClusterView) (p : ℕ) → IsLeaving node p (record old { ready = true }) mid → IsUnused number (without node mid.rows.nodes) → IsUnused number (without node old.rows.nodes)
unused-before node number old mid p leaving = subst (λ nodes. IsUnused number (without node nodes)) leaving.nodes

-- what is known where its containers went after room was reserved
pub cleared : (node : ℕ) (old ready mid : ClusterView) → ready ≡ record old { ready = true }
    → ((row : NodeRow) → lookup (nat_eq node) ready.rows.nodes ≡ Some row → IsLeaving node row.partition ready mid)
    → (row : NodeRow) → lookup (nat_eq node) old.rows.nodes ≡ Some row → IsLeaving node row.partition (record old { ready = true }) mid
cleared node old ready mid is left = subst (λ (w : ClusterView). (row : NodeRow) → lookup (nat_eq node) w.rows.nodes ≡ Some row → IsLeaving node row.partition w mid) is left

-- partitions stay
pub still-has : (node p q : ℕ) (old mid : ClusterView) → IsLeaving node q (record old { ready = true }) mid → HasPartition old.rows p → HasPartition mid.rows p
still-has node p q old mid leaving has =
    subst (λ (n : ℕ). p < n)
    (sym (length-at (partition_of_node old.rows.nodes node) (emptied-of node) old.rows.partitions)
    ∙ sym (ap (λ (v : Rows). length v.partitions) leaving.left)
    ∙ length-at (partition_of_node mid.rows.nodes node) (emptied-of node) mid.rows.partitions)
    has

-- a partition that is not full has fewer nodes than may be
pub few-nodes : (w : ClusterView) → IsSound w.rows → (p : ℕ) → HasPartition w.rows p → is_full (state_in w).nodes (label_of w p) ≡ false → (total_in w.rows p).nodes < most_nodes
few-nodes w sound p has free = less-than most_nodes (total_in w.rows p).nodes (sym (totals-mean w.rows sound p has (stops_in w) (maxima_in w)).full ∙ free)
