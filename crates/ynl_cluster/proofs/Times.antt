-- The parts of a cluster after a clock or a stamp is set.
use Rattle.std.proofs.Common.{◌≡◌, ℕ, slice_get, Some, nat_eq, refl, sym, ap, subst, ◌∙◌}
use Rattle.std.specs.Map.{lookup}
use Rattle.ynl_resource.specs.declared.labels.Label.{Label}
use Rattle.ynl_model.specs.Cluster.{State, in_partition}
use Rattle.ynl_model.specs.Nodes.{stamped}
use Rattle.ynl_inventory.specs.Rows.{Rows, PartitionRow, NodeRow}
use Rattle.ynl_inventory.specs.Changes.{with_clock, with_stamp}
use Rattle.ynl_inventory.specs.Meaning.{state_of}
use Rattle.ynl_inventory.specs.Sound.{CanShow, HasPartition, IsFor, IsSound}
use Rattle.ynl_inventory.proofs.Finding.{own-label}
use Rattle.ynl_inventory.proofs.Lookups.{place-there}
use Rattle.ynl_inventory.proofs.Times.{clock-for, clock-means, stamp-for, stamp-means}
use Rattle.ynl_cluster.specs.ledger.Ledger.{totals_in, uses_in, IsBounded}
use Rattle.ynl_cluster.proofs.ledger.Bounded.{clocks as clock-bounded, stamps as stamp-bounded}
use Rattle.ynl_cluster.proofs.ledger.Ledger.{clocks as clock-ledger, stamps as stamp-ledger}
use Rattle.ynl_cluster.specs.seating.Seating.{AreSeated}
use Rattle.ynl_cluster.proofs.seating.RowChanges.{clock-seated, stamp-seated}
use Rattle.ynl_cluster.specs.declared.cluster.Cluster.TheInside.{Inside}
use Rattle.ynl_cluster.specs.Cluster.{ClusterView, label_of, maxima_in, state_in, stops_in}
use Rattle.ynl_cluster.specs.Whole.{view_of, AreNumbered, AreParts, AskSizes, IsCluster}
use Rattle.ynl_cluster.proofs.Numbers.{as-numbered, numbers-at}

module _ (a : Inside) (is : IsCluster a) (w : ClusterView) (view : view_of a ≡ w) where
  abbrev v : Rows
  v = a.inventory.rows

  module _ (p clock : ℕ) (has : HasPartition w.rows p) where
    pub has-before : HasPartition v p
    has-before = subst (λ (w : ClusterView). HasPartition w.rows p) (sym view) has

    pub can-before : CanShow w.rows p clock → CanShow v p clock
    can-before = subst (λ (w : ClusterView). CanShow w.rows p clock) (sym view)

    own : (row : PartitionRow) × (slice_get v.partitions p ≡ Some row)
    own = place-there v.partitions p has-before

    module _ (new : Rows) (rows : new ≡ with_clock p clock v) where
      -- the parts go together
      pub clock-parts : IsSound new → AreParts a.config new a.uses a.totals a.lanes
      clock-parts sound = record {
        configured = subst (IsFor a.config) (sym rows) (clock-for v p clock is.parts.sound own.0 own.1 a.config is.parts.configured);
        sound = sound;
        bounded = subst IsBounded (sym rows) (clock-bounded v is.parts.bounded p clock);
        sizes = subst AskSizes (sym rows) is.parts.sizes;
        numbers = subst AreNumbered (sym rows) (numbers-at v p (λ row. record row { clock = clock }) is.parts.numbers);
        uses_are = is.parts.uses_are ∙ sym (ap uses_in rows ∙ (clock-ledger v p clock).uses);
        totals_are = is.parts.totals_are ∙ sym (ap totals_in rows ∙ (clock-ledger v p clock).totals);
        seated = subst (λ v. AreSeated v a.lanes) (sym rows) (clock-seated v p clock has-before a.lanes is.parts.seated);
      }

      -- and the state is the model's
      pub clock-state : state_of new (stops_in (view_of a)) (maxima_in (view_of a))
          ≡ record (state_in w) { partitions = in_partition (label_of w p) (λ row. record row { clock = clock }) (state_in w).partitions }
      clock-state =
          ap (λ (v : Rows). state_of v (stops_in (view_of a)) (maxima_in (view_of a))) rows
          ∙ clock-means v p clock is.parts.sound own.0 own.1 (stops_in (view_of a)) (maxima_in (view_of a))
          ∙ ap (λ label. shown label (state_in (view_of a))) (sym (own-label v is.parts.sound p own.0 own.1))
          ∙ ap (λ (w : ClusterView). shown (label_of w p) (state_in w)) view
        where
          shown : Label → State → State
          shown label s = record s { partitions = in_partition label (λ row. record row { clock = clock }) s.partitions }

  module _ (node stamp : ℕ) (new : Rows) (rows : new ≡ with_stamp node stamp v) where
    -- the parts go together
    pub stamp-parts : IsSound new → AreParts a.config new a.uses a.totals a.lanes
    stamp-parts sound = record {
      configured = subst (IsFor a.config) (sym rows) (stamp-for v node stamp a.config is.parts.configured);
      sound = sound;
      bounded = subst IsBounded (sym rows) (stamp-bounded v is.parts.bounded node stamp);
      sizes = subst AskSizes (sym rows) is.parts.sizes;
      numbers = subst AreNumbered (sym rows) (as-numbered v (with_stamp node stamp v) refl refl is.parts.numbers);
      uses_are = is.parts.uses_are ∙ sym (ap uses_in rows ∙ (stamp-ledger v node stamp).uses);
      totals_are = is.parts.totals_are ∙ sym (ap totals_in rows ∙ (stamp-ledger v node stamp).totals);
      seated = subst (λ v. AreSeated v a.lanes) (sym rows) (stamp-seated v node stamp a.lanes is.parts.seated);
    }

    -- and the state is the model's
    pub stamp-state : (row : NodeRow) → lookup (nat_eq node) w.rows.nodes ≡ Some row
        → state_of new (stops_in (view_of a)) (maxima_in (view_of a)) ≡ record (state_in w) { nodes = stamped row.name (label_of w row.partition) stamp (state_in w).nodes }
    stamp-state row found =
        ap (λ (v : Rows). state_of v (stops_in (view_of a)) (maxima_in (view_of a))) rows
        ∙ stamp-means v node stamp is.parts.sound row (ap (λ (w : ClusterView). lookup (nat_eq node) w.rows.nodes) view ∙ found) (stops_in (view_of a)) (maxima_in (view_of a))
        ∙ ap (λ (w : ClusterView). record (state_in w) { nodes = stamped row.name (label_of w row.partition) stamp (state_in w).nodes }) view
