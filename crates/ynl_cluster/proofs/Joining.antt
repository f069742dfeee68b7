-- The parts of a cluster after a node joined.
use Rattle.std.proofs.Common.{◌≡◌, ℕ, ◌<◌, false, List, slice_get, nat_le, Some, None, sym, ap, subst, ◌∙◌, arith}
use Rattle.std.proofs.lemmas.Bool.Decides.{nat_tests}
use Rattle.ynl_resource.specs.Amounts.{IsSize}
use Rattle.ynl_resource.specs.Ranges.{most_nodes}
use Rattle.ynl_resource.specs.declared.amounts.Resource.{Resource}
use Rattle.ynl_resource.specs.declared.names.Name.{Name}
use Rattle.ynl_model.specs.Changes.{node_joins}
use Rattle.ynl_model.specs.Nodes.{is_full}
use Rattle.ynl_slots.specs.Slots.{IsUnused}
use Rattle.ynl_inventory.specs.Rows.{Rows, PartitionRow}
use Rattle.ynl_inventory.specs.Changes.{ticked, with_at, with_joined}
use Rattle.ynl_inventory.specs.Meaning.{node_number, state_of}
use Rattle.ynl_inventory.specs.Sound.{HasPartition, IsFor, IsJoinable, IsSound}
use Rattle.ynl_inventory.proofs.Finding.{own-label, unnamed}
use Rattle.ynl_inventory.proofs.Joining.{joined-for, joined-means, joined-sound}
use Rattle.ynl_inventory.proofs.Lookups.{place-there}
use Rattle.ynl_cluster.specs.declared.ledger.totals.Total.{Total}
use Rattle.ynl_cluster.specs.ledger.Totals.{grown, total_at, IsSmallTotal}
use Rattle.ynl_cluster.specs.ledger.Ledger.{total_in, uses_in, IsBounded}
use Rattle.ynl_cluster.proofs.ledger.Bounded.{joining as bounded-joining}
use Rattle.ynl_cluster.proofs.ledger.Calls.{grown-totals, small-total}
use Rattle.ynl_cluster.proofs.ledger.Ledger.{joining as ledger-joining}
use Rattle.ynl_cluster.proofs.ledger.Means.{totals-mean}
use Rattle.ynl_cluster.specs.seating.Seating.{AreSeated}
use Rattle.ynl_cluster.proofs.seating.RowChanges.{joined-seated}
use Rattle.ynl_cluster.specs.declared.cluster.Cluster.TheInside.{Inside}
use Rattle.ynl_cluster.specs.Cluster.{ClusterView, label_of, maxima_in, state_in, stops_in}
use Rattle.ynl_cluster.specs.Whole.{view_of, AreNumbered, AreParts, AskSizes, IsCluster}
use Rattle.ynl_cluster.proofs.Numbers.{numbers-at}

pub less-than : (m n : ℕ) → nat_le m n ≡ false → n < m
less-than m n h = grind (arith, nat_tests, h)

module _ (a : Inside) (is : IsCluster a) (w : ClusterView) (view : view_of a ≡ w) (p : ℕ) (has : HasPartition w.rows p) where
  abbrev v : Rows
  v = a.inventory.rows

  -- the partition is there
  pub has-before : HasPartition v p
  has-before = subst (λ (w : ClusterView). HasPartition w.rows p) (sym view) has

  -- its total is small enough for one node more
  pub small-before : IsSmallTotal (total_at a.totals p)
  small-before = small-total v a.totals is.parts.totals_are is.parts.sound is.parts.bounded p has-before

  -- no node has the name
  pub unnamed-before : (name : Name) → node_number name w.rows.nodes ≡ None → node_number name v.nodes ≡ None
  unnamed-before name = subst (λ (w : ClusterView). node_number name w.rows.nodes ≡ None) (sym view)

  own : (row : PartitionRow) × (slice_get v.partitions p ≡ Some row)
  own = place-there v.partitions p has-before

  -- there are fewer nodes than may be
  fewer : is_full (state_in w).nodes (label_of w p) ≡ false → (total_in v p).nodes < most_nodes
  fewer free =
      less-than most_nodes (total_in v p).nodes
      (sym (totals-mean v is.parts.sound p has-before (stops_in (view_of a)) (maxima_in (view_of a))).full
      ∙ ap (λ (w : ClusterView). is_full (state_in w).nodes (label_of w p)) view ∙ free)

  module _ (name : Name) (unknown : node_number name w.rows.nodes ≡ None) (size : Resource) (sized : IsSize size) (number : ℕ) (unused : IsUnused number v.nodes)
      (new : Rows) (rows : new ≡ with_joined number name p size v) where
    abbrev joinable : IsJoinable v number name p
    joinable = record { unused = unused; unnamed = unnamed name v.nodes (unnamed-before name unknown); partition = own.0; found = own.1 }

    many : AreNumbered (record v { partitions = with_at p (ticked (λ containers. containers)) v.partitions })
    many = numbers-at v p (ticked (λ containers. containers)) is.parts.numbers

    -- with totals that follow, the parts go together
    pub parts-after : is_full (state_in w).nodes (label_of w p) ≡ false → (totals : List Total) → totals ≡ with_at p (grown size) a.totals → AreParts a.config new a.uses totals a.lanes
    parts-after free totals made = record {
      configured = subst (IsFor a.config) (sym rows) (joined-for v is.parts.sound number name p size joinable a.config is.parts.configured);
      sound = subst IsSound (sym rows) (joined-sound v is.parts.sound number name p size joinable);
      bounded = subst IsBounded (sym rows) (bounded-joining v is.parts.sound is.parts.bounded number name p size unused sized (fewer free));
      sizes = subst AskSizes (sym rows) is.parts.sizes;
      numbers = subst AreNumbered (sym rows) (record { partitions = many.partitions; queues = many.queues });
      uses_are = is.parts.uses_are ∙ sym (ap uses_in rows ∙ (ledger-joining v number name p size).uses);
      totals_are = grown-totals v a.totals is.parts.totals_are number name p size totals made new rows;
      seated = subst (λ v. AreSeated v a.lanes) (sym rows) (joined-seated v number name p size has-before a.lanes is.parts.seated);
    }

    -- and the state is the model's
    pub state-after : state_of new (stops_in (view_of a)) (maxima_in (view_of a)) ≡ node_joins w.config name (label_of w p) size (state_in w)
    state-after =
        ap (λ (v : Rows). state_of v (stops_in (view_of a)) (maxima_in (view_of a))) rows
        ∙ joined-means v is.parts.sound number name p size joinable a.config is.parts.configured (stops_in (view_of a)) (maxima_in (view_of a))
        ∙ ap (λ label. node_joins a.config name label size (state_in (view_of a))) (sym (own-label v is.parts.sound p own.0 own.1))
        ∙ ap (λ (w : ClusterView). node_joins w.config name (label_of w p) size (state_in w)) view
