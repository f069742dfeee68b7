-- What the readers of a cluster find, and what that is in the model.
use Rattle.std.proofs.Common.{◌≡◌, ℕ, zero, suc, ◌-◌, ◌<◌, ◌≤◌, ◌^◌, Bool, false, not, List, [], ◌∷◌, length, map, get_or, slice_get, Some, nat_le, refl, sym, ap, subst, ◌∙◌, arith}
use Rattle.std.specs.Prelude.{slice_index_or}
use Rattle.std.specs.List.{AllByRecursion, list_any}
use Rattle.std.proofs.lemmas.List.{length-map}
use Rattle.std.proofs.lemmas.Option.{none-some, same_Some}
use Rattle.ynl_resource.specs.Amounts.{IsSmall}
use Rattle.ynl_resource.specs.Names.{root}
use Rattle.ynl_resource.specs.declared.amounts.Resource.{Resource}
use Rattle.ynl_resource.specs.declared.labels.Label.{Label}
use Rattle.ynl_resource.specs.declared.labels.Label.TheVariants.{Unlabelled}
use Rattle.ynl_resource.specs.declared.paths.Path.{Path}
use Rattle.ynl_model.specs.declared.uses.Use.{Use}
use Rattle.ynl_model.specs.Cluster.{guaranteed, maximum, total}
use Rattle.ynl_model.specs.Nodes.{is_full, nodes_of, partition_labels}
use Rattle.ynl_model.specs.Queues.{accepts, guaranteed as guaranteed_of, maximum as maximum_of}
use Rattle.ynl_laws.specs.Uses.{use_of}
use Rattle.ynl_laws.specs.Ways.{IsWay}
use Rattle.ynl_inventory.specs.layout.Paths.{HasNumber, IsLine, IsTree, is_above, path_at, paths_of}
use Rattle.ynl_inventory.specs.layout.settings.Shares.{capacity_at, maximum_at, reached, shares_on, HasCell, IsWayIn}
use Rattle.ynl_inventory.proofs.layout.settings.MaximaMean.{AreLabels}
use Rattle.ynl_inventory.proofs.layout.settings.SharesMean.{AreConfigured, IsBelowRoot, guaranteed-means, most-means}
use Rattle.ynl_inventory.proofs.layout.settings.StopsMean.{stops-mean}
use Rattle.ynl_cluster.specs.uses.Tallies.{AreSmall, HasPartition as HasUses, IsSmallUse, IsTotal}
use Rattle.ynl_inventory.specs.Rows.{Rows, PartitionRow}
use Rattle.ynl_inventory.specs.Meaning.{label_at}
use Rattle.ynl_inventory.specs.Sound.{HasPartition}
use Rattle.ynl_cluster.specs.declared.ledger.totals.Total.{Total}
use Rattle.ynl_cluster.specs.ledger.Ledger.{total_in, use_by, uses_in}
use Rattle.ynl_cluster.specs.ledger.Meaning.{IsTotalOf}
use Rattle.ynl_cluster.specs.ledger.Totals.{total_at}
use Rattle.ynl_cluster.proofs.ledger.Calls.{has-total, has-uses, total-is}
use Rattle.ynl_cluster.proofs.ledger.Means.{listed, totals-mean, uses-mean}
use Rattle.ynl_cluster.proofs.ledger.Small.{total-small, uses-small}
use Rattle.ynl_cluster.specs.declared.cluster.Cluster.TheInside.{Inside}
use Rattle.ynl_cluster.specs.Cluster.{ClusterView, label_of, maxima_in, path_of, state_in, stops_in, IsCell}
use Rattle.ynl_cluster.specs.Whole.{view_of, IsCluster}
use Rattle.ynl_cluster.proofs.Lines.{way-below}

-- the label of a partition is the one in its place
label-read : (rows : List PartitionRow) (p : ℕ) → label_at rows p ≡ get_or (map (λ row. row.label) rows) p Unlabelled
label-read [] p = refl
label-read (row ∷ rows) zero = refl
label-read (row ∷ rows) (suc p) = label-read rows p

-- a total is small
total-fits : (amount : Resource) → IsTotal amount → IsSmall amount
total-fits amount is =
    let memory : amount.memory < 2 ^ 48 = is.0 in
    let vcores : amount.vcores ≤ 2 ^ 32 = is.1 in
    (omega (arith, memory), omega (arith, vcores))

-- one of some uses that are small
small-in : (us : List Use) (q : ℕ) (u : Use) → AreSmall us → slice_get us q ≡ Some u → IsSmallUse u
small-in [] q u all found = absurd (none-some u found)
small-in (x ∷ us) zero u all found = subst IsSmallUse (same_Some x u found) all.0
small-in (x ∷ us) (suc q) u all found = small-in us q u all.1 found

module _ (a : Inside) (is : IsCluster a) (w : ClusterView) (view : view_of a ≡ w) where
  abbrev v : Rows
  v = a.inventory.rows

  -- the configured paths
  abbrev pub paths : List Path
  paths = paths_of a.config

  -- and labels
  abbrev pub labels : List Label
  labels = partition_labels a.config.labels

  there : (p : ℕ) → HasPartition w.rows p → HasPartition v p
  there p = subst (λ (w : ClusterView). HasPartition w.rows p) (sym view)

  pub number-there : (q : ℕ) → HasNumber w.rows.paths q → HasNumber v.paths q
  number-there q = subst (λ (w : ClusterView). HasNumber w.rows.paths q) (sym view)

  -- ---- uses

  pub uses-there : (p : ℕ) → HasPartition w.rows p → HasUses a.uses p
  uses-there p has = has-uses v a.uses is.parts.uses_are p (there p has)

  pub use-there : (p q : ℕ) → IsCell w p q → q < length (slice_index_or a.uses p [])
  use-there p q cell =
      subst (λ (us : List (List Use)). q < length (slice_index_or us p [])) (sym is.parts.uses_are)
      (subst (λ (n : ℕ). q < n) (sym ((listed v).queues p (there p cell.partition))) (number-there q cell.queue))

  -- what is used is what the model says
  pub use-means : (p q : ℕ) → IsCell w p q → (u : Use) → slice_get (slice_index_or a.uses p []) q ≡ Some u → u ≡ use_of (state_in w) (label_of w p) (path_of w q)
  use-means p q cell u found =
      same_Some u (use_by v p (path_at v.paths q) _)
      (sym found ∙ ap (λ us. slice_get (slice_index_or us p []) q) is.parts.uses_are ∙ (listed v).uses p q (there p cell.partition) (number-there q cell.queue))
      ∙ sym (uses-mean v is.parts.sound (stops_in (view_of a)) (maxima_in (view_of a)) p (there p cell.partition) (path_at v.paths q))
      ∙ ap (λ (w : ClusterView). use_of (state_in w) (label_of w p) (path_of w q)) view

  -- and small enough for one container more
  pub use-small : (p q : ℕ) (u : Use) → slice_get (slice_index_or a.uses p []) q ≡ Some u → IsSmallUse u
  use-small p q u found =
      small-in (slice_index_or (uses_in v) p []) q u (uses-small v is.parts.sound is.parts.bounded p)
      (ap (λ us. slice_get (slice_index_or us p []) q) (sym is.parts.uses_are) ∙ found)

  -- ---- totals

  module _ (p : ℕ) (has : HasPartition w.rows p) where
    pub total-there : p < length a.totals
    total-there = has-total v a.totals is.parts.totals_are p (there p has)

    told : IsTotalOf (state_in (view_of a)) (label_at v.partitions p) (total_in v p)
    told = totals-mean v is.parts.sound p (there p has) (stops_in (view_of a)) (maxima_in (view_of a))

    own : total_at a.totals p ≡ total_in v p
    own = total-is v a.totals is.parts.totals_are p (there p has)

    pub total-means : (amount : Resource) → amount ≡ (total_at a.totals p).amount → amount ≡ total (state_in w) (label_of w p)
    total-means amount read =
        read ∙ ap (λ (t : Total). t.amount) own ∙ sym told.amount ∙ ap (λ (w : ClusterView). total (state_in w) (label_of w p)) view

    pub nodes-mean : (count : ℕ) → count ≡ (total_at a.totals p).nodes → count ≡ length (nodes_of (state_in w).nodes (label_of w p))
    nodes-mean count read =
        read ∙ ap (λ (t : Total). t.nodes) own ∙ sym told.nodes ∙ ap (λ (w : ClusterView). length (nodes_of (state_in w).nodes (label_of w p))) view

    pub full-means : (count : ℕ) → count ≡ (total_at a.totals p).nodes → nat_le 65536 count ≡ is_full (state_in w).nodes (label_of w p)
    full-means count read =
        ap (nat_le 65536) (read ∙ ap (λ (t : Total). t.nodes) own) ∙ sym told.full ∙ ap (λ (w : ClusterView). is_full (state_in w).nodes (label_of w p)) view

    pub amount-total : (amount : Resource) → amount ≡ (total_at a.totals p).amount → IsTotal amount
    amount-total amount read = subst IsTotal (sym (read ∙ ap (λ (t : Total). t.amount) own)) (total-small v is.parts.sound is.parts.bounded p).amount

    pub amount-small : (amount : Resource) → amount ≡ (total_at a.totals p).amount → IsSmall amount
    amount-small amount read = total-fits amount (amount-total amount read)

  -- ---- the settings

  pub tree : IsTree paths
  tree = subst IsTree is.parts.configured.paths is.parts.sound.tree

  many : length v.partitions ≡ length labels
  many = sym (length-map v.partitions (λ (row : PartitionRow). row.label)) ∙ ap length is.parts.configured.labels

  pub label-is : (p : ℕ) → label_at v.partitions p ≡ get_or labels p Unlabelled
  label-is p = label-read v.partitions p ∙ ap (λ (ls : List Label). get_or ls p Unlabelled) is.parts.configured.labels

  pub in-labels : (p : ℕ) → HasPartition w.rows p → p < length labels
  in-labels p has = subst (λ (n : ℕ). p < n) many (there p has)

  pub in-paths : (q : ℕ) → HasNumber w.rows.paths q → HasNumber paths q
  in-paths q has = subst (λ (ps : List Path). HasNumber ps q) is.parts.configured.paths (number-there q has)

  -- no two partitions have one label
  pub labels-apart : AreLabels labels
  labels-apart = record {
    apart = λ p r inside within same.
        is.parts.sound.labels p r (subst (λ (n : ℕ). p < n) (sym many) inside) (subst (λ (n : ℕ). r < n) (sym many) within) (label-is p ∙ same ∙ sym (label-is r));
  }

  pub cell-there : (p q : ℕ) → IsCell w p q → HasCell a.shares p q
  cell-there p q cell = is.settings.cells p q (in-labels p cell.partition) (in-paths q cell.queue)

  module _ (layout : List Path) (layout-is : layout ≡ v.paths) where
    all-paths : layout ≡ paths
    all-paths = layout-is ∙ is.parts.configured.paths

    pub layout-tree : IsTree layout
    layout-tree = subst IsTree (sym layout-is) is.parts.sound.tree

    pub layout-number : (q : ℕ) → HasNumber w.rows.paths q → HasNumber layout q
    layout-number q has = subst (λ (ps : List Path). HasNumber ps q) (sym layout-is) (number-there q has)

    module _ (q : ℕ) (way : List ℕ) (line : IsLine layout q (0 ∷ way)) (is-way : IsWay (root ∷ layout) (is_above layout q) (0 ∷ way)) where
      own-line : IsLine paths q (0 ∷ way)
      own-line = subst (λ (ps : List Path). IsLine ps q (0 ∷ way)) all-paths line

      own-way : IsWay (root ∷ paths) (is_above paths q) (0 ∷ way)
      own-way = subst (λ (ps : List Path). IsWay (root ∷ ps) (is_above ps q) (0 ∷ way)) all-paths is-way

      below : AllByRecursion (IsBelowRoot paths) way
      below = way-below paths q way own-way

      -- a queue accepts where the model says so
      pub accepts-means : (stopped : Bool) → stopped ≡ list_any (λ n. slice_index_or a.stops (n - 1) false) way → not stopped ≡ accepts (state_in w).stops (path_of w q)
      accepts-means stopped read =
          ap not read ∙ sym (stops-mean paths a.stops q way own-way) ∙ ap (λ (ps : List Path). accepts (stops_in (view_of a)) (path_at ps q)) (sym is.parts.configured.paths)
          ∙ ap (λ (w : ClusterView). accepts (state_in w).stops (path_of w q)) view

      module _ (p : ℕ) (has : HasPartition w.rows p) (amount : Resource) (read : amount ≡ (total_at a.totals p).amount) where
        pub way-there : IsWayIn a.shares p way
        way-there = record { partition = (is.settings.cells p 0 (in-labels p has) (omega arith)).partition; queues = each way below }
          where
            each : (ns : List ℕ) → AllByRecursion (IsBelowRoot paths) ns → AllByRecursion (λ n. n < length (shares_on a.shares p)) ns
            each [] all = tt
            each (n ∷ ns) all = ((is.settings.cells p n (in-labels p has) all.0.1).queue, each ns all.1)

        configured : AreConfigured a.config paths labels a.shares
        configured = record { capacity = λ r n inside below. is.settings.capacities r n inside below.0 below.1 }

        -- what is guaranteed is what the model says
        pub guarantee-means : (result : Resource) → result ≡ reached (capacity_at a.shares p) way amount → result ≡ guaranteed w.config (state_in w) (path_of w q) (label_of w p)
        unfolding guaranteed
        guarantee-means result made =
            made
            ∙ sym (guaranteed-means a.config paths labels a.shares configured p q way (in-labels p has) own-line below amount)
            ∙ (λ i. guaranteed_of a.config (path_at (sym is.parts.configured.paths i) q) (sym (label-is p) i) amount)
            ∙ (λ i. guaranteed_of (view i).config (path_of (view i) q) (label_of (view i) p) (total-means p has amount read i))

        -- and so is the maximum
        pub most-mean : (result : Resource) → result ≡ reached (maximum_at a.shares p) way amount → result ≡ maximum (state_in w) (path_of w q) (label_of w p)
        unfolding maximum
        most-mean result made =
            made
            ∙ sym (most-means paths tree labels labels-apart a.shares p q way (in-labels p has) own-line below amount)
            ∙ (λ i. maximum_of (maxima_in (view_of a)) (path_at (sym is.parts.configured.paths i) q) (sym (label-is p) i) amount)
            ∙ (λ i. maximum_of (maxima_in (view i)) (path_of (view i) q) (label_of (view i) p) (total-means p has amount read i))
