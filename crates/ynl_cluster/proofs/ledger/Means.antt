-- What the rows tell of totals and uses is what the state says.
use Rattle.std.proofs.Common.{◌≡◌, ◌≢◌, ℕ, ◌+◌, ◌<◌, Bool, true, false, cond, not, ◌&&◌, nat_eq, nat_le, List, [], ◌∷◌, map, length, slice_get, Some, option_map, refl, sym, ap, subst, ◌∙◌, arith}
use Rattle.std.specs.Prelude.{slice_index_or}
use Rattle.std.specs.List.{AllByRecursion}
use Rattle.std.specs.Option.{option_map_or}
use Rattle.std.proofs.lemmas.Bool.Decides.{nat_tests}
use Rattle.std.proofs.lemmas.List.{length-map}
use Rattle.std.proofs.lemmas.Option.{slice_get-get_or, slice_get-map, slice_get_within}
use Rattle.ynl_resource.specs.Amounts.{plus, total_of}
use Rattle.ynl_resource.specs.Names.{is_default, is_within, root, same_label}
use Rattle.ynl_resource.specs.Ranges.{most_nodes}
use Rattle.ynl_resource.specs.declared.amounts.Resource.{Resource}
use Rattle.ynl_resource.specs.declared.labels.Label.{Label}
use Rattle.ynl_resource.specs.declared.labels.Label.TheVariants.{Unlabelled, Named}
use Rattle.ynl_resource.specs.declared.names.Name.{Name}
use Rattle.ynl_resource.specs.declared.paths.Path.{Path}
use Rattle.ynl_model.specs.declared.nodes.Node.{Node}
use Rattle.ynl_model.specs.declared.queues.StopRow.{StopRow}
use Rattle.ynl_model.specs.declared.queues.MaximumRow.{MaximumRow}
use Rattle.ynl_model.specs.declared.uses.Use.{Use}
use Rattle.ynl_model.specs.Applications.{leaf_of}
use Rattle.ynl_model.specs.Cluster.{is_below as found_below, is_guest_on, is_master_what, total}
use Rattle.ynl_model.specs.Nodes.{is_full, nodes_of, total as total_on}
use Rattle.ynl_laws.specs.Uses.{raised as raised_by, raised_in, use_by as use_of_placed, use_of}
use Rattle.ynl_laws.proofs.Amounts.{total-map}
use Rattle.ynl_laws.proofs.Lists.{filter-agree, filter-map}
use Rattle.ynl_laws.proofs.Names.{same-label_path, same-label_self}
use Rattle.ynl_laws.proofs.Totals.Used.{use-is, use-with}
use Rattle.ynl_inventory.specs.layout.Paths.{HasNumber, is_above, path_at}
use Rattle.ynl_tables.specs.declared.containers.container.Container.{Container}
use Rattle.ynl_tables.specs.declared.containers.container.Role.{Role}
use Rattle.ynl_tables.specs.declared.containers.container.Role.TheVariants as role
use Rattle.ynl_cluster.specs.uses.Tallies.{raised, raised_as, IsInside}
use Rattle.ynl_cluster.specs.declared.uses.tally.Counted.TheVariants.{Guest, Master, Asked}
use Rattle.ynl_inventory.specs.Rows.{Rows, PartitionRow, NodeRow, AppRow}
use Rattle.ynl_inventory.specs.Apps.{is_guest_role, is_master_role}
use Rattle.ynl_inventory.specs.Meaning.{app_name, label_at, leaf_numbers, node_of, placed_of, state_of, what_of}
use Rattle.ynl_inventory.specs.Meaning.{leaf_of as leaf_row}
use Rattle.ynl_inventory.specs.Parts.{containers_of}
use Rattle.ynl_inventory.specs.Sound.{HasPartition, IsContainer, IsSound}
use Rattle.ynl_inventory.proofs.AppsFound.{leaf-found}
use Rattle.ynl_inventory.proofs.Finding.{containers-at, not-true, own-label}
use Rattle.ynl_inventory.proofs.Lookups.{live-found, place-there}
use Rattle.ynl_inventory.proofs.Submitted.{app-submitted}
use Rattle.ynl_inventory.proofs.Tenants.{owner-named}
use Rattle.ynl_inventory.proofs.Updates.{each-number}
use Rattle.ynl_cluster.specs.ledger.Ledger.{is_below, nodes_on, tally_of, total_in, totals_in, use_by, uses_by, uses_in}
use Rattle.ynl_cluster.specs.ledger.Changes.{IsLineOf}
use Rattle.ynl_cluster.specs.ledger.Meaning.{IsListed, IsTotalOf}
use Rattle.ynl_cluster.specs.ledger.Totals.{no_total, total_at}
use Rattle.ynl_cluster.proofs.ledger.Places.{by_place-or, length-by_place}

-- ---- labels and numbers

module _ (v : Rows) (sound : IsSound v) (p : ℕ) (has : HasPartition v p) where
  -- a partition has the label of another just where it has the number
  pub label-tells : (q : ℕ) → HasPartition v q → same_label (label_at v.partitions q) (label_at v.partitions p) ≡ nat_eq q p
  label-tells q other = go (nat_eq q p) refl
    where
      go : (b : Bool) → nat_eq q p ≡ b → same_label (label_at v.partitions q) (label_at v.partitions p) ≡ b
      go true is =
          let same : q ≡ p = grind (arith, nat_tests, is) in
          ap (λ n. same_label (label_at v.partitions n) (label_at v.partitions p)) same ∙ same-label_self (label_at v.partitions p)
      go false is =
          let apart : q ≢ p = grind (arith, nat_tests, is) in
          not-true (same_label (label_at v.partitions q) (label_at v.partitions p)) (λ same. apart (sound.labels q p other has (same-label_path (label_at v.partitions q) (label_at v.partitions p) same)))

-- the label of DEFAULT is none
default-is : (label : Label) → is_default label ≡ same_label label Unlabelled
default-is Unlabelled = refl
default-is (Named name) = refl

-- a partition is DEFAULT just where its number is 0
default-tells : (v : Rows) → IsSound v → (q : ℕ) → HasPartition v q → is_default (label_at v.partitions q) ≡ nat_eq q 0
default-tells v sound q has =
    default-is (label_at v.partitions q) ∙ ap (same_label (label_at v.partitions q)) (sym sound.default) ∙ label-tells v sound 0 sound.some q has

-- ---- totals

module _ (v : Rows) (sound : IsSound v) (p : ℕ) (has : HasPartition v p) where
  nodes-mean : nodes_of (map (λ e. node_of v.partitions e.1) v.nodes) (label_at v.partitions p) ≡ map (λ e. node_of v.partitions e.1) (nodes_on p v.nodes)
  nodes-mean =
      filter-map (λ (e : ℕ × NodeRow). node_of v.partitions e.1) (λ (node : Node). same_label node.label (label_at v.partitions p)) v.nodes
      ∙ ap (map (λ (e : ℕ × NodeRow). node_of v.partitions e.1))
      (filter-agree (λ (e : ℕ × NodeRow). HasPartition v e.1.partition) (λ e. same_label (label_at v.partitions e.1.partition) (label_at v.partitions p)) (λ e. nat_eq e.1.partition p)
      (λ e there. label-tells v sound p has e.1.partition there) v.nodes (each-number (λ n row. HasPartition v row.partition) v.nodes sound.node_numbers sound.nodes))

  module _ (stops : List StopRow) (maxima : List MaximumRow) where
    amount-means : total (state_of v stops maxima) (label_at v.partitions p) ≡ (total_in v p).amount
    unfolding total_on
    amount-means =
        ap (total_of (λ (node : Node). node.size)) nodes-mean ∙ total-map (λ (node : Node). node.size) (λ (e : ℕ × NodeRow). node_of v.partitions e.1) (nodes_on p v.nodes)

    count-means : length (nodes_of (state_of v stops maxima).nodes (label_at v.partitions p)) ≡ (total_in v p).nodes
    count-means = ap length nodes-mean ∙ length-map (nodes_on p v.nodes) (λ (e : ℕ × NodeRow). node_of v.partitions e.1)

    full-means : is_full (state_of v stops maxima).nodes (label_at v.partitions p) ≡ nat_le most_nodes (total_in v p).nodes
    unfolding is_full
    full-means = ap (nat_le most_nodes) count-means

    -- there is as much of a partition as the rows tell
    pub totals-mean : IsTotalOf (state_of v stops maxima) (label_at v.partitions p) (total_in v p)
    totals-mean = record {
      amount = amount-means;
      nodes = count-means;
      full = full-means;
    }

-- ---- uses

-- a container counts as what it is
counts-as : (guest master : Bool) (size : Resource) (u : Use)
    → cond guest (record u { guests = plus u.guests size })
    (cond master (record u { used = plus u.used size; masters = plus u.masters size; master_count = u.master_count + 1 }) (record u { used = plus u.used size }))
    ≡ raised_as (cond guest Guest (cond master Master Asked)) size u
counts-as true master size u = refl
counts-as false true size u = refl
counts-as false false size u = refl

module _ (v : Rows) (sound : IsSound v) (p : ℕ) (row : PartitionRow) (there : slice_get v.partitions p ≡ Some row) where
  guest-is : (clock node app : ℕ) (r : Role) (size : Resource) → IsContainer v p row.clock (record { clock = clock; node = node; app = app; role = r; size = size })
      → is_guest_on row.label (what_of v.partitions r) ≡ is_guest_role p r
  guest-is clock node app role.Master size is = refl
  guest-is clock node app (role.Ask asked priority) size is =
      let own : is_default row.label ≡ nat_eq p 0 = ap is_default (sym (own-label v sound p row there)) ∙ default-tells v sound p (slice_get_within v.partitions p row there) in
      λ i. default-tells v sound asked is.role i && not (own i)

  master-is : (r : Role) → is_master_what (what_of v.partitions r) ≡ is_master_role r
  master-is role.Master = refl
  master-is (role.Ask asked priority) = refl

  module _ (queue : Path) where
    -- the leaf that the state finds is that of the application's row
    below-is : (c : Container) → IsContainer v p row.clock c → found_below (map (leaf_row v) (leaf_numbers v.paths)) queue (placed_of v row.label c) ≡ is_below v queue c
    below-is c is =
        let its = live-found c.app v.apps is.app in
        ap (λ (names : Name × Name). option_map_or (is_within queue) (leaf_of (map (leaf_row v) (leaf_numbers v.paths)) names.0 names.1) false) (owner-named v sound c.app its.0 its.1)
        ∙ ap (λ o. option_map_or (is_within queue) o false) (leaf-found v sound its.0.tenant its.0.turn (app_name v.tenants its.0.tenant its.0.turn) (record { leaf = its.0.leaf; app = Some c.app }) (app-submitted v sound c.app its.0 its.1))
        ∙ sym (ap (λ o. option_map_or (λ (row : AppRow). is_above v.paths row.leaf queue) o false) its.1)

    raises : (c : Container) → IsContainer v p row.clock c → (u : Use) → raised_by (placed_of v row.label c) u ≡ raised (tally_of p c.role c.size) u
    raises c is u =
        (λ i. cond (guest-is c.clock c.node c.app c.role c.size is i) (record u { guests = plus u.guests c.size })
        (cond (master-is c.role i) (record u { used = plus u.used c.size; masters = plus u.masters c.size; master_count = u.master_count + 1 }) (record u { used = plus u.used c.size })))
        ∙ counts-as (is_guest_role p c.role) (is_master_role c.role) c.size u

    uses-placed : (es : List (ℕ × Container)) → AllByRecursion (λ e. IsContainer v p row.clock e.1) es
        → use_of_placed (map (leaf_row v) (leaf_numbers v.paths)) queue (map (λ e. placed_of v row.label e.1) es) ≡ use_by v p queue es
    uses-placed [] h = refl
    uses-placed (e ∷ es) h =
        use-with (map (leaf_row v) (leaf_numbers v.paths)) queue [] (map (λ (e : ℕ × Container). placed_of v row.label e.1) es) (placed_of v row.label e.1)
        ∙ ap (raised_in (map (leaf_row v) (leaf_numbers v.paths)) queue (placed_of v row.label e.1)) (uses-placed es h.1)
        ∙ (λ i. cond (below-is e.1 h.0 i) (raises e.1 h.0 (use_by v p queue es) i) (use_by v p queue es))

    pub use-means : (stops : List StopRow) (maxima : List MaximumRow) → use_of (state_of v stops maxima) row.label queue ≡ use_by v p queue row.containers
    use-means stops maxima =
        use-is (state_of v stops maxima) row.label queue
        ∙ ap (use_of_placed (map (leaf_row v) (leaf_numbers v.paths)) queue) (containers-at v sound p row there stops maxima)
        ∙ uses-placed row.containers (each-number (λ n c. IsContainer v p row.clock c) row.containers (sound.partitions p row there).numbers (sound.partitions p row there).each)

-- a queue uses as much of a partition as the rows tell
pub uses-mean : (v : Rows) → IsSound v → (stops : List StopRow) (maxima : List MaximumRow) (p : ℕ) → HasPartition v p → (queue : Path)
    → use_of (state_of v stops maxima) (label_at v.partitions p) queue ≡ use_by v p queue (containers_of v p)
uses-mean v sound stops maxima p has queue =
    let its = place-there v.partitions p has in
    ap (λ label. use_of (state_of v stops maxima) label queue) (own-label v sound p its.0 its.1)
    ∙ use-means v sound p its.0 its.1 queue stops maxima
    ∙ sym (ap (λ o. use_by v p queue (option_map_or (λ (row : PartitionRow). row.containers) o [])) its.1)

-- ---- lists

module _ (v : Rows) where
  uses-at : (p : ℕ) → (has : HasPartition v p) → slice_index_or (uses_in v) p [] ≡ uses_by v p (containers_of v p)
  uses-at p has =
      let its = place-there v.partitions p has in
      by_place-or (λ n row. uses_by v n row.containers) v.partitions p [] its.0 its.1
      ∙ sym (ap (λ o. uses_by v p (option_map_or (λ (row : PartitionRow). row.containers) o [])) its.1)

  many-queues : (p : ℕ) → HasPartition v p → length (slice_index_or (uses_in v) p []) ≡ length (root ∷ v.paths)
  many-queues p has = ap length (uses-at p has) ∙ length-map (root ∷ v.paths) (λ queue. use_by v p queue (containers_of v p))

  use-at : (p q : ℕ) → HasPartition v p → HasNumber v.paths q → slice_get (slice_index_or (uses_in v) p []) q ≡ Some (use_by v p (path_at v.paths q) (containers_of v p))
  use-at p q has inside =
      ap (λ us. slice_get us q) (uses-at p has) ∙ slice_get-map (λ queue. use_by v p queue (containers_of v p)) (root ∷ v.paths) q
      ∙ ap (option_map (λ queue. use_by v p queue (containers_of v p))) (slice_get-get_or (root ∷ v.paths) q root inside)

  total-at : (p : ℕ) → HasPartition v p → total_at (totals_in v) p ≡ total_in v p
  total-at p has = let its = place-there v.partitions p has in by_place-or (λ q row. total_in v q) v.partitions p no_total its.0 its.1

  -- a line's numbers are those of queues that the uses have
  line-inside : (p app : ℕ) (line : List ℕ) → HasPartition v p → IsLineOf v app line → IsInside (uses_in v) p line
  line-inside p app line has way = subst (λ m. AllByRecursion (λ n. n < m) line) (sym (many-queues p has)) way.inside

  -- the ledger has each partition and each queue
  pub listed : IsListed v
  listed = record {
    partitions = length-by_place (λ p row. uses_by v p row.containers) v.partitions;
    queues = many-queues;
    uses = use-at;
    lines = line-inside;
    many = length-by_place (λ p row. total_in v p) v.partitions;
    totals = total-at;
  }
