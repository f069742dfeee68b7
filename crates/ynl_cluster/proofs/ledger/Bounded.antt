-- The rows stay in bounds.
use Rattle.std.proofs.Common.{◌≡◌, ℕ, ◌<◌, ◌≤◌, Bool, true, false, cond, not, is_some, nat_eq, List, [], ◌∷◌, ◌++◌, filter, slice_get, Option, None, Some, option_map, refl, sym, ap, subst, ◌∙◌, arith, inl, inr}
use Rattle.std.specs.Map.{lookup}
use Rattle.std.specs.Option.{option_map_or}
use Rattle.std.proofs.lemmas.Bool.{cases_eq}
use Rattle.std.proofs.lemmas.Bool.Decides.{nat_tests}
use Rattle.std.proofs.lemmas.Option.{same_Some}
use Rattle.ynl_resource.specs.Amounts.{fits_in, less, nothing, plus, total_of, IsSize}
use Rattle.ynl_resource.specs.Ranges.{most_nodes}
use Rattle.ynl_laws.proofs.Amounts.{fits-filter, fits-trans}
use Rattle.ynl_laws.proofs.Lists.{filter-nothing, filter-swap, Each-append, Each-filter}
use Rattle.ynl_slots.specs.Slots.{without}
use Rattle.ynl_slots.proofs.Entries.{other}
use Rattle.ynl_slots.proofs.Lookups.{lookup-push}
use Rattle.ynl_tables.specs.apps.Apps.{with_change}
use Rattle.ynl_tables.specs.declared.containers.container.Container.{Container}
use Rattle.ynl_inventory.specs.Rows.{Rows, PartitionRow, NodeRow}
use Rattle.ynl_inventory.specs.Changes.{next_clock_at, next_container, partition_of_node, ticked, with_at, with_changed, with_placed}
use Rattle.ynl_inventory.specs.Parts.{containers_of, free_of, used_of}
use Rattle.ynl_inventory.proofs.Lookups.{at-other, at-same, live-apart, read-after, read-at, was-found}
use Rattle.ynl_inventory.proofs.NodeParts.{found-without}
use Rattle.ynl_inventory.proofs.PartLists.{unmapped}
use Rattle.ynl_inventory.proofs.Updates.{each-number}
use Rattle.ynl_inventory.proofs.Used.{fits-left, nothing-plus, used-push}
use Rattle.ynl_cluster.specs.declared.ledger.totals.Total.{Total}
use Rattle.ynl_cluster.specs.ledger.Bounded.{ClocksKeepBounds, DroppingKeepsBounds, EndingKeepsBounds, JoiningKeepsBounds, LeavingKeepsBounds, OthersKeepBounds, PlacingKeepsBounds, StampsKeepBounds, StandingKeepsBounds}
use Rattle.ynl_cluster.specs.ledger.Totals.{grown}
use Rattle.ynl_cluster.specs.ledger.Ledger.{nodes_on, total_in, total_of_nodes, AreSized, IsBounded}
use Rattle.ynl_cluster.proofs.ledger.Small.{nothing-fits}
use Rattle.ynl_cluster.proofs.ledger.Sums.{total-left, total-more, total-stamped}
use Rattle.ynl_cluster.proofs.ledger.Uses.{inserted-last}

-- partitions and nodes tell all of it
pub others : OthersKeepBounds
others v bounded w partitions nodes =
    subst IsBounded (λ i. record w { partitions = sym partitions i; nodes = sym nodes i })
    (let same : IsBounded (record w { partitions = v.partitions; nodes = v.nodes }) = record { nodes = bounded.nodes; containers = bounded.containers; fits = bounded.fits; many = bounded.many } in same)

-- ---- one partition changes

-- containers still have their sizes
sized-kept : (v : Rows) → IsBounded v → (p : ℕ) (change : PartitionRow → PartitionRow) → ((part : PartitionRow) → slice_get v.partitions p ≡ Some part → AreSized (change part).containers)
    → (q : ℕ) (row : PartitionRow) → slice_get (with_at p change v.partitions) q ≡ Some row → AreSized row.containers
sized-kept v bounded p change own q row at =
    elim (cases_eq q p) [
      | inl same ↦
          let old = unmapped change (slice_get v.partitions p) row (sym (at-same p change v.partitions) ∙ ap (slice_get (with_at p change v.partitions)) (sym same) ∙ at) in
          subst (λ (r : PartitionRow). AreSized r.containers) old.2 (own old.0 old.1)
      | inr apart ↦ bounded.containers q row (sym (at-other q p change v.partitions apart) ∙ at)
    ]

-- a node that was there, but for its stamp
record WasThere (v : Rows) (n : ℕ) (new : NodeRow) : Type 0 where
  row : NodeRow
  found : lookup (nat_eq n) v.nodes ≡ Some row
  partition : new.partition ≡ row.partition
  size : new.size ≡ row.size

module _ (v : Rows) (bounded : IsBounded v) (p : ℕ) (change : PartitionRow → PartitionRow) (nodes : List (ℕ × NodeRow))
    (was : (n : ℕ) (new : NodeRow) → lookup (nat_eq n) nodes ≡ Some new → WasThere v n new) (totals : (q : ℕ) → total_of_nodes (nodes_on q nodes) ≡ total_in v q)
    (own : (n : ℕ) (row : NodeRow) (part : PartitionRow) → lookup (nat_eq n) v.nodes ≡ Some row → row.partition ≡ p → slice_get v.partitions p ≡ Some part → fits_in (used_of (change part).containers n) row.size ≡ true)
    (sized : (part : PartitionRow) → slice_get v.partitions p ≡ Some part → AreSized (change part).containers) where
  abbrev after : Rows
  after = record v { partitions = with_at p change v.partitions; nodes = nodes }

  fits-own : (n : ℕ) (row : NodeRow) → lookup (nat_eq n) v.nodes ≡ Some row → row.partition ≡ p → fits_in (used_of (containers_of after p) n) row.size ≡ true
  fits-own n row found stands = go (slice_get v.partitions p) refl
    where
      at : (o : Option PartitionRow) → slice_get v.partitions p ≡ o → containers_of after p ≡ option_map_or (λ (r : PartitionRow). r.containers) (option_map change o) []
      at o is = ap (λ o. option_map_or (λ (r : PartitionRow). r.containers) o []) (at-same p change v.partitions ∙ ap (option_map change) is)

      go : (o : Option PartitionRow) → slice_get v.partitions p ≡ o → fits_in (used_of (containers_of after p) n) row.size ≡ true
      go None is = ap (λ es. fits_in (used_of es n) row.size) (at None is) ∙ nothing-fits row.size
      go (Some part) is = ap (λ es. fits_in (used_of es n) row.size) (at (Some part) is) ∙ own n row part found stands is

  fits-old : (n : ℕ) (row : NodeRow) → lookup (nat_eq n) v.nodes ≡ Some row → fits_in (used_of (containers_of after row.partition) n) row.size ≡ true
  fits-old n row found =
      elim (cases_eq row.partition p) [
        | inl same ↦ ap (λ q. fits_in (used_of (containers_of after q) n) row.size) same ∙ fits-own n row found same
        | inr apart ↦
            ap (λ o. fits_in (used_of (option_map_or (λ (r : PartitionRow). r.containers) o []) n) row.size) (at-other row.partition p change v.partitions apart) ∙ bounded.fits n row found
      ]

  changed-bounded : IsBounded after
  changed-bounded = record {
    nodes = λ n new found. let old = was n new found in subst IsSize (sym old.size) (bounded.nodes n old.row old.found);
    containers = sized-kept v bounded p change sized;
    fits = λ n new found.
        let old = was n new found in
        ap (λ q. fits_in (used_of (containers_of after q) n) new.size) old.partition
        ∙ ap (fits_in (used_of (containers_of after old.row.partition) n)) old.size ∙ fits-old n old.row old.found;
    many = λ q. subst (λ n. n ≤ most_nodes) (sym (ap (λ (t : Total). t.nodes) (totals q))) (bounded.many q);
  }

-- a node with another stamp was there
stamped-was : (v : Rows) (node stamp n : ℕ) (new : NodeRow) → lookup (nat_eq n) (with_change node (λ row. record row { stamp = stamp }) v.nodes) ≡ Some new → WasThere v n new
stamped-was v node stamp n new found =
    let old = was-found n node (λ (row : NodeRow). record row { stamp = stamp }) v.nodes new found in
    record {
      row = old.0;
      found = old.1;
      partition = ap (λ (r : NodeRow). r.partition) old.2 ∙ read-after (λ (r : NodeRow). r.partition) n node (λ row. record row { stamp = stamp }) old.0 refl;
      size = ap (λ (r : NodeRow). r.size) old.2 ∙ read-after (λ (r : NodeRow). r.size) n node (λ row. record row { stamp = stamp }) old.0 refl;
    }

-- ---- containers

-- the containers of a node's partition
stand-there : (v : Rows) (p : ℕ) (row : NodeRow) (part : PartitionRow) → row.partition ≡ p → slice_get v.partitions p ≡ Some part → containers_of v row.partition ≡ part.containers
stand-there v p row part stands there = ap (containers_of v) stands ∙ ap (λ o. option_map_or (λ (r : PartitionRow). r.containers) o []) there

-- those that stand on a node still fit there with one that fits in what is free
more-fits : (v : Rows) → IsBounded v → (number : ℕ) (c : Container) → fits_in c.size (free_of v c.node) ≡ true
    → (n : ℕ) (row : NodeRow) (part : PartitionRow) → lookup (nat_eq n) v.nodes ≡ Some row → row.partition ≡ partition_of_node v.nodes c.node → slice_get v.partitions (partition_of_node v.nodes c.node) ≡ Some part
    → fits_in (used_of (part.containers ++ (number, c) ∷ []) n) row.size ≡ true
more-fits v bounded number c room n row part found stands there = ap (λ u. fits_in u row.size) (used-push n number c part.containers) ∙ go (nat_eq c.node n) refl
  where
    old : fits_in (used_of part.containers n) row.size ≡ true
    old = ap (λ es. fits_in (used_of es n) row.size) (sym (stand-there v (partition_of_node v.nodes c.node) row part stands there)) ∙ bounded.fits n row found

    go : (b : Bool) → nat_eq c.node n ≡ b → fits_in (plus (used_of part.containers n) (cond b c.size nothing)) row.size ≡ true
    go true q =
        let same : n ≡ c.node = grind (arith, nat_tests, q) in
        let its : lookup (nat_eq c.node) v.nodes ≡ Some row = ap (λ m. lookup (nat_eq m) v.nodes) (sym same) ∙ found in
        let free : free_of v c.node ≡ less row.size (used_of part.containers n) =
        ap (λ o. option_map_or (λ (r : NodeRow). less r.size (used_of (containers_of v r.partition) c.node)) o nothing) its
        ∙ ap (λ es. less row.size (used_of es c.node)) (stand-there v (partition_of_node v.nodes c.node) row part stands there) ∙ ap (λ m. less row.size (used_of part.containers m)) (sym same)
        in
        fits-left (used_of part.containers n) c.size row.size old (ap (fits_in c.size) (sym free) ∙ room)
    go false q = ap (λ u. fits_in u row.size) (nothing-plus (used_of part.containers n)) ∙ old

-- and those of a partition have their sizes with one more
more-sized : (v : Rows) → IsBounded v → (p number : ℕ) (c : Container) → IsSize c.size → (part : PartitionRow) → slice_get v.partitions p ≡ Some part → AreSized (part.containers ++ (number, c) ∷ [])
more-sized v bounded p number c ranged part at = Each-append (λ (e : ℕ × Container). IsSize e.1.size) part.containers ((number, c) ∷ []) (bounded.containers p part at) (ranged, tt)

-- and without one
less-fits : (v : Rows) → IsBounded v → (p number n : ℕ) (row : NodeRow) (part : PartitionRow) → lookup (nat_eq n) v.nodes ≡ Some row → row.partition ≡ p → slice_get v.partitions p ≡ Some part
    → fits_in (used_of (without number part.containers) n) row.size ≡ true
less-fits v bounded p number n row part found stands there =
    fits-trans (used_of (without number part.containers) n) (used_of part.containers n) row.size fewer
    (ap (λ es. fits_in (used_of es n) row.size) (sym (stand-there v p row part stands there)) ∙ bounded.fits n row found)
  where
    on : ℕ × Container → Bool
    on e = nat_eq e.1.node n

    fewer : fits_in (used_of (without number part.containers) n) (used_of part.containers n) ≡ true
    fewer =
        ap (λ es. fits_in (total_of (λ (e : ℕ × Container). e.1.size) es) (used_of part.containers n)) (filter-swap (λ e. not (nat_eq number e.0)) on part.containers)
        ∙ fits-filter (λ (e : ℕ × Container). e.1.size) (λ e. not (nat_eq number e.0)) (filter on part.containers)

less-sized : (v : Rows) → IsBounded v → (p number : ℕ) (part : PartitionRow) → slice_get v.partitions p ≡ Some part → AreSized (without number part.containers)
less-sized v bounded p number part at = Each-filter (λ (e : ℕ × Container). IsSize e.1.size) (λ e. not (nat_eq number e.0)) part.containers (bounded.containers p part at)

pub placing : PlacingKeepsBounds
placing v bounded number node app role size ranged room =
    others changed
    (changed-bounded v bounded p (ticked push) (with_change node (λ row. record row { stamp = next_clock_at v.partitions p }) v.nodes) (stamped-was v node (next_clock_at v.partitions p))
    (λ q. total-stamped q node (next_clock_at v.partitions p) v.nodes) (more-fits v bounded number (next_container v node app role size) room)
    (more-sized v bounded p number (next_container v node app role size) ranged))
    (with_placed number node app role size v) refl refl
  where
    p : ℕ
    p = partition_of_node v.nodes node

    push : List (ℕ × Container) → List (ℕ × Container)
    push = λ es. es ++ (number, next_container v node app role size) ∷ []

    changed : Rows
    changed = with_changed p node push v

pub standing : StandingKeepsBounds
standing v bounded number c ranged room =
    changed-bounded v bounded p (λ row. record row { containers = row.containers ++ (number, c) ∷ [] }) v.nodes (λ n new found. record { row = new; found = found; partition = refl; size = refl }) (λ q. refl)
    (more-fits v bounded number c room) (more-sized v bounded p number c ranged)
  where
    p : ℕ
    p = partition_of_node v.nodes c.node

pub ending : EndingKeepsBounds
ending v bounded p number node =
    changed-bounded v bounded p (ticked (without number)) (with_change node (λ row. record row { stamp = next_clock_at v.partitions p }) v.nodes)
    (stamped-was v node (next_clock_at v.partitions p)) (λ q. total-stamped q node (next_clock_at v.partitions p) v.nodes) (less-fits v bounded p number) (less-sized v bounded p number)

pub dropping : DroppingKeepsBounds
dropping v bounded p number =
    changed-bounded v bounded p (λ row. record row { containers = without number row.containers }) v.nodes
    (λ n new found. record { row = new; found = found; partition = refl; size = refl }) (λ q. refl) (less-fits v bounded p number) (less-sized v bounded p number)

-- ---- clocks and stamps

pub clocks : ClocksKeepBounds
clocks v bounded p clock =
    changed-bounded v bounded p (λ row. record row { clock = clock }) v.nodes (λ n new found. record { row = new; found = found; partition = refl; size = refl }) (λ q. refl)
    (λ n row part found stands there. ap (λ es. fits_in (used_of es n) row.size) (sym (stand-there v p row part stands there)) ∙ bounded.fits n row found) (bounded.containers p)

pub stamps : StampsKeepBounds
stamps v bounded node stamp = record {
  nodes = λ n new found. let old = stamped-was v node stamp n new found in subst IsSize (sym old.size) (bounded.nodes n old.row old.found);
  containers = bounded.containers;
  fits = λ n new found.
      let old = stamped-was v node stamp n new found in
      ap (λ q. fits_in (used_of (containers_of v q) n) new.size) old.partition ∙ ap (fits_in (used_of (containers_of v old.row.partition) n)) old.size ∙ bounded.fits n old.row old.found;
  many = λ q. subst (λ n. n ≤ most_nodes) (sym (ap (λ (t : Total). t.nodes) (total-stamped q node stamp v.nodes))) (bounded.many q);
}

-- ---- nodes

pub joining : JoiningKeepsBounds
joining v sound bounded number name p size unused ranged fewer = record { nodes = sizes; containers = sized-kept v bounded p (ticked (λ es. es)) (bounded.containers p); fits = fits; many = many }
  where
    new : NodeRow
    new = record { name = name; partition = p; size = size; stamp = next_clock_at v.partitions p }

    nodes : List (ℕ × NodeRow)
    nodes = v.nodes ++ (number, new) ∷ []

    after : Rows
    after = record v { partitions = with_at p (ticked (λ es. es)) v.partitions; nodes = nodes }

    -- what holds of the new node and of those that were there
    each : (P : ℕ → NodeRow → Type 0) → P number new → ((n : ℕ) (row : NodeRow) → lookup (nat_eq n) v.nodes ≡ Some row → P n row)
        → (n : ℕ) (row : NodeRow) → lookup (nat_eq n) nodes ≡ Some row → P n row
    each P here there n row found = go (nat_eq n number) refl (sym (lookup-push n number new v.nodes unused) ∙ found)
      where
        go : (b : Bool) → nat_eq n number ≡ b → cond b (Some new) (lookup (nat_eq n) v.nodes) ≡ Some row → P n row
        go true q k = let same : number ≡ n = grind (arith, nat_tests, q) in subst (λ m. P m row) same (subst (P number) (same_Some new row k) here)
        go false q k = there n row k

    sizes : (n : ℕ) (row : NodeRow) → lookup (nat_eq n) nodes ≡ Some row → IsSize row.size
    sizes = each (λ n row. IsSize row.size) ranged bounded.nodes

    stay : (q : ℕ) → containers_of after q ≡ containers_of v q
    stay q = read-at (λ (row : PartitionRow). row.containers) [] q p (ticked (λ es. es)) (λ row. refl) v.partitions

    -- no container stands on the new node
    none : (o : Option PartitionRow) → slice_get v.partitions p ≡ o → used_of (option_map_or (λ (row : PartitionRow). row.containers) o []) number ≡ nothing
    none None is = refl
    none (Some part) is =
        let its = sound.partitions p part is in
        ap (total_of (λ (e : ℕ × Container). e.1.size))
        (filter-nothing (λ e. nat_eq e.1.node number) part.containers
        (each-number (λ n c. nat_eq c.node number ≡ false) part.containers its.numbers
        (λ n c found. let is = its.each n c found in other c.node number (live-apart c.node number v.nodes (ap is_some is.node_found) unused))))

    fits : (n : ℕ) (row : NodeRow) → lookup (nat_eq n) nodes ≡ Some row → fits_in (used_of (containers_of after row.partition) n) row.size ≡ true
    fits =
        each (λ n row. fits_in (used_of (containers_of after row.partition) n) row.size ≡ true)
        (ap (λ es. fits_in (used_of es number) size) (stay p) ∙ ap (λ u. fits_in u size) (none (slice_get v.partitions p) refl) ∙ nothing-fits size)
        (λ n row found. ap (λ es. fits_in (used_of es n) row.size) (stay row.partition) ∙ bounded.fits n row found)

    many : (q : ℕ) → (total_of_nodes (nodes_on q nodes)).nodes ≤ most_nodes
    many q = go (nat_eq p q) refl (ap (λ (t : Total). t.nodes) (total-more q (number, new) nodes v.nodes (inserted-last v.nodes (number, new))))
      where
        go : (b : Bool) → nat_eq p q ≡ b → (total_of_nodes (nodes_on q nodes)).nodes ≡ (cond b (grown size (total_in v q)) (total_in v q)).nodes → (total_of_nodes (nodes_on q nodes)).nodes ≤ most_nodes
        go true is count =
            let same : p ≡ q = grind (arith, nat_tests, is) in
            let less : (total_in v q).nodes < most_nodes = subst (λ q. (total_in v q).nodes < most_nodes) same fewer in
            omega (arith, count, less)
        go false is count = subst (λ n. n ≤ most_nodes) (sym count) (bounded.many q)

pub leaving : LeavingKeepsBounds
leaving v sound bounded node row found = record {
  nodes = λ n r at. bounded.nodes n r (found-without n node r v.nodes at);
  containers = bounded.containers;
  fits = λ n r at. bounded.fits n r (found-without n node r v.nodes at);
  many = λ q. go q (nat_eq row.partition q) (ap (λ (t : Total). t.nodes) (total-left v sound node row found q));
}
  where
    go : (q : ℕ) (b : Bool) → (total_in v q).nodes ≡ (cond b (grown row.size (total_of_nodes (nodes_on q (without node v.nodes)))) (total_of_nodes (nodes_on q (without node v.nodes)))).nodes
        → (total_of_nodes (nodes_on q (without node v.nodes))).nodes ≤ most_nodes
    go q true count = let most : (total_in v q).nodes ≤ most_nodes = bounded.many q in omega (arith, count, most)
    go q false count = subst (λ n. n ≤ most_nodes) count (bounded.many q)
