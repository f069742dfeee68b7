-- How large totals and uses are.
use Rattle.std.proofs.Common.{◌≡◌, ℕ, ◌*◌, ◌<◌, ◌≤◌, ◌^◌, Bool, true, false, cond, is_some, nat_eq, List, [], ◌∷◌, filter, length, slice_get, Option, None, Some, refl, sym, ap, subst, ◌∙◌, arith, true≢false}
use Rattle.std.specs.Prelude.{slice_index_or}
use Rattle.std.specs.List.{AllByRecursion}
use Rattle.std.specs.Map.{lookup}
use Rattle.std.specs.Option.{option_map_or}
use Rattle.std.proofs.lemmas.Bool.Decides.{nat_tests}
use Rattle.std.proofs.lemmas.Option.{none-some, same_Some}
use Rattle.ynl_resource.specs.Amounts.{fits_in, nothing, plus, total_of, IsSize}
use Rattle.ynl_resource.specs.Names.{root}
use Rattle.ynl_resource.specs.declared.amounts.Resource.{Resource}
use Rattle.ynl_resource.specs.declared.paths.Path.{Path}
use Rattle.ynl_model.specs.declared.uses.Use.{Use}
use Rattle.ynl_laws.proofs.Amounts.{fits-each, fits-more, fits-plus, fits-refl, fits-trans}
use Rattle.ynl_laws.proofs.Lists.{Each-all, Each-filter, Each-kept, Each-map}
use Rattle.ynl_slots.specs.Slots.{IsLive}
use Rattle.ynl_slots.proofs.Entries.{itself}
use Rattle.ynl_tables.specs.declared.containers.container.Container.{Container}
use Rattle.ynl_cluster.specs.uses.Tallies.{AreSmall, IsSmallUse, IsTotal, raised, raised_as}
use Rattle.ynl_cluster.specs.declared.uses.tally.Counted.{Counted}
use Rattle.ynl_cluster.specs.declared.uses.tally.Counted.TheVariants.{Guest, Master, Asked}
use Rattle.ynl_inventory.specs.Rows.{Rows, PartitionRow, NodeRow}
use Rattle.ynl_inventory.specs.Parts.{containers_of, used_of}
use Rattle.ynl_inventory.specs.Sound.{HasPartition, IsPartition, IsSound}
use Rattle.ynl_inventory.proofs.Lookups.{place-there}
use Rattle.ynl_inventory.proofs.Updates.{each-number}
use Rattle.ynl_inventory.proofs.Used.{fits-parts}
use Rattle.ynl_cluster.specs.ledger.Ledger.{counted_as, is_below, nodes_on, tally_of, total_in, use_by, use_where, uses_by, uses_in, AreSized, IsBounded}
use Rattle.ynl_cluster.specs.ledger.Small.{IsWithin}
use Rattle.ynl_cluster.specs.ledger.Totals.{IsSmallTotal}
use Rattle.ynl_cluster.proofs.ledger.Places.{by_place-none, by_place-or}

-- ---- totals

-- so many sizes come to so much
sum-small : (es : List (ℕ × NodeRow)) (n : ℕ) → AllByRecursion (λ e. IsSize e.1.size) es → length es ≡ n
    → ((total_of (λ (e : ℕ × NodeRow). e.1.size) es).memory ≤ n * 4294967295) × ((total_of (λ (e : ℕ × NodeRow). e.1.size) es).vcores ≤ n * 65536)
sum-small [] n h long = (grind (arith), grind (arith))
sum-small (e ∷ es) n h long =
    let rest = sum-small es (length es) h.1 refl in
    let memory : e.1.size.memory < 2 ^ 32 = h.0.memory in
    let vcores : e.1.size.vcores ≤ 65536 = h.0.vcores in
    let more_memory : (total_of (λ (e : ℕ × NodeRow). e.1.size) es).memory ≤ length es * 4294967295 = rest.0 in
    let more_vcores : (total_of (λ (e : ℕ × NodeRow). e.1.size) es).vcores ≤ length es * 65536 = rest.1 in
    (omega (arith, memory, more_memory, long), omega (arith, vcores, more_vcores, long))

-- a total is small enough for one node more
pub total-small : (v : Rows) → IsSound v → IsBounded v → (p : ℕ) → IsSmallTotal (total_in v p)
total-small v sound bounded p =
    let both =
    sum-small (nodes_on p v.nodes) (length (nodes_on p v.nodes))
    (Each-filter (λ (e : ℕ × NodeRow). IsSize e.1.size) (λ e. nat_eq e.1.partition p) v.nodes (each-number (λ n row. IsSize row.size) v.nodes sound.node_numbers bounded.nodes)) refl
    in
    let memory : (total_in v p).amount.memory ≤ length (nodes_on p v.nodes) * 4294967295 = both.0 in
    let vcores : (total_in v p).amount.vcores ≤ length (nodes_on p v.nodes) * 65536 = both.1 in
    let count : length (nodes_on p v.nodes) ≤ 65536 = bounded.many p in
    record { amount = (omega (arith, memory, count), omega (arith, vcores, count)); nodes = count }

-- ---- containers on nodes

-- a node is among those of its partition
on-live : (n p : ℕ) (row : NodeRow) (es : List (ℕ × NodeRow)) → lookup (nat_eq n) es ≡ Some row → row.partition ≡ p → IsLive n (nodes_on p es)
on-live n p row [] found stands = absurd (none-some row found)
on-live n p row (e ∷ es) found stands = go (nat_eq n e.0) refl found (λ k. on-live n p row es k stands) (nat_eq e.1.partition p) refl
  where
    go : (b : Bool) → nat_eq n e.0 ≡ b → cond b (Some e.1) (lookup (nat_eq n) es) ≡ Some row → (lookup (nat_eq n) es ≡ Some row → IsLive n (nodes_on p es))
        → (t : Bool) → nat_eq e.1.partition p ≡ t → IsLive n (cond t (e ∷ nodes_on p es) (nodes_on p es))
    go true q k rest true at = ap (λ b. is_some (cond b (Some e.1) (lookup (nat_eq n) (nodes_on p es)))) q
    go true q k rest false at = absurd (true≢false (sym (ap (λ (r : NodeRow). nat_eq r.partition p) (same_Some e.1 row k) ∙ ap (λ m. nat_eq m p) stands ∙ itself p) ∙ at))
    go false q k rest true at = ap (λ b. is_some (cond b (Some e.1) (lookup (nat_eq n) (nodes_on p es)))) q ∙ rest k
    go false q k rest false at = rest k

-- what nodes are used, by the containers that are counted
abbrev used_on : List (ℕ × Container) → List (ℕ × NodeRow) → Resource
used_on es nodes = total_of (λ n. used_of es n.0) nodes

used-more : (node : ℕ) (e : ℕ × Container) (es : List (ℕ × Container)) → used_of (e ∷ es) node ≡ cond (nat_eq e.1.node node) (plus e.1.size (used_of es node)) (used_of es node)
used-more node e es = go (nat_eq e.1.node node)
  where
    go : (b : Bool) → total_of (λ (f : ℕ × Container). f.1.size) (cond b (e ∷ filter (λ f. nat_eq f.1.node node) es) (filter (λ f. nat_eq f.1.node node) es)) ≡ cond b (plus e.1.size (used_of es node)) (used_of es node)
    go true = refl
    go false = refl

used-grows : (node : ℕ) (e : ℕ × Container) (es : List (ℕ × Container)) → fits_in (used_of es node) (used_of (e ∷ es) node) ≡ true
used-grows node e es = subst (λ u. fits_in (used_of es node) u ≡ true) (sym (used-more node e es)) (go (nat_eq e.1.node node))
  where
    go : (b : Bool) → fits_in (used_of es node) (cond b (plus e.1.size (used_of es node)) (used_of es node)) ≡ true
    go true = fits-more e.1.size (used_of es node)
    go false = fits-refl (used_of es node)

fits-own : (size used rest more : Resource) → fits_in rest more ≡ true → fits_in (plus size (plus used rest)) (plus (plus size used) more) ≡ true
fits-own size used rest more h = grind (arith, nat_tests)

fits-behind : (size used rest more : Resource) → fits_in (plus size rest) more ≡ true → fits_in (plus size (plus used rest)) (plus used more) ≡ true
fits-behind size used rest more h = grind (arith, nat_tests)

-- one container more uses its node
on-more : (e : ℕ × Container) (es : List (ℕ × Container)) (nodes : List (ℕ × NodeRow)) → IsLive e.1.node nodes → fits_in (plus e.1.size (used_on es nodes)) (used_on (e ∷ es) nodes) ≡ true
on-more e es [] live = absurd (true≢false (sym live))
on-more e es (n ∷ nodes) live =
    subst (λ u. fits_in (plus e.1.size (used_on es (n ∷ nodes))) (plus u (used_on (e ∷ es) nodes)) ≡ true) (sym (used-more n.0 e es)) (go (nat_eq e.1.node n.0) live (on-more e es nodes))
  where
    go : (b : Bool) → is_some (cond b (Some n.1) (lookup (nat_eq e.1.node) nodes)) ≡ true
        → (IsLive e.1.node nodes → fits_in (plus e.1.size (used_on es nodes)) (used_on (e ∷ es) nodes) ≡ true)
        → fits_in (plus e.1.size (plus (used_of es n.0) (used_on es nodes))) (plus (cond b (plus e.1.size (used_of es n.0)) (used_of es n.0)) (used_on (e ∷ es) nodes)) ≡ true
    go true k rest =
        fits-own e.1.size (used_of es n.0) (used_on es nodes) (used_on (e ∷ es) nodes)
        (fits-each (λ (m : ℕ × NodeRow). used_of es m.0) (λ m. used_of (e ∷ es) m.0) nodes
        (Each-all (λ (m : ℕ × NodeRow). fits_in (used_of es m.0) (used_of (e ∷ es) m.0) ≡ true) (λ m. used-grows m.0 e es) nodes))
    go false k rest = fits-behind e.1.size (used_of es n.0) (used_on es nodes) (used_on (e ∷ es) nodes) (rest k)

-- nothing fits everywhere
pub nothing-fits : (a : Resource) → fits_in nothing a ≡ true
nothing-fits a = grind (arith, nat_tests)

-- containers come to no more than what they use of their nodes
on-all : (nodes : List (ℕ × NodeRow)) (es : List (ℕ × Container)) → AllByRecursion (λ e. IsLive e.1.node nodes) es → fits_in (total_of (λ e. e.1.size) es) (used_on es nodes) ≡ true
on-all nodes [] h = nothing-fits (used_on [] nodes)
on-all nodes (e ∷ es) h =
    fits-trans (plus e.1.size (total_of (λ (f : ℕ × Container). f.1.size) es)) (plus e.1.size (used_on es nodes)) (used_on (e ∷ es) nodes)
    (fits-plus e.1.size (total_of (λ (f : ℕ × Container). f.1.size) es) (used_on es nodes) (on-all nodes es h.1)) (on-more e es nodes h.0)

-- ---- the use of one queue

wider : (a amount size : Resource) → fits_in a amount ≡ true → fits_in a (plus size amount) ≡ true
wider a amount size h = fits-trans a amount (plus size amount) h (fits-more size amount)

both-more : (a amount size : Resource) → fits_in a amount ≡ true → fits_in (plus a size) (plus size amount) ≡ true
both-more a amount size h = grind (arith, nat_tests)

both-grow : (a amount size : Resource) → fits_in a amount ≡ true → fits_in (plus a size) (plus amount size) ≡ true
both-grow a amount size h = grind (arith, nat_tests)

wider-behind : (a amount size : Resource) → fits_in a amount ≡ true → fits_in a (plus amount size) ≡ true
wider-behind a amount size h = grind (arith, nat_tests)

raised-within : (counted : Counted) (size : Resource) (u : Use) (amount : Resource) → IsSize size → IsWithin u amount → IsWithin (raised_as counted size u) (plus size amount)
raised-within Guest size u amount sized h = record {
  used = wider u.used amount size h.used;
  masters = h.masters;
  master_count = h.master_count;
  guests = both-more u.guests amount size h.guests;
}
raised-within Master size u amount sized h = record {
  used = both-more u.used amount size h.used;
  masters = both-grow u.masters u.used size h.masters;
  master_count = omega (arith, h.master_count, sized.some_memory);
  guests = wider u.guests amount size h.guests;
}
raised-within Asked size u amount sized h = record {
  used = both-more u.used amount size h.used;
  masters = wider-behind u.masters u.used size h.masters;
  master_count = h.master_count;
  guests = wider u.guests amount size h.guests;
}

kept-within : (size : Resource) (u : Use) (amount : Resource) → IsWithin u amount → IsWithin u (plus size amount)
kept-within size u amount h = record { used = wider u.used amount size h.used; masters = h.masters; master_count = h.master_count; guests = wider u.guests amount size h.guests }

-- what some containers use is within what all come to
use-within : (test : Container → Bool) (p : ℕ) (es : List (ℕ × Container)) → AreSized es → IsWithin (use_where test p es) (total_of (λ e. e.1.size) es)
use-within test p [] h = record { used = refl; masters = refl; guests = refl; master_count = omega arith }
use-within test p (e ∷ es) h = go (test e.1) (use-within test p es h.1)
  where
    go : (b : Bool) → IsWithin (use_where test p es) (total_of (λ (e : ℕ × Container). e.1.size) es)
        → IsWithin (cond b (raised (tally_of p e.1.role e.1.size) (use_where test p es)) (use_where test p es)) (plus e.1.size (total_of (λ (e : ℕ × Container). e.1.size) es))
    go true is = raised-within (counted_as p e.1.role) e.1.size (use_where test p es) (total_of (λ (e : ℕ × Container). e.1.size) es) h.0 is
    go false is = kept-within e.1.size (use_where test p es) (total_of (λ (e : ℕ × Container). e.1.size) es) is

-- what fits in a small amount is small
small-in : (a b : Resource) → fits_in a b ≡ true → IsTotal b → IsTotal a
small-in a b fits small =
    let parts = fits-parts a b fits in
    let memory : b.memory < 2 ^ 48 = small.0 in
    let vcores : b.vcores ≤ 2 ^ 32 = small.1 in
    (omega (arith, parts.0, memory), omega (arith, parts.1, vcores))

small-use : (u : Use) (amount : Resource) → IsWithin u amount → IsTotal amount → IsSmallUse u
small-use u amount h small =
    let used : IsTotal u.used = small-in u.used amount h.used small in
    let masters : IsTotal u.masters = small-in u.masters u.used h.masters used in
    record { used = used; masters = masters; master_count = omega (arith, h.master_count, masters.0); guests = small-in u.guests amount h.guests small }

-- ---- the uses of a partition

module _ (v : Rows) (sound : IsSound v) (bounded : IsBounded v) (p : ℕ) (row : PartitionRow) (there : slice_get v.partitions p ≡ Some row) where
  is-partition : IsPartition v p row
  is-partition = sound.partitions p row there

  -- what stands on the partition fits in its total
  on-fits : fits_in (total_of (λ (e : ℕ × Container). e.1.size) row.containers) (total_in v p).amount ≡ true
  on-fits =
      fits-trans (total_of (λ (e : ℕ × Container). e.1.size) row.containers) (used_on row.containers (nodes_on p v.nodes)) (total_in v p).amount
      (on-all (nodes_on p v.nodes) row.containers (each-number (λ n c. IsLive c.node (nodes_on p v.nodes)) row.containers is-partition.numbers stands))
      (fits-each (λ (n : ℕ × NodeRow). used_of row.containers n.0) (λ n. n.1.size) (nodes_on p v.nodes)
      (Each-kept (λ (n : ℕ × NodeRow). fits_in (used_of row.containers n.0) n.1.size ≡ true) (λ n. nat_eq n.1.partition p) v.nodes
      (each-number (λ n r. nat_eq r.partition p ≡ true → fits_in (used_of row.containers n) r.size ≡ true) v.nodes sound.node_numbers fits)))
    where
      stands : (n : ℕ) (c : Container) → lookup (nat_eq n) row.containers ≡ Some c → IsLive c.node (nodes_on p v.nodes)
      stands n c found = let is = is-partition.each n c found in on-live c.node p is.node v.nodes is.node_found is.node_there

      fits : (n : ℕ) (r : NodeRow) → lookup (nat_eq n) v.nodes ≡ Some r → nat_eq r.partition p ≡ true → fits_in (used_of row.containers n) r.size ≡ true
      fits n r found q =
          let same : r.partition ≡ p = grind (arith, nat_tests, q) in
          let its : containers_of v r.partition ≡ row.containers = ap (containers_of v) same ∙ ap (λ o. option_map_or (λ (row : PartitionRow). row.containers) o []) there in
          ap (λ es. fits_in (used_of es n) r.size) (sym its) ∙ bounded.fits n r found

  -- what each queue uses is within the total
  pub each-within : (queue : Path) → IsWithin (use_by v p queue row.containers) (total_in v p).amount
  each-within queue =
      record { used = fit u.used inner.used; masters = inner.masters; master_count = inner.master_count; guests = fit u.guests inner.guests }
    where
      u : Use
      u = use_by v p queue row.containers

      inner : IsWithin u (total_of (λ (e : ℕ × Container). e.1.size) row.containers)
      inner = use-within (λ c. is_below v queue c) p row.containers (bounded.containers p row there)

      fit : (a : Resource) → fits_in a (total_of (λ (e : ℕ × Container). e.1.size) row.containers) ≡ true → fits_in a (total_in v p).amount ≡ true
      fit a h = fits-trans a (total_of (λ (e : ℕ × Container). e.1.size) row.containers) (total_in v p).amount h on-fits

  -- so it is small enough for one container more
  each-small : (queue : Path) → IsSmallUse (use_by v p queue row.containers)
  each-small queue = small-use (use_by v p queue row.containers) (total_in v p).amount (each-within queue) (total-small v sound bounded p).amount

  pub all-small : AreSmall (uses_by v p row.containers)
  all-small =
      Each-map (λ (queue : Path). Unit {0}) IsSmallUse (λ queue. use_by v p queue row.containers) (λ queue _. each-small queue) (root ∷ v.paths) (Each-all (λ (queue : Path). Unit {0}) (λ queue. tt) (root ∷ v.paths))

-- no use of a partition is too large for one container more
pub uses-small : (v : Rows) → IsSound v → IsBounded v → (p : ℕ) → AreSmall (slice_index_or (uses_in v) p [])
uses-small v sound bounded p = go (slice_get v.partitions p) refl
  where
    go : (o : Option PartitionRow) → slice_get v.partitions p ≡ o → AreSmall (slice_index_or (uses_in v) p [])
    go None is = subst AreSmall (sym (by_place-none (λ n row. uses_by v n row.containers) v.partitions p [] is)) tt
    go (Some row) is = subst AreSmall (sym (by_place-or (λ n row. uses_by v n row.containers) v.partitions p [] row is)) (all-small v sound bounded p row is)

-- what a queue uses of a partition is within the total
pub uses-within : (v : Rows) → IsSound v → IsBounded v → (p : ℕ) → HasPartition v p → (queue : Path) → IsWithin (use_by v p queue (containers_of v p)) (total_in v p).amount
uses-within v sound bounded p has queue =
    let its = place-there v.partitions p has in
    subst (λ o. IsWithin (use_by v p queue (option_map_or (λ (row : PartitionRow). row.containers) o [])) (total_in v p).amount) (sym its.1) (each-within v sound bounded p its.0 its.1 queue)
