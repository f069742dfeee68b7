-- What calls of Uses and Totals want, and what they leave, where the lists are those of the rows.
use Rattle.std.proofs.Common.{◌≡◌, ◌<◌, ℕ, List, [], ◌∷◌, length, slice_get, nat_eq, Option, None, Some, refl, sym, ap, subst, ◌∙◌}
use Rattle.std.specs.Prelude.{slice_index_or}
use Rattle.std.specs.Map.{lookup}
use Rattle.std.specs.Option.{option_and_then, option_map_or}
use Rattle.std.proofs.lemmas.Option.{none-some, slice_get_within}
use Rattle.ynl_resource.specs.Names.{root}
use Rattle.ynl_resource.specs.declared.amounts.Resource.{Resource}
use Rattle.ynl_resource.specs.declared.names.Name.{Name}
use Rattle.ynl_resource.specs.declared.paths.Path.{Path}
use Rattle.ynl_model.specs.declared.uses.Use.{Use}
use Rattle.ynl_laws.specs.Ways.{IsWay, along}
use Rattle.ynl_inventory.specs.layout.Paths.{HasNumber, is_above}
use Rattle.ynl_slots.specs.Slots.{IsLive}
use Rattle.ynl_tables.specs.declared.containers.container.Container.{Container}
use Rattle.ynl_tables.specs.declared.containers.container.Role.{Role}
use Rattle.ynl_cluster.specs.uses.Tallies.{AreSmall, IsInside, lowered, raised, with_partition, HasPartition as HasUses}
use Rattle.ynl_cluster.specs.declared.uses.tally.Tally.{Tally}
use Rattle.ynl_inventory.specs.Rows.{Rows, PartitionRow, NodeRow, AppRow}
use Rattle.ynl_inventory.specs.Changes.{partition_of_node, with_at, with_dropped, with_ended, with_joined, with_node_gone, with_placed, with_stood}
use Rattle.ynl_inventory.specs.Parts.{held_at}
use Rattle.ynl_inventory.specs.Sound.{HasPartition, IsSound}
use Rattle.ynl_inventory.proofs.Submitted.{app-submission}
use Rattle.ynl_cluster.specs.declared.ledger.totals.Total.{Total}
use Rattle.ynl_cluster.specs.ledger.Totals.{grown, shrunk, total_at, IsSmallTotal}
use Rattle.ynl_cluster.specs.ledger.Ledger.{tally_of, total_in, totals_in, uses_in, IsBounded}
use Rattle.ynl_cluster.specs.ledger.Changes.{IsLineOf}
use Rattle.ynl_cluster.proofs.ledger.Ledger.{dropping, ending, joining, leaving, placing, standing}
use Rattle.ynl_cluster.proofs.ledger.Means.{listed}
use Rattle.ynl_cluster.proofs.ledger.Small.{total-small, uses-small}

-- ---- lines

-- an application's leaf is a queue of the layout
pub leaf-number : (v : Rows) → IsSound v → (app : ℕ) (row : AppRow) → lookup (nat_eq app) v.apps ≡ Some row → (paths : List Path) → paths ≡ v.paths → HasNumber paths row.leaf
leaf-number v sound app row found paths is = subst (λ (ps : List Path). HasNumber ps row.leaf) (sym is) (app-submission v sound app row found).there

-- the leaf's line is the application's
pub line-is : (v : Rows) (app : ℕ) (row : AppRow) → lookup (nat_eq app) v.apps ≡ Some row → (paths : List Path) → paths ≡ v.paths → (line : List ℕ)
    → IsWay (root ∷ paths) (is_above paths row.leaf) line → IsLineOf v app line
line-is v app row found paths is line way =
    subst (λ leaf. IsWay (root ∷ v.paths) (is_above v.paths leaf) line) (sym (ap (λ o. option_map_or (λ (row : AppRow). row.leaf) o 0) found))
    (subst (λ (ps : List Path). IsWay (root ∷ ps) (is_above ps row.leaf) line) is way)

-- a container's partition and application are there
pub stands-there : (v : Rows) → IsSound v → (p number : ℕ) (c : Container) → held_at v p number ≡ Some c → HasPartition v p × IsLive c.app v.apps
stands-there v sound p number c held = go (slice_get v.partitions p) refl held
  where
    go : (o : Option PartitionRow) → slice_get v.partitions p ≡ o → option_and_then (λ row. lookup (nat_eq number) row.containers) o ≡ Some c → HasPartition v p × IsLive c.app v.apps
    go None is k = absurd (none-some c k)
    go (Some row) is k = (slice_get_within v.partitions p row is, ((sound.partitions p row is).each number c k).app)

-- ---- uses

module _ (v : Rows) (uses : List (List Use)) (is : uses ≡ uses_in v) where
  -- there is a list for each partition
  pub has-uses : (p : ℕ) → HasPartition v p → HasUses uses p
  has-uses p has = subst (λ us. HasUses us p) (sym is) (subst (λ (n : ℕ). p < n) (sym (listed v).partitions) has)

  -- its uses are small enough for one container more
  pub small-uses : IsSound v → IsBounded v → (p : ℕ) → AreSmall (slice_index_or uses p [])
  small-uses sound bounded p = subst (λ (us : List (List Use)). AreSmall (slice_index_or us p [])) (sym is) (uses-small v sound bounded p)

  -- and it has the queues of a line
  pub line-inside : (p app : ℕ) (line : List ℕ) → HasPartition v p → IsLineOf v app line → IsInside uses p line
  line-inside p app line has way = subst (λ us. IsInside us p line) (sym is) ((listed v).lines p app line has way)

  -- what `raise` leaves are the uses with the container that is placed
  pub raised-uses : (number node app : ℕ) (role : Role) (size : Resource) (line : List ℕ) → IsLive app v.apps → IsLineOf v app line
      → (p : ℕ) → p ≡ partition_of_node v.nodes node → (tally : Tally) → tally ≡ tally_of p role size → (after : List (List Use)) → after ≡ with_partition p (along (raised tally) line) uses
      → (w : Rows) → w ≡ with_placed number node app role size v → after ≡ uses_in w
  raised-uses number node app role size line live way p stands tally counts after made w placed =
      made ∙ (λ i. with_partition p (along (raised (counts i)) line) (is i)) ∙ ap (λ q. with_partition q (along (raised (tally_of q role size)) line) (uses_in v)) stands
      ∙ sym (placing v number node app role size line live way).uses ∙ sym (ap uses_in placed)

  -- or with one that comes to stand
  pub stood-raised-uses : (number : ℕ) (c : Container) (line : List ℕ) → IsLive c.app v.apps → IsLineOf v c.app line
      → (p : ℕ) (tally : Tally) → tally ≡ tally_of p c.role c.size → (after : List (List Use)) → after ≡ with_partition p (along (raised tally) line) uses
      → (w : Rows) → w ≡ with_stood p number c v → after ≡ uses_in w
  stood-raised-uses number c line live way p tally counts after made w stood =
      made ∙ (λ i. with_partition p (along (raised (counts i)) line) (is i)) ∙ sym (standing v p number c line live way).uses ∙ sym (ap uses_in stood)

  -- what `lower` leaves are the uses without the container that ends
  pub lowered-uses : IsSound v → (p number : ℕ) (c : Container) → held_at v p number ≡ Some c → (node : ℕ) (line : List ℕ) → IsLineOf v c.app line
      → (tally : Tally) → tally ≡ tally_of p c.role c.size → (after : List (List Use)) → after ≡ with_partition p (along (lowered tally) line) uses
      → (w : Rows) → w ≡ with_ended p number node v → after ≡ uses_in w
  lowered-uses sound p number c held node line way tally counts after made w ended =
      made ∙ (λ i. with_partition p (along (lowered (counts i)) line) (is i)) ∙ sym (ending v sound p number c held node line way).uses ∙ sym (ap uses_in ended)

  -- or without the one that goes with its node
  pub dropped-uses : IsSound v → (p number : ℕ) (c : Container) → held_at v p number ≡ Some c → (line : List ℕ) → IsLineOf v c.app line
      → (tally : Tally) → tally ≡ tally_of p c.role c.size → (after : List (List Use)) → after ≡ with_partition p (along (lowered tally) line) uses
      → (w : Rows) → w ≡ with_dropped p number v → after ≡ uses_in w
  dropped-uses sound p number c held line way tally counts after made w dropped =
      made ∙ (λ i. with_partition p (along (lowered (counts i)) line) (is i)) ∙ sym (dropping v sound p number c held line way).uses ∙ sym (ap uses_in dropped)

-- ---- totals

module _ (v : Rows) (totals : List Total) (is : totals ≡ totals_in v) where
  -- there is a total for each partition
  pub has-total : (p : ℕ) → HasPartition v p → p < length totals
  has-total p has = subst (λ (ts : List Total). p < length ts) (sym is) (subst (λ (n : ℕ). p < n) (sym (listed v).many) has)

  -- it is what there is of the partition
  pub total-is : (p : ℕ) → HasPartition v p → total_at totals p ≡ total_in v p
  total-is p has = ap (λ ts. total_at ts p) is ∙ (listed v).totals p has

  -- and small enough for one node more
  pub small-total : IsSound v → IsBounded v → (p : ℕ) → HasPartition v p → IsSmallTotal (total_at totals p)
  small-total sound bounded p has = subst IsSmallTotal (sym (total-is p has)) (total-small v sound bounded p)

  -- what `add` leaves are the totals with the node that joins
  pub grown-totals : (number : ℕ) (name : Name) (p : ℕ) (size : Resource) (after : List Total) → after ≡ with_at p (grown size) totals → (w : Rows) → w ≡ with_joined number name p size v → after ≡ totals_in w
  grown-totals number name p size after made w joined = made ∙ ap (with_at p (grown size)) is ∙ sym (joining v number name p size).totals ∙ sym (ap totals_in joined)

  -- what `take` leaves are the totals without the node that leaves
  pub shrunk-totals : IsSound v → (node : ℕ) (row : NodeRow) → lookup (nat_eq node) v.nodes ≡ Some row → (after : List Total) → after ≡ with_at row.partition (shrunk row.size) totals
      → (w : Rows) → w ≡ with_node_gone node v → after ≡ totals_in w
  shrunk-totals sound node row found after made w gone =
      made ∙ ap (with_at row.partition (shrunk row.size)) is ∙ sym (leaving v sound node row found).totals ∙ sym (ap totals_in gone)
