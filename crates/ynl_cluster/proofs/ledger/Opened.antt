-- The ledger of the rows before any event.
use Rattle.std.proofs.Common.{◌≡◌, ℕ, List, [], ◌∷◌, map, length, slice_get, Some, replicate, refl, sym, ap, subst, ◌∙◌, arith}
use Rattle.std.specs.List.{AllByRecursion}
use Rattle.std.proofs.lemmas.List.{length-map}
use Rattle.std.proofs.lemmas.Option.{none-some, slice_get-map}
use Rattle.ynl_resource.specs.Names.{root}
use Rattle.ynl_model.specs.Nodes.{partition_labels}
use Rattle.ynl_model.specs.Queues.{Config}
use Rattle.ynl_inventory.specs.layout.Paths.{paths_of}
use Rattle.ynl_cluster.specs.uses.Tallies.{no_use}
use Rattle.ynl_inventory.specs.Rows.{PartitionRow}
use Rattle.ynl_inventory.specs.Opening.{opening_partition, opening_rows}
use Rattle.ynl_inventory.proofs.PartLists.{unmapped}
use Rattle.ynl_cluster.specs.ledger.Totals.{no_total}
use Rattle.ynl_cluster.specs.ledger.Opening.{IsOpened}
use Rattle.ynl_cluster.specs.ledger.Ledger.{by_place, totals_in, uses_by, uses_in, AreSized, IsBounded}
use Rattle.ynl_cluster.proofs.ledger.Places.{by_place-same}

-- ---- lists of the same

map-constant : {X Y : Type 0} (y : Y) (xs : List X) → map (λ x. y) xs ≡ replicate (length xs) y
map-constant y [] = refl
map-constant y (x ∷ xs) = ap (λ ys. y ∷ ys) (map-constant y xs)

by_place-constant : {X Y : Type 0} (y : Y) (xs : List X) → by_place (λ n x. y) xs ≡ replicate (length xs) y
by_place-constant y [] = refl
by_place-constant y (x ∷ xs) = ap (λ ys. y ∷ ys) (by_place-constant y xs)

all-the-same : {X : Type 0} (y : X) (xs : List X) → AllByRecursion (λ x. x ≡ y) xs → xs ≡ replicate (length xs) y
all-the-same y [] h = refl
all-the-same y (x ∷ xs) h = λ i. h.0 i ∷ all-the-same y xs h.1 i

-- ---- the opening

module _ (c : Config) where
  empty : (p : ℕ) (row : PartitionRow) → slice_get (opening_rows c).partitions p ≡ Some row → [] ≡ row.containers
  empty p row at =
      let its = unmapped (opening_partition c.labels) (slice_get (partition_labels c.labels) p) row (sym (slice_get-map (opening_partition c.labels) (partition_labels c.labels) p) ∙ at) in
      ap (λ (r : PartitionRow). r.containers) its.2

  opening-uses : uses_in (opening_rows c) ≡ replicate (length (partition_labels c.labels)) (replicate (length (root ∷ paths_of c)) no_use)
  opening-uses =
      by_place-same (λ p row. replicate (length (root ∷ paths_of c)) no_use) (λ p row. uses_by (opening_rows c) p row.containers) (opening_rows c).partitions
      (λ p row at. ap (uses_by (opening_rows c) p) (sym (empty p row at)) ∙ map-constant no_use (root ∷ paths_of c))
      ∙ by_place-constant (replicate (length (root ∷ paths_of c)) no_use) (opening_rows c).partitions
      ∙ ap (λ n. replicate n (replicate (length (root ∷ paths_of c)) no_use)) (length-map (partition_labels c.labels) (opening_partition c.labels))

  opening-totals : totals_in (opening_rows c) ≡ replicate (length (partition_labels c.labels)) no_total
  opening-totals =
      by_place-constant no_total (opening_rows c).partitions ∙ ap (λ n. replicate n no_total) (length-map (partition_labels c.labels) (opening_partition c.labels))

  opening-bounded : IsBounded (opening_rows c)
  opening-bounded = record {
    nodes = λ n row found. absurd (none-some row found);
    containers = λ p row at. subst AreSized (empty p row at) tt;
    fits = λ n row found. absurd (none-some row found);
    many = λ p. omega arith;
  }

  -- before any event nothing is used
  pub opened : IsOpened c
  opened = record {
    uses = λ rows table.
        all-the-same (replicate (length (root ∷ paths_of c)) no_use) rows table.each ∙ ap (λ n. replicate n (replicate (length (root ∷ paths_of c)) no_use)) table.many ∙ sym opening-uses;
    totals = opening-totals;
    bounded = opening-bounded;
  }
