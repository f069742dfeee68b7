-- What is free of a node is read from its part, and what is used of it fits.
use Rattle.std.proofs.Common.{◌≡◌, ℕ, [], slice_get, Some, option_map, true, nat_eq, sym, ap, subst, ◌∙◌}
use Rattle.std.specs.Map.{lookup}
use Rattle.std.specs.Option.{option_map_or}
use Rattle.std.proofs.lemmas.Option.{slice_get-map}
use Rattle.ynl_resource.specs.Amounts.{nothing, less, fits_in, IsSmall}
use Rattle.ynl_tables.specs.declared.nodes.nodes.NodeRow.{NodeRow as NodePart}
use Rattle.ynl_tables.proofs.containers.Rows.{lookup-of_rows}
use Rattle.ynl_inventory.specs.declared.inventory.Inventory.TheInside.{Inside}
use Rattle.ynl_inventory.specs.Rows.{PartitionRow, NodeRow}
use Rattle.ynl_inventory.specs.Apps.{containers_of}
use Rattle.ynl_inventory.specs.Parts.{held_of, partition_row, node_row, used_of, free_of, IsFitting, IsInventory}
use Rattle.ynl_inventory.proofs.Lookups.{place-there}
use Rattle.ynl_inventory.proofs.ChainsRead.{containers-are, node-partition}
use Rattle.ynl_inventory.proofs.PartLists.{unmapped}

-- it is what the containers there leave
pub free-is : (a : Inside) → IsInventory a → (node : ℕ) (row : NodePart) → lookup (nat_eq node) a.nodes.entries ≡ Some row → row.free ≡ free_of (held_of a).rows node
free-is a inv node row at =
    let own = place-there a.partitions.items row.partition (node-partition a inv node row at) in
    let there : slice_get (held_of a).rows.partitions row.partition ≡ Some (partition_row own.0) = slice_get-map partition_row a.partitions.items row.partition ∙ ap (option_map partition_row) own.1 in
    inv.linked.free node row own.0 at own.1
    ∙ sym
    (ap (λ o. option_map_or (λ (r : NodeRow). less r.size (used_of (option_map_or (λ (p : PartitionRow). p.containers) (slice_get (held_of a).rows.partitions r.partition) []) node)) o nothing)
    (lookup-of_rows node_row node a.nodes.entries ∙ ap (option_map node_row) at)
    ∙ ap (λ o. less row.size (used_of (option_map_or (λ (p : PartitionRow). p.containers) o []) node)) there)

-- the containers of each node fit on it
pub fitting : (a : Inside) → IsInventory a → IsFitting (held_of a).rows
fitting a inv = record {
  fits = λ n row at.
      let part = part-of n row at in
      let own = place-there a.partitions.items part.0.partition (node-partition a inv n part.0 part.1) in
      subst (λ (r : NodeRow). fits_in (used_of (containers_of (held_of a).rows r.partition) n) r.size ≡ true) part.2
      (ap (λ es. fits_in (used_of es n) part.0.size) (containers-are a part.0.partition own.0 own.1) ∙ inv.linked.fits n part.0 own.0 part.1 own.1);
  small = λ n row at. let part = part-of n row at in subst (λ (r : NodeRow). IsSmall r.size) part.2 (inv.linked.small n part.0 part.1);
}
  where
    part-of : (n : ℕ) (row : NodeRow) → lookup (nat_eq n) (held_of a).rows.nodes ≡ Some row → (part : NodePart) × (lookup (nat_eq n) a.nodes.entries ≡ Some part) × (node_row part ≡ row)
    part-of n row at = unmapped node_row (lookup (nat_eq n) a.nodes.entries) row (sym (lookup-of_rows node_row n a.nodes.entries) ∙ at)
