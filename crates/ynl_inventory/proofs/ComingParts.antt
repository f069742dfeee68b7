-- A container comes to a node: what the parts give before.
use Rattle.std.proofs.Common.{◌≡◌, ℕ, true, is_some, IfSome, IsTrue, slice_get, Some, option_map, nat_eq, sym, ap, subst, ◌∙◌}
use Rattle.std.specs.Map.{lookup}
use Rattle.std.specs.Option.{option_map_or}
use Rattle.std.proofs.lemmas.Option.{same_Some, slice_get-map}
use Rattle.ynl_resource.specs.Amounts.{fits_in}
use Rattle.ynl_resource.specs.declared.amounts.Resource.{Resource}
use Rattle.ynl_slots.specs.Slots.{IsLive}
use Rattle.ynl_slots.specs.declared.chain.Chain.{Chain}
use Rattle.ynl_tables.specs.declared.nodes.nodes.NodeRow.{NodeRow as NodePart}
use Rattle.ynl_tables.specs.declared.apps.app.AppRow.{AppRow as AppPart}
use Rattle.ynl_tables.specs.apps.Chains.{chain_of}
use Rattle.ynl_tables.specs.containers.Chains.{IsAppChain}
use Rattle.ynl_tables.proofs.containers.Rows.{lookup-of_rows}
use Rattle.ynl_tables.proofs.containers.Removing.{at_live}
use Rattle.ynl_inventory.specs.declared.partition.Partition.{Partition}
use Rattle.ynl_inventory.specs.declared.inventory.Inventory.TheInside.{Inside}
use Rattle.ynl_inventory.specs.Rows.{Rows, PartitionRow, NodeRow, AppRow}
use Rattle.ynl_inventory.specs.Changes.{partition_of_node}
use Rattle.ynl_inventory.specs.Parts.{held_of, partition_row, node_row, app_row, free_of, IsInventory}
use Rattle.ynl_inventory.proofs.FreeRead.{free-is}
use Rattle.ynl_inventory.proofs.PartLists.{unmapped}

-- a node, the partition where it stands, and an application are there
pub record AreThere (v : Rows) (node app : ℕ) : Type 0 where
  pub on : NodeRow
  pub on_found : lookup (nat_eq node) v.nodes ≡ Some on
  pub partition : PartitionRow
  pub partition_found : slice_get v.partitions on.partition ≡ Some partition
  pub owner : AppRow
  pub owner_found : lookup (nat_eq app) v.apps ≡ Some owner

module _ (a : Inside) (node app : ℕ) (are : AreThere (held_of a).rows node app) where
  -- so are their parts
  pub node-live : IsLive node a.nodes.entries
  node-live = ap is_some (unmapped node_row (lookup (nat_eq node) a.nodes.entries) are.on (sym (lookup-of_rows node_row node a.nodes.entries) ∙ are.on_found)).1

  pub own-app : (part : AppPart) × (lookup (nat_eq app) a.apps.entries ≡ Some part) × (app_row part ≡ are.owner)
  own-app = unmapped app_row (lookup (nat_eq app) a.apps.entries) are.owner (sym (lookup-of_rows app_row app a.apps.entries) ∙ are.owner_found)

  pub app-live : IsLive app a.apps.entries
  app-live = ap is_some own-app.1

  -- the application's row is that of its part
  pub is-owner : (part : AppPart) → lookup (nat_eq app) a.apps.entries ≡ Some part → app_row part ≡ are.owner
  is-owner part found = ap app_row (same_Some part own-app.0 (sym found ∙ own-app.1)) ∙ own-app.2

  module _ (row : NodePart) (at : lookup (nat_eq node) a.nodes.entries ≡ Some row) where
    pub row-at : lookup (nat_eq node) (held_of a).rows.nodes ≡ Some (node_row row)
    row-at = lookup-of_rows node_row node a.nodes.entries ∙ ap (option_map node_row) at

    -- so is the node's
    pub is-on : node_row row ≡ are.on
    is-on = same_Some (node_row row) are.on (sym row-at ∙ are.on_found)

    -- the node stands there
    pub stands : partition_of_node (held_of a).rows.nodes node ≡ row.partition
    stands = ap (λ o. option_map_or (λ (r : NodeRow). r.partition) o 0) row-at

    -- the node has room for what fits on it
    pub has-free : IsInventory a → (size : Resource) → fits_in size (free_of (held_of a).rows node) ≡ true → fits_in size row.free ≡ true
    has-free inv size fits = ap (fits_in size) (free-is a inv node row at) ∙ fits

    pub free-there : IsInventory a → (size : Resource) → fits_in size (free_of (held_of a).rows node) ≡ true → IfSome (lookup (nat_eq node) a.nodes.entries) (λ r. IsTrue (fits_in size r.free))
    free-there inv size fits = subst (λ o. IfSome o (λ (r : NodePart). IsTrue (fits_in size r.free))) (sym at) (has-free inv size fits)

    module _ (part : Partition) (there : slice_get a.partitions.items row.partition ≡ Some part) where
      pub part-at : slice_get (held_of a).rows.partitions row.partition ≡ Some (partition_row part)
      part-at = slice_get-map partition_row a.partitions.items row.partition ∙ ap (option_map partition_row) there

      -- and the partition's
      pub is-part : partition_row part ≡ are.partition
      is-part = same_Some (partition_row part) are.partition (sym part-at ∙ ap (λ (r : NodeRow). slice_get (held_of a).rows.partitions r.partition) is-on ∙ are.partition_found)

      -- the chain of the application's containers
      pub app-chain : IsInventory a → (chain : Chain) → IfSome (lookup (nat_eq app) a.apps.entries) (λ r. chain ≡ chain_of row.partition r.chains) → IsAppChain part.containers chain app
      app-chain inv chain is =
          subst (λ chain. IsAppChain part.containers chain app)
          (sym (at_live (λ (r : AppPart). chain ≡ chain_of row.partition r.chains) (lookup (nat_eq app) a.apps.entries) own-app.0 is own-app.1))
          (inv.linked.app app own-app.0 row.partition part own-app.1 there)
