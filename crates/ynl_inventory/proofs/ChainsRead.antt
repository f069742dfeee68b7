-- The chains of a node and of an application lead to their containers.
use Rattle.std.proofs.Common.{◌≡◌, ◌<◌, ℕ, IfSome, length, slice_get, Option, Some, option_map, nat_eq, sym, ap, subst, ◌∙◌}
use Rattle.std.specs.Prelude.{[]}
use Rattle.std.specs.Map.{lookup}
use Rattle.std.specs.Option.{option_map_or}
use Rattle.std.proofs.lemmas.List.{length-map}
use Rattle.std.proofs.lemmas.Option.{slice_get-map}
use Rattle.ynl_slots.specs.Slots.{IsLive}
use Rattle.ynl_slots.specs.declared.chain.Chain.{Chain}
use Rattle.ynl_tables.specs.declared.nodes.nodes.NodeRow.{NodeRow as NodePart}
use Rattle.ynl_tables.specs.declared.apps.app.AppRow.{AppRow as AppPart}
use Rattle.ynl_tables.specs.apps.Chains.{chain_of}
use Rattle.ynl_tables.specs.declared.containers.container.Container.{Container}
use Rattle.ynl_tables.specs.containers.Chains.{IsFirst, IsFirstOfNode, IsFirstOfApp}
use Rattle.ynl_tables.proofs.containers.Removing.{at_live}
use Rattle.ynl_tables.proofs.containers.Rows.{lookup-of_rows}
use Rattle.ynl_inventory.specs.declared.partition.Partition.{Partition}
use Rattle.ynl_inventory.specs.declared.inventory.Inventory.TheInside.{Inside}
use Rattle.ynl_inventory.specs.Rows.{PartitionRow, NodeRow}
use Rattle.ynl_inventory.specs.Changes.{partition_of_node}
use Rattle.ynl_inventory.specs.Sound.{HasPartition}
use Rattle.ynl_inventory.specs.Parts.{Held, held_of, partition_row, node_row, containers_of, IsInventory}
use Rattle.ynl_inventory.proofs.AppParts.{app-found}

-- the containers of a part's partition
pub containers-are : (a : Inside) (p : ℕ) (part : Partition) → slice_get a.partitions.items p ≡ Some part → containers_of (held_of a).rows p ≡ part.containers.entries
containers-are a p part there =
    ap (λ o. option_map_or (λ (row : PartitionRow). row.containers) o []) (slice_get-map partition_row a.partitions.items p ∙ ap (option_map partition_row) there)

-- a node stands where its row says
node-stands : (a : Inside) (node : ℕ) (row : NodePart) → lookup (nat_eq node) a.nodes.entries ≡ Some row → partition_of_node (held_of a).rows.nodes node ≡ row.partition
node-stands a node row at = ap (λ o. option_map_or (λ (r : NodeRow). r.partition) o 0) (lookup-of_rows node_row node a.nodes.entries ∙ ap (option_map node_row) at)

-- its partition is there
pub node-partition : (a : Inside) → IsInventory a → (node : ℕ) (row : NodePart) → lookup (nat_eq node) a.nodes.entries ≡ Some row → row.partition < length a.partitions.items
node-partition a inv node row at =
    let has : HasPartition (held_of a).rows row.partition = inv.sound.nodes node (node_row row) (lookup-of_rows node_row node a.nodes.entries ∙ ap (option_map node_row) at) in
    subst (λ n. row.partition < n) (length-map a.partitions.items partition_row) has

-- the first container of a node
pub node-first : (a : Inside) (h : Held) → held_of a ≡ h → IsInventory a → (node : ℕ) (row : NodePart) → lookup (nat_eq node) a.nodes.entries ≡ Some row → (part : Partition) → slice_get a.partitions.items row.partition ≡ Some part
    → (first : Option ℕ) → IsFirstOfNode part.containers row.containers first → IsFirst (λ (c : Container). c.node) node (containers_of h.rows (partition_of_node h.rows.nodes node)) first
node-first a h view inv node row at part there first is =
    subst (λ (h : Held). IsFirst (λ (c : Container). c.node) node (containers_of h.rows (partition_of_node h.rows.nodes node)) first) view
    (subst (λ es. IsFirst (λ (c : Container). c.node) node es first) (sym (ap (containers_of (held_of a).rows) (node-stands a node row at) ∙ containers-are a row.partition part there))
    (is node (inv.linked.node node row part at there)))

-- the first container of an application in a partition
pub app-first : (a : Inside) (h : Held) → held_of a ≡ h → IsInventory a → (app p : ℕ) → IsLive app h.rows.apps → (part : Partition) → slice_get a.partitions.items p ≡ Some part
    → (chain : Chain) → IfSome (lookup (nat_eq app) a.apps.entries) (λ row. chain ≡ chain_of p row.chains)
    → (first : Option ℕ) → IsFirstOfApp part.containers chain first → IsFirst (λ (c : Container). c.app) app (containers_of h.rows p) first
app-first a h view inv app p live part there chain own first is =
    let row = app-found a app (subst (λ (h : Held). IsLive app h.rows.apps) (sym view) live) in
    let same : chain ≡ chain_of p row.0.chains = at_live (λ (r : AppPart). chain ≡ chain_of p r.chains) (lookup (nat_eq app) a.apps.entries) row.0 own row.1 in
    subst (λ (h : Held). IsFirst (λ (c : Container). c.app) app (containers_of h.rows p) first) view
    (subst (λ es. IsFirst (λ (c : Container). c.app) app es first) (sym (containers-are a p part there))
    (subst (λ chain. IsFirstOfApp part.containers chain first) same is app (inv.linked.app app row.0 p part row.1 there)))
