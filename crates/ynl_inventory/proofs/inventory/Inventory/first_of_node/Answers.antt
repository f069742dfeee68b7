-- A node's chain leads to its first container.
use Rattle.std.proofs.Common.{◌<◌, length, refl, sym, subst}
use Rattle.std.proofs.lemmas.Option.{slice_get_read}
use Rattle.ynl_slots.specs.Slots.{IsLive}
use Rattle.ynl_inventory.specs.Parts.{Held}
use Rattle.ynl_inventory.proofs.NodeParts.{node-live}
use Rattle.ynl_inventory.proofs.ChainsRead.{node-partition, node-first}
use Rattle.ynl_inventory.proofs.inventory.Inventory.first_of_node.Goals as goal

pub index-row-requires : goal.index-row-requires
index-row-requires c = node-live c.self.inside c.args.node (subst (λ (h : Held). IsLive c.args.node h.rows.nodes) (sym c.self.view_is) c.requires)

pub index-part-requires : goal.index-part-requires
index-part-requires c =
    subst (λ n. c.index-row.result.now.partition < n) (sym c.self.inside.partitions.ok.0) (node-partition c.self.inside c.self.invariant c.args.node c.index-row.result.now c.index-row.ensures)

pub returns : goal.returns
returns c =
    node-first c.self.inside c.args.self.now c.self.view_is c.self.invariant c.args.node c.index-row.result.now c.index-row.ensures c.index-part.result.now
    (slice_get_read c.self.inside.partitions.items (length c.self.inside.partitions.items) c.index-row.result.now.partition c.index-part.result.now refl
    (node-partition c.self.inside c.self.invariant c.args.node c.index-row.result.now c.index-row.ensures) c.index-part.ensures)
    c.first_of_node.result c.first_of_node.ensures
