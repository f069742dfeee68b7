-- The rows have the numbers of the nodes.
use Rattle.std.proofs.Common.{sym, subst}
use Rattle.ynl_slots.specs.Slots.{IsAfter, IsLive}
use Rattle.ynl_slots.proofs.Walks.{after_shown}
use Rattle.ynl_inventory.specs.Parts.{Held, node_row}
use Rattle.ynl_inventory.proofs.NodeParts.{node-live}
use Rattle.ynl_inventory.proofs.inventory.Inventory.next_node.Goals as goal

pub next-requires : goal.next-requires
next-requires c = node-live c.self.inside c.args.number (subst (λ (h : Held). IsLive c.args.number h.rows.nodes) (sym c.self.view_is) c.requires)

pub returns : goal.returns
returns c =
    subst (λ (h : Held). IsAfter c.args.number h.rows.nodes c.next.result) c.self.view_is
    (after_shown node_row c.self.inside.nodes.entries c.args.number c.next.result c.next.ensures)
