-- What was read of the node is what is free of it.
use Rattle.std.proofs.Common.{sym, ap, subst, ◌∙◌}
use Rattle.ynl_slots.specs.Slots.{IsLive}
use Rattle.ynl_inventory.specs.Parts.{Held, free_of}
use Rattle.ynl_inventory.proofs.NodeParts.{node-live}
use Rattle.ynl_inventory.proofs.FreeRead.{free-is}
use Rattle.ynl_inventory.proofs.inventory.Inventory.free.Goals as goal

pub index-row-requires : goal.index-row-requires
index-row-requires c = node-live c.self.inside c.args.node (subst (λ (h : Held). IsLive c.args.node h.rows.nodes) (sym c.self.view_is) c.requires)

pub returns : goal.returns
returns c = free-is c.self.inside c.self.invariant c.args.node c.index-row.result.now c.index-row.ensures ∙ ap (λ (h : Held). free_of h.rows c.args.node) c.self.view_is
