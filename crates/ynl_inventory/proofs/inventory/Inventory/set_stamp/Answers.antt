-- The stamp of a node is set: its containers stay.
use Rattle.std.proofs.Common.{refl, sym, ap, subst, ◌∙◌}
use Rattle.ynl_slots.specs.Slots.{IsLive}
use Rattle.ynl_tables.specs.nodes.Nodes.{NodesView, with_change}
use Rattle.ynl_inventory.specs.Changes.{with_stamp}
use Rattle.ynl_inventory.specs.Parts.{Held, held_of, IsInventory}
use Rattle.ynl_inventory.proofs.NodeParts.{node-live}
use Rattle.ynl_inventory.proofs.TimeParts.{stamp-held, stamp-inventory}
use Rattle.ynl_inventory.proofs.inventory.Inventory.set_stamp.Goals as goal

pub set_stamp-requires : goal.set_stamp-requires
set_stamp-requires c = node-live c.self.inside c.args.node (subst (λ (h : Held). IsLive c.args.node h.rows.nodes) (sym c.self.view_is) c.requires)

pub invariant_of-self : goal.invariant_of-self
invariant_of-self c =
    subst (λ (nodes : NodesView). IsInventory (record c.self.inside { nodes = nodes })) (sym c.set_stamp.ensures)
    (stamp-inventory c.self.inside c.args.node c.args.stamp (with_change c.args.node (λ row. record row { stamp = c.args.stamp }) c.self.inside.nodes.entries) refl c.self.invariant)

pub returns : goal.returns
returns c =
    ap (λ (nodes : NodesView). held_of (record c.self.inside { nodes = nodes })) c.set_stamp.ensures
    ∙ stamp-held c.self.inside c.args.node c.args.stamp (with_change c.args.node (λ row. record row { stamp = c.args.stamp }) c.self.inside.nodes.entries) refl
    ∙ ap (λ (h : Held). record h { rows = with_stamp c.args.node c.args.stamp h.rows }) c.self.view_is
