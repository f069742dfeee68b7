-- The node that was read is that of the number.
use Rattle.std.proofs.Common.{nat_eq, sym, ap, subst, ◌∙◌}
use Rattle.std.proofs.Common.{option_map}
use Rattle.std.specs.Map.{lookup}
use Rattle.ynl_slots.specs.Slots.{IsLive}
use Rattle.ynl_tables.proofs.containers.Rows.{lookup-of_rows}
use Rattle.ynl_inventory.specs.Parts.{Held, node_row}
use Rattle.ynl_inventory.proofs.NodeParts.{node-live}
use Rattle.ynl_inventory.proofs.inventory.Inventory.node.Goals as goal

pub index-requires : goal.index-requires
index-requires c = node-live c.self.inside c.args.number (subst (λ (h : Held). IsLive c.args.number h.rows.nodes) (sym c.self.view_is) c.requires)

pub returns : goal.returns
returns c =
    ap (λ (h : Held). lookup (nat_eq c.args.number) h.rows.nodes) (sym c.self.view_is) ∙ lookup-of_rows node_row c.args.number c.self.inside.nodes.entries
    ∙ ap (option_map node_row) c.index.ensures
