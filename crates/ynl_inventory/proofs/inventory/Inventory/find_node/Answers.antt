-- The table of the nodes has the names of the rows.
use Rattle.std.proofs.Common.{sym, ap, ◌∙◌}
use Rattle.ynl_inventory.specs.Meaning.{node_number}
use Rattle.ynl_inventory.specs.Parts.{Held}
use Rattle.ynl_inventory.proofs.NodeParts.{same-number}
use Rattle.ynl_inventory.proofs.inventory.Inventory.find_node.Goals as goal

pub returns : goal.returns
returns c =
    c.find.ensures.value ∙ sym (same-number c.args.name.now c.self.inside.nodes.entries) ∙ ap (λ (h : Held). node_number c.args.name.now h.rows.nodes) c.self.view_is
