-- The rows have the numbers of the nodes.
use Rattle.std.proofs.Common.{sym, ap, ◌∙◌}
use Rattle.ynl_slots.specs.Slots.{number_in}
use Rattle.ynl_slots.proofs.Walks.{number_shown}
use Rattle.ynl_inventory.specs.Parts.{Held, node_row}
use Rattle.ynl_inventory.proofs.inventory.Inventory.first_node.Goals as goal

pub returns : goal.returns
returns c = c.first.ensures ∙ sym (number_shown node_row c.self.inside.nodes.entries 0) ∙ ap (λ (h : Held). number_in h.rows.nodes 0) c.self.view_is
