-- A node without containers leaves: nothing hung on it.
use Rattle.std.proofs.Common.{refl, sym, ap, subst, ◌∙◌}
use Rattle.ynl_slots.specs.Slots.{without, IsLive}
use Rattle.ynl_tables.specs.nodes.Nodes.{NodesView}
use Rattle.ynl_inventory.specs.Changes.{with_node_gone}
use Rattle.ynl_inventory.specs.Sound.{HasNoContainers}
use Rattle.ynl_inventory.specs.Parts.{held_of, Held, IsInventory}
use Rattle.ynl_inventory.proofs.NodeParts.{left-held, left-inventory, node-live}
use Rattle.ynl_inventory.proofs.inventory.Inventory.leave.Goals as goal

pub leave-row-requires : goal.leave-row-requires
leave-row-requires c = node-live c.self.inside c.args.node (subst (λ (h : Held). IsLive c.args.node h.rows.nodes) (sym c.self.view_is) c.requires.live)

pub invariant_of-self : goal.invariant_of-self
invariant_of-self c =
    subst (λ (nodes : NodesView). IsInventory (record c.self.inside { nodes = nodes })) (sym c.leave-row.ensures.nodes)
    (left-inventory c.self.inside c.args.node (without c.args.node c.self.inside.nodes.entries) refl c.self.invariant
    (subst (λ (h : Held). IsLive c.args.node h.rows.nodes) (sym c.self.view_is) c.requires.live)
    (subst (λ (h : Held). HasNoContainers h.rows c.args.node) (sym c.self.view_is) c.requires.empty))

pub returns : goal.returns
returns c =
    ap (λ (nodes : NodesView). held_of (record c.self.inside { nodes = nodes })) c.leave-row.ensures.nodes
    ∙ left-held c.self.inside c.args.node (without c.args.node c.self.inside.nodes.entries) refl
    ∙ ap (λ (h : Held). record h { rows = with_node_gone c.args.node h.rows }) c.self.view_is
