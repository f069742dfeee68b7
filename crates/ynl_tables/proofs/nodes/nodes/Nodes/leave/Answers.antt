use Rattle.std.proofs.Common.{ℕ, List, ◌∙◌, ap, arith}
use Rattle.ynl_slots.specs.Slots.{without}
use Rattle.ynl_tables.specs.declared.nodes.nodes.NodeRow.{NodeRow}
use Rattle.ynl_tables.specs.nodes.Fields.{nodes_of}
use Rattle.ynl_tables.specs.nodes.Nodes.{NodesView}
use Rattle.ynl_tables.proofs.nodes.Changes.{without_kept}
use Rattle.ynl_tables.proofs.nodes.nodes.Nodes.leave.Goals as goal

pub invariant_of-self : goal.invariant_of-self
invariant_of-self c =
    without_kept c.self.inside c.self.invariant c.args.number c.remove-row.result c.remove-row.new.self c.remove.new.self c.self.inside.ready
    (λ ready. let before = c.self.invariant.room ready in omega (arith, before, c.remove-row.ensures.room)) c.remove-row.ensures.entries c.remove-row.ensures.value c.remove.ensures.gone

pub returns-clause-nodes : goal.returns-clause-nodes
returns-clause-nodes c =
    ap (λ (es : List (ℕ × NodeRow)). record (nodes_of c.self.inside) { entries = es }) c.remove-row.ensures.entries
    ∙ ap (λ (v : NodesView). record v { entries = without c.args.number v.entries }) c.self.view_is
