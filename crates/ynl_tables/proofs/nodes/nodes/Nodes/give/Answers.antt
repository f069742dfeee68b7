use Rattle.std.proofs.Common.{ℕ, List, ◌∙◌, ap, refl, arith}
use Rattle.ynl_resource.specs.declared.amounts.Resource.{Resource}
use Rattle.ynl_resource.specs.Amounts.{plus}
use Rattle.ynl_slots.specs.Slots.{with_row}
use Rattle.ynl_tables.specs.declared.nodes.nodes.NodeRow.{NodeRow}
use Rattle.ynl_tables.specs.nodes.Fields.{nodes_of}
use Rattle.ynl_tables.specs.nodes.Nodes.{NodesView, with_change}
use Rattle.ynl_tables.proofs.nodes.Changes.{change_is, change_kept}
use Rattle.ynl_tables.proofs.nodes.nodes.Nodes.give.Goals as goal

pub invariant_of-self : goal.invariant_of-self
invariant_of-self c =
    change_kept c.self.inside c.self.invariant c.args.number c.index_mut-row.result.now (record c.index_mut-row.result.now { free = c.add-row.result }) c.self.inside.rows.room c.index_mut-row.ensures.value refl (omega arith)

pub returns : goal.returns
returns c =
    let free = c.add-row.ensures ∙ ap (plus c.index_mut-row.result.now.free) c.amount.ensures.value in
    ap (λ (es : List (ℕ × NodeRow)). record (nodes_of c.self.inside) { entries = es })
    (ap (λ (free : Resource). with_row c.args.number (record c.index_mut-row.result.now { free = free }) c.self.inside.rows.entries) free
    ∙ change_is c.self.inside c.self.invariant c.args.number c.index_mut-row.result.now (λ (node : NodeRow). record node { free = plus node.free c.args.size }) c.index_mut-row.ensures.value)
    ∙ ap (λ (v : NodesView). record v { entries = with_change c.args.number (λ (node : NodeRow). record node { free = plus node.free c.args.size }) v.entries }) c.self.view_is
