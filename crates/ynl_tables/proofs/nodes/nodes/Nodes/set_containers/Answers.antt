use Rattle.std.proofs.Common.{ℕ, List, ◌∙◌, ap, refl, arith}
use Rattle.ynl_tables.specs.declared.nodes.nodes.NodeRow.{NodeRow}
use Rattle.ynl_tables.specs.nodes.Fields.{nodes_of}
use Rattle.ynl_tables.specs.nodes.Nodes.{NodesView, with_change}
use Rattle.ynl_tables.proofs.nodes.Changes.{change_is, change_kept}
use Rattle.ynl_tables.proofs.nodes.nodes.Nodes.set_containers.Goals as goal

pub invariant_of-self : goal.invariant_of-self
invariant_of-self c =
    change_kept c.self.inside c.self.invariant c.args.number c.index_mut-row.result.now (record c.index_mut-row.result.now { containers = c.args.chain }) c.self.inside.rows.room c.index_mut-row.ensures.value refl (omega arith)

pub returns : goal.returns
returns c =
    ap (λ (es : List (ℕ × NodeRow)). record (nodes_of c.self.inside) { entries = es })
    (change_is c.self.inside c.self.invariant c.args.number c.index_mut-row.result.now (λ (node : NodeRow). record node { containers = c.args.chain }) c.index_mut-row.ensures.value)
    ∙ ap (λ (v : NodesView). record v { entries = with_change c.args.number (λ (node : NodeRow). record node { containers = c.args.chain }) v.entries }) c.self.view_is
