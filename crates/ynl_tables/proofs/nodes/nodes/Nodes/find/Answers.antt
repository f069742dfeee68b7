use Rattle.std.proofs.Common.{◌≡◌, ◌∙◌, subst, IfSome, Some, option_map, nat_eq}
use Rattle.std.specs.Map.{lookup}
use Rattle.ynl_tables.specs.declared.nodes.nodes.NodeRow.{NodeRow}
use Rattle.ynl_tables.specs.nodes.Nodes.{NodesView}
use Rattle.ynl_tables.proofs.nodes.Names.{number_owns}
use Rattle.ynl_tables.proofs.nodes.nodes.Nodes.find.Goals as goal

pub returns-clause-own : goal.returns-clause-own
returns-clause-own c =
    subst (λ (t : NodesView). IfSome c.get.result (λ n. option_map (λ (r : NodeRow). r.name) (lookup (nat_eq n) t.entries) ≡ Some c.args.name.now)) c.self.view_is
    (number_owns c.self.inside.rows.entries c.args.name.now c.get.result c.self.invariant.distinct (c.get.ensures.value ∙ c.self.invariant.found c.args.name.now c.get.ensures.name))
