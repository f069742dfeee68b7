use Rattle.std.proofs.Common.{sym, subst}
use Rattle.ynl_tables.specs.containers.Table.{Table}
use Rattle.ynl_tables.specs.containers.Chains.{IsFirstOfNode}
use Rattle.ynl_tables.proofs.containers.Linking.{first_is}
use Rattle.ynl_tables.proofs.containers.Placing.{containers_of, node_links}
use Rattle.ynl_tables.proofs.containers.Rows.{distinct_of_rows}
use Rattle.ynl_tables.proofs.containers.containers.Containers.first_of_node.Goals as goal

pub returns : goal.returns
returns c = subst (λ o. IsFirstOfNode c.args.self.now c.args.chain.now o) (sym c.first.ensures) (subst (λ (t : Table). IsFirstOfNode t c.args.chain.now c.args.chain.now.first) c.self.view_is
    (λ k chain. first_is (λ x. x.node) (containers_of c.self.inside.rows.entries) (distinct_of_rows (λ row. row.container) c.self.inside.rows.entries c.self.invariant.distinct) (node_links c.self.inside.rows.entries) c.args.chain.now k chain))
