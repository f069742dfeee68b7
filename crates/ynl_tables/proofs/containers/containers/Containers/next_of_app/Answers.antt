use Rattle.std.proofs.Common.{sym, subst}
use Rattle.ynl_slots.specs.Slots.{IsLive}
use Rattle.ynl_tables.specs.containers.Table.{Table}
use Rattle.ynl_tables.specs.containers.Chains.{IsNextOfApp}
use Rattle.ynl_tables.proofs.containers.Rows.{distinct_of_rows}
use Rattle.ynl_tables.proofs.containers.Linking.{next_is}
use Rattle.ynl_tables.proofs.containers.Placing.{containers_of}
use Rattle.ynl_tables.proofs.containers.Removing.{live_row}
use Rattle.ynl_tables.proofs.containers.containers.Containers.next_of_app.Goals as goal

pub index-requires : goal.index-requires
index-requires c = live_row c.args.number c.self.inside.rows.entries (subst (λ (t : Table). IsLive c.args.number t.entries) (sym c.self.view_is) c.requires)

pub returns : goal.returns
returns c = subst (λ o. IsNextOfApp c.args.self.now c.args.number o) (sym c.get.ensures) (
    subst (λ (t : Table). IsNextOfApp t c.args.number c.index.result.now.of_app.next) c.self.view_is
    (next_is (λ x. x.app) (containers_of c.self.inside.rows.entries) (distinct_of_rows (λ row. row.container) c.self.inside.rows.entries c.self.invariant.distinct) (λ row. row.of_app) c.self.inside.rows.entries c.args.number c.index.result.now c.index.ensures))
