use Rattle.std.proofs.Common.{refl}
use Rattle.ynl_tables.specs.declared.apps.app.AppRow.{AppRow}
use Rattle.ynl_tables.proofs.apps.Rows.{changed, still_distinct}
use Rattle.ynl_tables.proofs.apps.apps.Apps.set_tickets.Goals as goal

pub invariant_of-self : goal.invariant_of-self
invariant_of-self c = still_distinct c.args.number (record c.index_mut-row.result.now { tickets = c.args.tickets }) c.self.inside.rows.entries c.self.invariant

pub returns : goal.returns
returns c =
    let row : AppRow = c.index_mut-row.result.now in
    changed c.self.inside.rows c.args.self.now c.self.view_is c.self.invariant c.args.number row (record row { tickets = c.args.tickets }) c.index_mut-row.ensures.value (λ app. record app { tickets = c.args.tickets }) refl
