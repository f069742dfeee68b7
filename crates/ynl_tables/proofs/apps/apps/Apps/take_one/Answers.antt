use Rattle.std.proofs.Common.{List, ap}
use Rattle.ynl_tables.specs.declared.apps.app.AppRow.{AppRow}
use Rattle.ynl_tables.specs.declared.apps.asks.Ask.{Ask}
use Rattle.ynl_tables.specs.apps.Asks.{with_one_taken}
use Rattle.ynl_tables.proofs.apps.Rows.{changed, still_distinct}
use Rattle.ynl_tables.proofs.apps.apps.Apps.take_one.Goals as goal

pub invariant_of-self : goal.invariant_of-self
invariant_of-self c = still_distinct c.args.number (record c.index_mut-row.result.now { asks = c.take_one.new.self }) c.self.inside.rows.entries c.self.invariant

pub returns : goal.returns
returns c =
    let row : AppRow = c.index_mut-row.result.now in
    changed c.self.inside.rows c.args.self.now c.self.view_is c.self.invariant c.args.number row (record row { asks = c.take_one.new.self }) c.index_mut-row.ensures.value (λ app. record app { asks = with_one_taken c.args.partition c.args.priority app.asks }) (ap (λ (asks : List Ask). record row { asks = asks }) c.take_one.ensures)
