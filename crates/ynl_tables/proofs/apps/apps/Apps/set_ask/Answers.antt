use Rattle.std.proofs.Common.{List, ap}
use Rattle.std.proofs.lemmas.Result.{on_ok_weaker, on_err_weaker}
use Rattle.ynl_tables.specs.declared.apps.app.AppRow.{AppRow}
use Rattle.ynl_tables.specs.declared.apps.asks.Ask.{Ask}
use Rattle.ynl_tables.specs.apps.Asks.{with_ask}
use Rattle.ynl_tables.proofs.apps.Rows.{changed, unchanged, still_distinct}
use Rattle.ynl_tables.proofs.apps.apps.Apps.set_ask.Goals as goal

pub invariant_of-self : goal.invariant_of-self
invariant_of-self c = still_distinct c.args.number (record c.index_mut-row.result.now { asks = c.set.new.self }) c.self.inside.rows.entries c.self.invariant

pub returns-clause-ok : goal.returns-clause-ok
returns-clause-ok c =
    let row : AppRow = c.index_mut-row.result.now in
    on_ok_weaker c.set.result
    (λ made. changed c.self.inside.rows c.args.self.now c.self.view_is c.self.invariant c.args.number row (record row { asks = c.set.new.self }) c.index_mut-row.ensures.value (λ app. record app { asks = with_ask c.args.ask app.asks }) (ap (λ (asks : List Ask). record row { asks = asks }) made))
    c.set.ensures.ok

pub returns-clause-err : goal.returns-clause-err
returns-clause-err c =
    let row : AppRow = c.index_mut-row.result.now in
    on_err_weaker c.set.result
    (λ same. unchanged c.self.inside.rows c.args.self.now c.self.view_is c.self.invariant c.args.number row (record row { asks = c.set.new.self }) c.index_mut-row.ensures.value (ap (λ (asks : List Ask). record row { asks = asks }) same))
    c.set.ensures.err
