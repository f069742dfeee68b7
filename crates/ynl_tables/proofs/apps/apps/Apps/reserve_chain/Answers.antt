use Rattle.std.proofs.Common.{ℕ, List, Option, IfSome, sym, subst, ap}
use Rattle.std.proofs.lemmas.Result.{on_ok_weaker, on_err_weaker}
use Rattle.ynl_slots.specs.declared.chain.Chain.{Chain}
use Rattle.ynl_slots.specs.Slots.{IsLive}
use Rattle.ynl_tables.specs.declared.apps.app.AppRow.{AppRow}
use Rattle.ynl_tables.specs.apps.Chains.{with_place}
use Rattle.ynl_tables.proofs.apps.Rows.{changed, unchanged, written, still_distinct}
use Rattle.ynl_tables.proofs.apps.apps.Apps.reserve_chain.Goals as goal

pub invariant_of-self : goal.invariant_of-self
invariant_of-self c = still_distinct c.args.number (record c.index_mut-row.result.now { chains = c.reserve.new.self }) c.self.inside.rows.entries c.self.invariant

pub returns-clause-ok : goal.returns-clause-ok
returns-clause-ok c =
    let row : AppRow = c.index_mut-row.result.now in
    on_ok_weaker c.reserve.result
    (λ made. changed c.self.inside.rows c.args.self.now c.self.view_is c.self.invariant c.args.number row (record row { chains = c.reserve.new.self }) c.index_mut-row.ensures.value (λ app. record app { chains = with_place c.args.partition app.chains }) (ap (λ (chains : List (ℕ × Chain)). record row { chains = chains }) made))
    c.reserve.ensures.ok

pub returns-clause-err : goal.returns-clause-err
returns-clause-err c =
    let row : AppRow = c.index_mut-row.result.now in
    on_err_weaker c.reserve.result
    (λ same. unchanged c.self.inside.rows c.args.self.now c.self.view_is c.self.invariant c.args.number row (record row { chains = c.reserve.new.self }) c.index_mut-row.ensures.value (ap (λ (chains : List (ℕ × Chain)). record row { chains = chains }) same))
    c.reserve.ensures.err

pub returns-clause-place : goal.returns-clause-place
returns-clause-place c =
    let row : AppRow = record c.index_mut-row.result.now { chains = c.reserve.new.self } in
    let found = written c.args.number c.index_mut-row.result.now row c.self.inside.rows.entries c.index_mut-row.ensures.value in
    on_ok_weaker c.reserve.result (λ live. subst (λ (o : Option AppRow). IfSome o (λ app. IsLive c.args.partition app.chains)) (sym found) live) c.reserve.ensures.place
