use Rattle.std.proofs.Common.{ℕ, List, ap}
use Rattle.ynl_slots.specs.declared.chain.Chain.{Chain}
use Rattle.ynl_slots.specs.Slots.{with_row}
use Rattle.ynl_tables.specs.declared.apps.app.AppRow.{AppRow}
use Rattle.ynl_tables.proofs.apps.Rows.{changed, still_distinct}
use Rattle.ynl_tables.proofs.apps.apps.Apps.set_chain.Goals as goal

pub invariant_of-self : goal.invariant_of-self
invariant_of-self c = still_distinct c.args.number (record c.index_mut-row.result.now { chains = c.set.new.self }) c.self.inside.rows.entries c.self.invariant

pub returns : goal.returns
returns c =
    let row : AppRow = c.index_mut-row.result.now in
    changed c.self.inside.rows c.args.self.now c.self.view_is c.self.invariant c.args.number row (record row { chains = c.set.new.self }) c.index_mut-row.ensures.value (λ app. record app { chains = with_row c.args.partition c.args.chain app.chains }) (ap (λ (chains : List (ℕ × Chain)). record row { chains = chains }) c.set.ensures)
