-- Applications go on asking for amounts that requests may have.
use Rattle.std.proofs.Common.{◌==◌, ℕ, Bool, true, false, cond, not, nat_eq, sym, subst}
use Rattle.std.specs.List.{AllByRecursion}
use Rattle.ynl_resource.specs.Amounts.{IsSize}
use Rattle.ynl_resource.specs.Tables.{put, update, without}
use Rattle.ynl_laws.proofs.Lists.{Each-filter, Each-put, Each-update}
use Rattle.ynl_tables.specs.declared.apps.asks.Ask.{Ask}
use Rattle.ynl_tables.specs.apps.Asks.{is_ask_of, is_spent, lowered, with_ask}
use Rattle.ynl_tables.specs.declared.containers.container.Role.{Role}
use Rattle.ynl_tables.specs.declared.containers.container.Role.TheVariants.{Master, Ask as Asked}
use Rattle.ynl_inventory.specs.Rows.{Rows, AppRow}
use Rattle.ynl_inventory.specs.Changes.{with_app_changed, with_taken}
use Rattle.ynl_inventory.proofs.Lookups.{was-found}
use Rattle.ynl_cluster.specs.Whole.{AskSizes, AsksSizes}

-- where one application changes
pub changed-sizes : (v : Rows) (app : ℕ) (change : AppRow → AppRow) → ((row : AppRow) → AsksSizes row → AsksSizes (change row)) → AskSizes v → AskSizes (with_app_changed app change v)
changed-sizes v app change keeps sizes n new found =
    let was = was-found n app change v.apps new found in
    subst AsksSizes (sym was.2) (go (nat_eq n app) was.0 (sizes n was.0 was.1))
  where
    go : (b : Bool) (row : AppRow) → AsksSizes row → AsksSizes (cond b (change row) row)
    go true row is = keeps row is
    go false row is = is

-- where one container less is asked for
pub taken-sizes : (r : Role) (row : AppRow) → AsksSizes row → AsksSizes (with_taken r row)
taken-sizes Master row is = is
taken-sizes (Asked p priority) row is = record {
  master = is.master;
  asks =
      Each-filter (λ (ask : Ask). IsSize ask.size) (λ ask. not (is_spent p priority ask)) (update (is_ask_of p priority) lowered row.asks)
      (Each-update (λ (ask : Ask). IsSize ask.size) (is_ask_of p priority) lowered (λ ask h. h) row.asks is.asks);
}

-- where it asks for an amount that requests may have
pub asked-sizes : (ask : Ask) → IsSize ask.size → (row : AppRow) → AsksSizes row → AsksSizes (record row { asks = with_ask ask row.asks })
asked-sizes ask sized row is = record { master = is.master; asks = go (ask.count == 0) }
  where
    go : (b : Bool) → AllByRecursion (λ (ask : Ask). IsSize ask.size) (cond b (without (is_ask_of ask.partition ask.priority) row.asks) (put (is_ask_of ask.partition ask.priority) ask row.asks))
    go true = Each-filter (λ (ask : Ask). IsSize ask.size) (λ other. not (is_ask_of ask.partition ask.priority other)) row.asks is.asks
    go false = Each-put (λ (ask : Ask). IsSize ask.size) (is_ask_of ask.partition ask.priority) ask sized row.asks is.asks
