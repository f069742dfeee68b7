-- The row and whether it runs are those of the application.
use Rattle.std.proofs.Common.{◌≡◌, Bool, nat_eq, Option, Some, sym, ap, subst, ◌∙◌}
use Rattle.std.specs.Prelude.{IfSome}
use Rattle.std.specs.Map.{lookup}
use Rattle.std.proofs.lemmas.Option.{same_Some}
use Rattle.ynl_inventory.specs.Rows.{AppRow}
use Rattle.ynl_inventory.specs.Apps.{runs_at}
use Rattle.ynl_inventory.specs.Parts.{app_row}
use Rattle.ynl_service.specs.Checking.{is_wanted_at}
use Rattle.ynl_service.proofs.checking.wants.Goals as goal

pub returns : goal.returns
returns c = λ row at.
    let w = c.args.cluster.now in
    let placed = c.args.placed.now in
    let mine : lookup (nat_eq placed.app) w.rows.apps ≡ Some (app_row c.app-row.result.now) = rw c.inventory-inventory.ensures.value at c.app-row.ensures in
    let running : IfSome (lookup (nat_eq placed.app) w.rows.apps) (λ row. c.runs-runs.result ≡ runs_at w.rows placed.app row) = rw c.inventory-inventory.ensures.value at c.runs-runs.ensures in
    let runs : c.runs-runs.result ≡ runs_at w.rows placed.app row = subst (λ (o : Option AppRow). IfSome o (λ row. c.runs-runs.result ≡ runs_at w.rows placed.app row)) at running in
    c.is_wanted.ensures
    ∙ ap (λ (r : AppRow). is_wanted_at c.runs-runs.result c.args.p r placed.role placed.size) (same_Some (app_row c.app-row.result.now) row (sym mine ∙ at))
    ∙ ap (λ (b : Bool). is_wanted_at b c.args.p row placed.role placed.size) runs
