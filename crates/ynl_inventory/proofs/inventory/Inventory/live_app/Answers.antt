-- The application that was looked up is that of the number.
use Rattle.std.proofs.Common.{◌≡◌, Option, None, Some, nat_eq, option_copied, option_map, refl, ap, ◌∙◌, sym}
use Rattle.std.specs.Borrow.{Bor}
use Rattle.std.specs.Map.{lookup}
use Rattle.ynl_tables.specs.declared.apps.app.AppRow.{AppRow}
use Rattle.ynl_tables.proofs.containers.Rows.{lookup-of_rows}
use Rattle.ynl_inventory.specs.Parts.{Held, app_row}
use Rattle.ynl_inventory.proofs.inventory.Inventory.live_app.Goals as goal

read : (o : Option (Bor AppRow)) → option_map (λ row. app_row row.now) o ≡ option_map app_row (option_copied o)
read None = refl
read (Some row) = refl

pub returns : goal.returns
returns c =
    read c.get.result
    ∙ ap (option_map app_row) c.get.ensures
    ∙ sym (lookup-of_rows app_row c.args.number c.self.inside.apps.entries)
    ∙ ap (λ (h : Held). lookup (nat_eq c.args.number) h.rows.apps) c.self.view_is
