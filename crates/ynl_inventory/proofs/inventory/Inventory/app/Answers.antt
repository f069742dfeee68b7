-- The application that was read is that of the number.
use Rattle.std.proofs.Common.{nat_eq, sym, ap, subst, ◌∙◌}
use Rattle.std.proofs.Common.{option_map}
use Rattle.std.specs.Map.{lookup}
use Rattle.ynl_slots.specs.Slots.{IsLive}
use Rattle.ynl_tables.proofs.containers.Rows.{lookup-of_rows}
use Rattle.ynl_inventory.specs.Parts.{Held, app_row}
use Rattle.ynl_inventory.proofs.AppParts.{app-live}
use Rattle.ynl_inventory.proofs.inventory.Inventory.app.Goals as goal

pub index-requires : goal.index-requires
index-requires c = app-live c.self.inside c.args.number (subst (λ (h : Held). IsLive c.args.number h.rows.apps) (sym c.self.view_is) c.requires)

pub returns : goal.returns
returns c =
    ap (λ (h : Held). lookup (nat_eq c.args.number) h.rows.apps) (sym c.self.view_is) ∙ lookup-of_rows app_row c.args.number c.self.inside.apps.entries
    ∙ ap (option_map app_row) c.index.ensures
