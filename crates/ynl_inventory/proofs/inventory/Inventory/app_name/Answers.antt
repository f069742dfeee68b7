-- The name that was read is that of the application's turn.
use Rattle.std.proofs.Common.{◌≡◌, ◌<◌, ℕ, length, get_or, slice_get, Some, nat_eq, refl, sym, subst}
use Rattle.std.specs.Map.{lookup}
use Rattle.std.proofs.lemmas.Option.{slice_get_read}
use Rattle.ynl_slots.specs.Slots.{IsLive}
use Rattle.ynl_tables.specs.declared.apps.app.AppRow.{AppRow as AppPart}
use Rattle.ynl_tables.specs.submissions.Submissions.{Listing}
use Rattle.ynl_inventory.specs.declared.inventory.Inventory.TheInside.{Inside}
use Rattle.ynl_inventory.specs.Parts.{Held, IsInventory}
use Rattle.ynl_inventory.proofs.AppParts.{app-live, tenant-inside, turn-inside}
use Rattle.ynl_inventory.proofs.NamesRead.{name-read}
use Rattle.ynl_inventory.proofs.inventory.Inventory.app_name.Goals as goal

pub index-row-requires : goal.index-row-requires
index-row-requires c = app-live c.self.inside c.args.app (subst (λ (h : Held). IsLive c.args.app h.rows.apps) (sym c.self.view_is) c.requires)

pub index-submissions-requires : goal.index-submissions-requires
index-submissions-requires c =
    subst (λ n. c.index-row.result.now.tenant < n) (sym c.self.inside.tenants.ok.0) (tenant-inside c.self.inside c.self.invariant c.args.app c.index-row.result.now c.index-row.ensures)

-- the tenant's list that was read
there : (a : Inside) → IsInventory a → (app : ℕ) (part : AppPart) → lookup (nat_eq app) a.apps.entries ≡ Some part → (list : Listing) → list ≡ get_or a.tenants.items part.tenant list
    → slice_get a.tenants.items part.tenant ≡ Some list
there a inv app part found list read = slice_get_read a.tenants.items (length a.tenants.items) part.tenant list refl (tenant-inside a inv app part found) read

pub name-requires : goal.name-requires
name-requires c =
    turn-inside c.self.inside c.self.invariant c.args.app c.index-row.result.now c.index-row.ensures c.index-submissions.result.now
    (there c.self.inside c.self.invariant c.args.app c.index-row.result.now c.index-row.ensures c.index-submissions.result.now c.index-submissions.ensures)

pub returns : goal.returns
returns c =
    name-read c.self.inside c.args.self.now c.self.view_is c.self.invariant c.args.app c.index-row.result.now c.index-row.ensures c.index-submissions.result.now
    (there c.self.inside c.self.invariant c.args.app c.index-row.result.now c.index-row.ensures c.index-submissions.result.now c.index-submissions.ensures)
    c.name.result.now c.name.ensures
