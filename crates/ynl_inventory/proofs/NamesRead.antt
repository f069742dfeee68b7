-- The names of applications are read from the lists of their tenants.
use Rattle.std.proofs.Common.{◌≡◌, IfSome, ℕ, [], slice_get, Option, Some, None, option_map, nat_eq, sym, ap, subst, ◌∙◌}
use Rattle.std.specs.Map.{lookup}
use Rattle.std.specs.Option.{option_map_or}
use Rattle.std.proofs.lemmas.Option.{none-some, same_Some}
use Rattle.ynl_resource.specs.declared.names.Name.{Name}
use Rattle.ynl_tables.specs.declared.apps.app.AppRow.{AppRow as AppPart}
use Rattle.ynl_tables.proofs.containers.Rows.{lookup-of_rows}
use Rattle.ynl_tables.specs.declared.submissions.submissions.Submission.{Submission}
use Rattle.ynl_tables.specs.submissions.Submissions.{Listing}
use Rattle.ynl_inventory.specs.declared.inventory.Inventory.TheInside.{Inside}
use Rattle.ynl_inventory.specs.Rows.{Rows, AppRow}
use Rattle.ynl_inventory.specs.Meaning.{app_name, submitted_to}
use Rattle.ynl_inventory.specs.Parts.{Held, held_of, app_row, IsInventory}
use Rattle.ynl_inventory.proofs.AppParts.{its-tenant}

-- the name at a turn
name-there : (o : Option (Name × Submission)) (name : Name) → option_map (λ e. e.0) o ≡ Some name → option_map_or (λ e. e.0) o [] ≡ name
name-there None name h = absurd (none-some name h)
name-there (Some e) name h = same_Some e.0 name h

module _ (a : Inside) (h : Held) (view : held_of a ≡ h) (inv : IsInventory a) (app : ℕ) (part : AppPart) (found : lookup (nat_eq app) a.apps.entries ≡ Some part)
    (list : Listing) (there : slice_get a.tenants.items part.tenant ≡ Some list) (name : Name) (read : option_map (λ e. e.0) (slice_get list.entries part.turn) ≡ Some name) where
  abbrev v : Rows
  v = (held_of a).rows

  row-at : lookup (nat_eq app) v.apps ≡ Some (app_row part)
  row-at = lookup-of_rows app_row app a.apps.entries ∙ ap (option_map app_row) found

  own : name ≡ app_name v.tenants part.tenant part.turn
  own =
      let its = its-tenant a inv app part found in
      let same : list.entries ≡ submitted_to v.tenants part.tenant = ap (λ (l : Listing). l.entries) (same_Some list its.0 (sym there ∙ its.1)) ∙ its.2 in
      sym (ap (λ es. option_map_or (λ (e : Name × Submission). e.0) (slice_get es part.turn) []) (sym same) ∙ name-there (slice_get list.entries part.turn) name read)

  -- an application's name is that of its turn
  pub name-read : IfSome (lookup (nat_eq app) h.rows.apps) (λ row. name ≡ app_name h.rows.tenants row.tenant row.turn)
  name-read =
      subst (λ (h : Held). IfSome (lookup (nat_eq app) h.rows.apps) (λ row. name ≡ app_name h.rows.tenants row.tenant row.turn)) view
      (subst (λ o. IfSome o (λ (row : AppRow). name ≡ app_name v.tenants row.tenant row.turn)) (sym row-at) own)
