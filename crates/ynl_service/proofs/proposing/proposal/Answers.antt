use Rattle.std.proofs.Common.{◌≡◌, nat_eq, Some, sym, subst, ◌∙◌}
use Rattle.std.specs.Prelude.{IfSome}
use Rattle.std.specs.Map.{lookup}
use Rattle.std.proofs.lemmas.Option.{same_Some}
use Rattle.ynl_tables.proofs.containers.Removing.{at_live}
use Rattle.ynl_inventory.specs.layout.Paths.{HasNumber}
use Rattle.ynl_inventory.specs.Meaning.{app_name, tenant_name, what_of}
use Rattle.ynl_inventory.specs.Parts.{Held, app_row, node_row}
use Rattle.ynl_inventory.specs.Rows.{AppRow}
use Rattle.ynl_inventory.proofs.PlacedRead.{tenant-below}
use Rattle.ynl_inventory.proofs.Tenants.{tenant-number}
use Rattle.ynl_service.proofs.Proposals.{proposal-is}
use Rattle.ynl_service.proofs.proposing.proposal.Goals as goal

-- the application's row is one of the cluster's
module _ (c : goal.After-result-1) where
  app-here : lookup (nat_eq c.args.found.now.app) c.args.cluster.now.rows.apps ≡ Some (app_row c.app-app.result.now)
  app-here = subst (λ (h : Held). lookup (nat_eq c.args.found.now.app) h.rows.apps ≡ Some (app_row c.app-app.result.now)) c.inventory-inventory.ensures.value c.app-app.ensures

pub tenant_name-requires-clause-below_root : goal.tenant_name-requires-clause-below_root
tenant_name-requires-clause-below_root c = tenant-below c.args.cluster.now.rows c.inventory-inventory.ensures.sound c.args.found.now.app (app_row c.app-app.result.now) (app-here c)

pub tenant_name-requires-clause-there : goal.tenant_name-requires-clause-there
tenant_name-requires-clause-there c =
    subst (λ (h : Held). HasNumber h.rows.paths c.app-app.result.now.tenant) (sym c.inventory-inventory.ensures.value)
    (tenant-number c.args.cluster.now.rows c.inventory-inventory.ensures.sound c.args.found.now.app (app_row c.app-app.result.now) (app-here c))

pub returns : goal.returns
returns c = λ row at.
    let w = c.args.cluster.now in
    let is = c.inventory-inventory.ensures.value in
    let own = app_row c.app-app.result.now in
    let here : lookup (nat_eq c.args.found.now.app) w.rows.apps ≡ Some own =
    subst (λ (h : Held). lookup (nat_eq c.args.found.now.app) h.rows.apps ≡ Some own) is c.app-app.ensures
    in
    let on = subst (λ (h : Held). lookup (nat_eq c.args.node) h.rows.nodes ≡ Some (node_row c.node-row.result.now)) is c.node-row.ensures in
    proposal-is w.rows c.inventory-inventory.ensures.sound c.args.found.now own here (node_row c.node-row.result.now) row (same_Some (node_row c.node-row.result.now) row (sym on ∙ at))
    c.tenant_name.result (subst (λ (h : Held). c.tenant_name.result ≡ tenant_name h.rows.paths own.tenant) is c.tenant_name.ensures)
    c.app_name.result.now
    (at_live (λ (row : AppRow). c.app_name.result.now ≡ app_name w.rows.tenants row.tenant row.turn) (lookup (nat_eq c.args.found.now.app) w.rows.apps) own
    (subst (λ (h : Held). IfSome (lookup (nat_eq c.args.found.now.app) h.rows.apps) (λ row. c.app_name.result.now ≡ app_name h.rows.tenants row.tenant row.turn)) is c.app_name.ensures) here)
    c.what.result (subst (λ (h : Held). c.what.result ≡ what_of h.rows.partitions c.args.found.now.role) is c.what.ensures)
