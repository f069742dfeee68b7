-- What is tested of the line of a master.
use Rattle.std.proofs.Common.{◌≡◌, ◌∙◌, not, sym, ap}
use Rattle.std.proofs.lemmas.Option.{same_Some}
use Rattle.ynl_laws.proofs.Logic.{not-false}
use Rattle.ynl_saved.proofs.Served.{size-same}
use Rattle.ynl_tables.proofs.containers.Removing.{at_live}
use Rattle.ynl_inventory.specs.Apps.{runs_at}
use Rattle.ynl_inventory.specs.Parts.{app_row}
use Rattle.ynl_inventory.specs.Rows.{AppRow}
use Rattle.ynl_snapshots.proofs.restoring.Roles.{master-away, master-free}
use Rattle.ynl_snapshots.proofs.restoring.placements.may_be_master.Goals as goal

pub returns-then-row-p-clause-may : goal.returns-then-row-p-clause-may
returns-then-row-p-clause-may c placed row found own size =
    let is = same_Some (app_row c.app-row.result.now) row (sym (rw c.inventory-inventory.ensures.value at c.app-row.ensures) ∙ found) in
    master-away c.args.cluster.now c.inventory-inventory.ensures.sound c.inventory-inventory.ensures.configured c.args.app row found c.args.p c.requires.partition placed own
    (λ home. c.if-row-p.true (ap (λ (r : AppRow). r.home) is ∙ home))

pub returns-clause-may : goal.returns-clause-may
returns-clause-may c placed row found own size =
    let is = same_Some (app_row c.app-row.result.now) row (sym (rw c.inventory-inventory.ensures.value at c.app-row.ensures) ∙ found) in
    master-free c.args.cluster.now c.inventory-inventory.ensures.sound c.inventory-inventory.ensures.configured c.args.app row found c.args.p c.requires.partition placed own
    (sym (ap (λ (r : AppRow). r.home) is) ∙ c.if-row-p.false) (sym (ap (λ (r : AppRow). r.master) is) ∙ size-same c.app-row.result.now.master_size c.args.size.now (not-false _ (sym c.ne.ensures ∙ c.if-ne.false)) ∙ size)
    ∙ ap not (sym (at_live (λ row. c.runs.result ≡ runs_at c.args.cluster.now.rows c.args.app row) _ row (rw c.inventory-inventory.ensures.value at c.runs.ensures) found))
