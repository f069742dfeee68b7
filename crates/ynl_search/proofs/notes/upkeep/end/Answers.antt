use Rattle.std.proofs.Common.{◌≡◌, nat_eq, Some, sym, ap, subst, ◌∙◌}
use Rattle.std.specs.Map.{lookup}
use Rattle.std.proofs.lemmas.Option.{same_Some}
use Rattle.ynl_tables.specs.declared.containers.container.Container.{Container}
use Rattle.ynl_inventory.specs.Parts.{Held, app_row, held_at}
use Rattle.ynl_inventory.specs.Sound.{IsSound}
use Rattle.ynl_inventory.proofs.Finding.{has-partition}
use Rattle.ynl_cluster.proofs.ledger.Calls.{stands-there}
use Rattle.ynl_cluster.specs.Cluster.{ClusterView}
use Rattle.ynl_search.proofs.notes.GuestKeeping.{end-guests}
use Rattle.ynl_search.proofs.notes.Keeping.{changed-there, end-right, leaf-is, part, still-there}
use Rattle.ynl_search.proofs.notes.upkeep.end.Goals as goal

pub app-app-requires : goal.app-app-requires
app-app-requires c =
    (stands-there c.inventory-inventory.result.now.rows (subst (λ (h : Held). IsSound h.rows) (sym c.inventory-inventory.ensures.value) c.inventory-inventory.ensures.sound) c.args.p c.args.number c.container-held.result c.container-held.ensures).1

pub change_way-requires-clause-leaf : goal.change_way-requires-clause-leaf
change_way-requires-clause-leaf c =
    leaf-is c.args.cluster.now c.end-ended.new.self c.inventory-inventory.ensures.sound c.container-held.result.app (app_row c.app-app.result.now)
    (subst (λ (h : Held). lookup (nat_eq c.container-held.result.app) h.rows.apps ≡ Some (app_row c.app-app.result.now)) c.inventory-inventory.ensures.value c.app-app.ensures)
    (ap (λ (w : ClusterView). w.rows.paths) c.end-ended.ensures.rows)

pub change_way-requires-clause-only : goal.change_way-requires-clause-only
change_way-requires-clause-only c =
    let w = c.args.cluster.now in
    let u = c.end-ended.new.self in
    let sound = c.inventory-inventory.ensures.sound in
    let config = ap (λ (w : ClusterView). w.config) c.end-ended.ensures.rows in
    let at = part w c.args.p c.args.number c.end-ended.result c.end-ended.ensures.value in
    changed-there u.rows c.end-ended.result.role c.args.p c.changed_on.result c.changed_on.ensures
    (still-there w u c.inventory-inventory.ensures.configured c.inventory.ensures.configured config c.args.p (has-partition w.rows sound c.args.p at.0 at.1))

pub returns-clause-shut : goal.returns-clause-shut
returns-clause-shut c = λ shut.
    let w = c.args.cluster.now in
    let u = c.end-ended.new.self in
    let way = c.change_way.ensures in
    let row = app_row c.app-app.result.now in
    let config = ap (λ (w : ClusterView). w.config) c.end-ended.ensures.rows in
    let held : c.container-held.result ≡ c.end-ended.result = same_Some c.container-held.result c.end-ended.result
    (sym (subst (λ (h : Held). held_at h.rows c.args.p c.args.number ≡ Some c.container-held.result) c.inventory-inventory.ensures.value c.container-held.ensures) ∙ c.end-ended.ensures.value) in
    let found : lookup (nat_eq c.end-ended.result.app) w.rows.apps ≡ Some (app_row c.app-app.result.now) =
    subst (λ (x : Container). lookup (nat_eq x.app) w.rows.apps ≡ Some (app_row c.app-app.result.now)) held
    (subst (λ (h : Held). lookup (nat_eq c.container-held.result.app) h.rows.apps ≡ Some (app_row c.app-app.result.now)) c.inventory-inventory.ensures.value c.app-app.ensures) in
    let leaf = leaf-is w u c.inventory-inventory.ensures.sound c.end-ended.result.app row found (ap (λ (w : ClusterView). w.rows.paths) c.end-ended.ensures.rows) in
    record {
      own =
          end-right w u c.inventory-inventory.ensures.sound way.sound c.requires.working c.inventory-inventory.ensures.configured way.configured config c.args.shut.now.own c.change_way.new.shut.own
          c.args.p c.args.number c.end-ended.result row c.end-ended.ensures.value found c.end-ended.ensures.state c.changed_on.result c.changed_on.ensures leaf way.left shut.own;
      guests =
          end-guests w u c.inventory-inventory.ensures.sound way.sound c.requires.working c.inventory-inventory.ensures.configured way.configured config c.args.shut.now.guests c.change_way.new.shut.guests
          c.args.p c.args.number c.end-ended.result row c.end-ended.ensures.value found c.end-ended.ensures.state way.guests shut.guests;
    }
