use Rattle.std.proofs.Common.{◌≡◌, nat_eq, Some, ap, subst}
use Rattle.std.specs.Map.{lookup}
use Rattle.ynl_inventory.specs.Parts.{Held, app_row}
use Rattle.ynl_cluster.specs.Cluster.{ClusterView}
use Rattle.ynl_search.proofs.notes.GuestKeeping.{finish-guests}
use Rattle.ynl_search.proofs.notes.Keeping.{finish-right, leaf-is}
use Rattle.ynl_search.proofs.notes.upkeep.finish.Goals as goal

pub change_way-requires-clause-leaf : goal.change_way-requires-clause-leaf
change_way-requires-clause-leaf c =
    leaf-is c.args.cluster.now c.finish.new.self c.inventory-inventory.ensures.sound c.args.app (app_row c.app-row.result.now)
    (subst (λ (h : Held). lookup (nat_eq c.args.app) h.rows.apps ≡ Some (app_row c.app-row.result.now)) c.inventory-inventory.ensures.value c.app-row.ensures)
    (ap (λ (w : ClusterView). w.rows.paths) c.finish.ensures.same)

pub returns-clause-shut : goal.returns-clause-shut
returns-clause-shut c = λ shut.
    let w = c.args.cluster.now in
    let u = c.finish.new.self in
    let way = c.change_way.ensures in
    let row = app_row c.app-row.result.now in
    let config = ap (λ (w : ClusterView). w.config) c.finish.ensures.same in
    let found : lookup (nat_eq c.args.app) w.rows.apps ≡ Some (app_row c.app-row.result.now) =
    subst (λ (h : Held). lookup (nat_eq c.args.app) h.rows.apps ≡ Some (app_row c.app-row.result.now)) c.inventory-inventory.ensures.value c.app-row.ensures in
    let is = c.finish.ensures.state (app_row c.app-row.result.now) found in
    let leaf = leaf-is w u c.inventory-inventory.ensures.sound c.args.app row found (ap (λ (w : ClusterView). w.rows.paths) c.finish.ensures.same) in
    record {
      own =
          finish-right w u c.inventory-inventory.ensures.sound way.sound c.requires.working c.inventory-inventory.ensures.configured way.configured config c.args.shut.now.own c.change_way.new.shut.own
          c.args.app row found is leaf way.left shut.own;
      guests =
          finish-guests w u c.inventory-inventory.ensures.sound way.sound c.requires.working c.inventory-inventory.ensures.configured way.configured config c.args.shut.now.guests c.change_way.new.shut.guests
          c.args.app row is way.guests shut.guests;
    }
