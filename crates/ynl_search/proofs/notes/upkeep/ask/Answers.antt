use Rattle.std.proofs.Common.{◌≡◌, nat_eq, Some, ap, subst, sym}
use Rattle.std.specs.Prelude.{IfSome}
use Rattle.std.specs.Map.{lookup}
use Rattle.ynl_inventory.specs.Parts.{Held, app_row}
use Rattle.ynl_inventory.specs.Rows.{AppRow}
use Rattle.ynl_inventory.specs.Sound.{HasPartition, IsAskedOn}
use Rattle.ynl_inventory.proofs.Asked.{on-there}
use Rattle.ynl_cluster.specs.Cluster.{ClusterView}
use Rattle.ynl_search.proofs.notes.GuestKeeping.{ask-guests}
use Rattle.ynl_search.proofs.notes.Keeping.{ask-right, leaf-is}
use Rattle.ynl_search.proofs.notes.upkeep.ask.Goals as goal

pub change_way-requires-clause-leaf : goal.change_way-requires-clause-leaf
change_way-requires-clause-leaf c =
    leaf-is c.args.cluster.now c.ask.new.self c.inventory-inventory.ensures.sound c.args.app (app_row c.app-row.result.now)
    (subst (λ (h : Held). lookup (nat_eq c.args.app) h.rows.apps ≡ Some (app_row c.app-row.result.now)) c.inventory-inventory.ensures.value c.app-row.ensures)
    (ap (λ (w : ClusterView). w.rows.paths) c.in_ok-ask.ensures.ok)

pub change_way-requires-clause-only : goal.change_way-requires-clause-only
change_way-requires-clause-only c =
    let w = c.args.cluster.now in
    let row = app_row c.app-row.result.now in
    let sound = c.inventory-inventory.ensures.sound in
    let found : lookup (nat_eq c.args.app) w.rows.apps ≡ Some (app_row c.app-row.result.now) =
    subst (λ (h : Held). lookup (nat_eq c.args.app) h.rows.apps ≡ Some (app_row c.app-row.result.now)) c.inventory-inventory.ensures.value c.app-row.ensures in
    let own : IsAskedOn (app_row c.app-row.result.now).home c.args.ask.partition = subst (λ o. IfSome o (λ (r : AppRow). IsAskedOn r.home c.args.ask.partition)) found c.requires.can.1 in
    subst (λ (u : ClusterView). HasPartition u.rows c.args.ask.partition) (sym c.in_ok-ask.ensures.ok)
    (on-there w.rows sound row.home (sound.apps c.args.app row found).home c.args.ask.partition own)

pub returns-clause-shut : goal.returns-clause-shut
returns-clause-shut c = λ shut.
    let w = c.args.cluster.now in
    let u = c.ask.new.self in
    let way = c.change_way.ensures in
    let row = app_row c.app-row.result.now in
    let config = ap (λ (w : ClusterView). w.config) c.in_ok-ask.ensures.ok in
    let found : lookup (nat_eq c.args.app) w.rows.apps ≡ Some (app_row c.app-row.result.now) =
    subst (λ (h : Held). lookup (nat_eq c.args.app) h.rows.apps ≡ Some (app_row c.app-row.result.now)) c.inventory-inventory.ensures.value c.app-row.ensures in
    let is = c.in_ok-ask.ensures.state (app_row c.app-row.result.now) found in
    let leaf = leaf-is w u c.inventory-inventory.ensures.sound c.args.app row found (ap (λ (w : ClusterView). w.rows.paths) c.in_ok-ask.ensures.ok) in
    record {
      own =
          ask-right w u c.inventory-inventory.ensures.sound way.sound c.requires.working c.inventory-inventory.ensures.configured way.configured config c.args.shut.now.own c.change_way.new.shut.own
          c.args.app c.args.ask row found c.requires.can is leaf way.left shut.own;
      guests =
          ask-guests w u c.inventory-inventory.ensures.sound way.sound c.requires.working c.inventory-inventory.ensures.configured way.configured config c.args.shut.now.guests c.change_way.new.shut.guests
          c.args.app c.args.ask row is way.guests shut.guests;
    }
