use Rattle.std.proofs.Common.{◌∙◌, ◌≡◌, nat_eq, Some, is_some, sym, ap, subst}
use Rattle.std.specs.Map.{lookup}
use Rattle.ynl_inventory.specs.Parts.{Held, app_row, held_at, node_row}
use Rattle.ynl_inventory.specs.Rows.{NodeRow}
use Rattle.ynl_cluster.specs.Cluster.{ClusterView}
use Rattle.std.specs.Prelude.{IfSome, IsSome}
use Rattle.std.specs.Option.{option_map_or}
use Rattle.ynl_inventory.specs.Changes.{partition_of_node}
use Rattle.ynl_inventory.specs.Sound.{HasPartition}
use Rattle.ynl_inventory.proofs.Finding.{has-partition}
use Rattle.ynl_inventory.specs.Meaning.{label_at, placed_of}
use Rattle.ynl_search.proofs.notes.GuestKeeping.{place-guests}
use Rattle.ynl_search.proofs.notes.Keeping.{changed-there, leaf-is, place-right, still-there}
use Rattle.ynl_search.proofs.notes.Told.{there, told-in}
use Rattle.std.proofs.lemmas.Option.{same_Some}
use Rattle.ynl_search.proofs.notes.upkeep.place.Goals as goal

pub change_way-requires-clause-leaf : goal.change_way-requires-clause-leaf
change_way-requires-clause-leaf c =
    leaf-is c.args.cluster.now c.place-number.new.self c.inventory-inventory.ensures.sound c.args.placed.now.app (app_row c.app-app.result.now)
    (subst (λ (h : Held). lookup (nat_eq c.args.placed.now.app) h.rows.apps ≡ Some (app_row c.app-app.result.now)) c.inventory-inventory.ensures.value c.app-app.ensures)
    (ap (λ (w : ClusterView). w.rows.paths) c.place-number.ensures.rows)

pub change_way-requires-clause-only : goal.change_way-requires-clause-only
change_way-requires-clause-only c =
    let w = c.args.cluster.now in
    let u = c.place-number.new.self in
    let can = c.requires.can.placeable in
    let config = ap (λ (w : ClusterView). w.config) c.place-number.ensures.rows in
    let there : can.node_row ≡ node_row c.node-node.result.now =
    same_Some can.node_row (node_row c.node-node.result.now)
    (sym can.node_found ∙ subst (λ (h : Held). lookup (nat_eq c.args.placed.now.node) h.rows.nodes ≡ Some (node_row c.node-node.result.now)) c.inventory-inventory.ensures.value c.node-node.ensures) in
    changed-there u.rows c.args.placed.now.role c.node-node.result.now.partition c.changed_on.result c.changed_on.ensures
    (still-there w u c.inventory-inventory.ensures.configured c.inventory.ensures.configured config c.node-node.result.now.partition
    (subst (λ (row : NodeRow). HasPartition w.rows row.partition) there (has-partition w.rows c.inventory-inventory.ensures.sound can.node_row.partition can.partition can.partition_found)))

pub placed-told-requires : goal.placed-told-requires
placed-told-requires c =
    let at : partition_of_node c.args.cluster.now.rows.nodes c.args.placed.now.node ≡ c.node-node.result.now.partition =
    ap (λ o. option_map_or (λ (row : NodeRow). row.partition) o 0) (subst (λ (h : Held). lookup (nat_eq c.args.placed.now.node) h.rows.nodes ≡ Some (node_row c.node-node.result.now)) c.inventory-inventory.ensures.value c.node-node.ensures) in
    subst (λ (h : Held). IsSome (held_at h.rows c.node-node.result.now.partition c.place-number.result)) (sym c.inventory.ensures.value)
    (ap is_some (there c.args.cluster.now c.place-number.new.self c.inventory-inventory.ensures.sound c.args.placed.now.node c.args.placed.now.app c.args.placed.now.role c.args.placed.now.size
    c.requires.can.placeable c.place-number.result c.place-number.ensures.unused (ap (λ (w : ClusterView). w.rows) c.place-number.ensures.rows) c.node-node.result.now.partition at))

pub returns-clause-told : goal.returns-clause-told
returns-clause-told c can =
    let at : partition_of_node c.args.cluster.now.rows.nodes c.args.placed.now.node ≡ c.node-node.result.now.partition =
    ap (λ o. option_map_or (λ (row : NodeRow). row.partition) o 0) (subst (λ (h : Held). lookup (nat_eq c.args.placed.now.node) h.rows.nodes ≡ Some (node_row c.node-node.result.now)) c.inventory-inventory.ensures.value c.node-node.ensures) in
    told-in c.args.cluster.now c.place-number.new.self c.inventory-inventory.ensures.sound c.inventory-inventory.ensures.configured
    c.args.placed.now.node c.args.placed.now.app c.args.placed.now.role c.args.placed.now.size can c.place-number.result c.place-number.ensures.unused (ap (λ (w : ClusterView). w.rows) c.place-number.ensures.rows)
    c.node-node.result.now.partition at c.placed-told.result
    (subst (λ (h : Held). IfSome (held_at h.rows c.node-node.result.now.partition c.place-number.result) (λ x. c.placed-told.result ≡ placed_of h.rows (label_at h.rows.partitions c.node-node.result.now.partition) x))
    c.inventory.ensures.value c.placed-told.ensures)

pub returns-clause-shut : goal.returns-clause-shut
returns-clause-shut c = λ shut.
    let w = c.args.cluster.now in
    let u = c.place-number.new.self in
    let placed = c.args.placed.now in
    let way = c.change_way.ensures in
    let can = c.requires.can.placeable in
    let row = app_row c.app-app.result.now in
    let config = ap (λ (w : ClusterView). w.config) c.place-number.ensures.rows in
    let found : lookup (nat_eq placed.app) w.rows.apps ≡ Some (app_row c.app-app.result.now) =
    subst (λ (h : Held). lookup (nat_eq placed.app) h.rows.apps ≡ Some (app_row c.app-app.result.now)) c.inventory-inventory.ensures.value c.app-app.ensures in
    let leaf = leaf-is w u c.inventory-inventory.ensures.sound placed.app row found (ap (λ (w : ClusterView). w.rows.paths) c.place-number.ensures.rows) in
    record {
      own =
          place-right w u c.inventory-inventory.ensures.sound way.sound c.requires.working c.inventory-inventory.ensures.configured way.configured config c.args.shut.now.own c.change_way.new.shut.own
          placed.node placed.app placed.role placed.size can (c.place-number.ensures.state can) row found
          (node_row c.node-node.result.now) (subst (λ (h : Held). lookup (nat_eq placed.node) h.rows.nodes ≡ Some (node_row c.node-node.result.now)) c.inventory-inventory.ensures.value c.node-node.ensures)
          c.changed_on.result c.changed_on.ensures leaf way.left shut.own;
      guests =
          place-guests w u c.inventory-inventory.ensures.sound way.sound c.requires.working c.inventory-inventory.ensures.configured way.configured config c.args.shut.now.guests c.change_way.new.shut.guests
          placed.node placed.app placed.role placed.size can (c.place-number.ensures.state can) row found way.guests shut.guests;
    }
