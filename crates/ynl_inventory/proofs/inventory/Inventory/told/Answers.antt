-- A container's names are those of the rows.
use Rattle.std.proofs.Common.{◌≡◌, subst}
use Rattle.std.specs.Prelude.{IfSome}
use Rattle.ynl_tables.specs.declared.containers.container.Container.{Container}
use Rattle.ynl_inventory.specs.Meaning.{label_at, placed_of}
use Rattle.ynl_inventory.specs.Parts.{app_row, node_row}
use Rattle.ynl_inventory.proofs.PlacedRead.{has-partition, node-there, app-there, asked-there, tenant-below, tenant-there, placed-is}
use Rattle.ynl_inventory.proofs.inventory.Inventory.told.Goals as goal

pub node-node-requires : goal.node-node-requires
node-node-requires c = node-there c.args.self.now.rows c.partition_count.ensures.sound c.args.p c.requires.number c.args.held.now c.requires.held

pub app-app-requires : goal.app-app-requires
app-app-requires c = app-there c.args.self.now.rows c.partition_count.ensures.sound c.args.p c.requires.number c.args.held.now c.requires.held

pub label-label-requires : goal.label-label-requires
label-label-requires c = has-partition c.args.self.now.rows c.partition_count.ensures.sound c.args.p c.requires.number c.args.held.now c.requires.held

pub tenant_name-requires-clause-below_root : goal.tenant_name-requires-clause-below_root
tenant_name-requires-clause-below_root c = tenant-below c.args.self.now.rows c.partition_count.ensures.sound c.args.held.now.app (app_row c.app-app.result.now) c.app-app.ensures

pub tenant_name-requires-clause-there : goal.tenant_name-requires-clause-there
tenant_name-requires-clause-there c =
    tenant-there c.args.self.now.rows c.partition_count.ensures.sound c.args.p c.requires.number c.args.held.now c.requires.held (app_row c.app-app.result.now) c.app-app.ensures

pub app_name-requires : goal.app_name-requires
app_name-requires c = app-there c.args.self.now.rows c.partition_count.ensures.sound c.args.p c.requires.number c.args.held.now c.requires.held

pub what-requires : goal.what-requires
what-requires c = asked-there c.args.self.now.rows c.partition_count.ensures.sound c.args.p c.requires.number c.args.held.now c.requires.held

pub returns : goal.returns
returns c =
    subst (λ o. IfSome o (λ (held : Container). record { id = record { label = c.label-label.result.now; clock = c.args.held.now.clock }; node = c.node-node.result.now.name; tenant = c.tenant_name.result; app = c.app_name.result.now; what = c.what.result; size = c.args.held.now.size } ≡ placed_of c.args.self.now.rows (label_at c.args.self.now.rows.partitions c.args.p) held))
    c.requires.held
    (placed-is c.args.self.now.rows c.partition_count.ensures.sound c.args.p c.requires.number c.args.held.now c.requires.held
    c.label-label.result.now c.label-label.ensures
    (node_row c.node-node.result.now) c.node-node.ensures (app_row c.app-app.result.now) c.app-app.ensures c.tenant_name.result c.tenant_name.ensures c.app_name.result.now c.app_name.ensures
    c.what.result c.what.ensures)
