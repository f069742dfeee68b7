use Rattle.std.proofs.Common.{refl, sym, subst}
use Rattle.ynl_inventory.specs.Parts.{Held, app_row}
use Rattle.ynl_inventory.specs.Sound.{IsSound}
use Rattle.ynl_cluster.proofs.ledger.Calls.{stands-there}
use Rattle.ynl_core.proofs.containers.leaf_of.Goals as goal

pub app-requires : goal.app-requires
app-requires c =
    let is = c.inventory-inventory.ensures in
    (stands-there c.inventory-inventory.result.now.rows (subst (λ (h : Held). IsSound h.rows) (sym is.value) is.sound) c.args.held.now.partition c.args.held.now.number c.container-container.result
    c.container-container.ensures).1

pub returns-clause-leaf : goal.returns-clause-leaf
returns-clause-leaf c =
    let is = c.inventory-inventory.ensures in
    record {
      container = c.container-container.result;
      held = rw is.value at c.container-container.ensures;
      row = app_row c.app.result.now;
      found = rw is.value at c.app.ensures;
      is = refl;
    }
