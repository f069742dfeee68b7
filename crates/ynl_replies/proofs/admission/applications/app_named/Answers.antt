use Rattle.ynl_replies.proofs.admission.AppsNamed.{app-of-name, none-of-name, none-without}
use Rattle.ynl_replies.proofs.admission.applications.app_named.Goals as goal

pub returns-in-Some-clause-some : goal.returns-in-Some-clause-some
returns-in-Some-clause-some c =
    let child = rw c.inventory-inventory.ensures.value at c.in-Some.ensures.some in
    app-of-name c.args.cluster.now c.inventory-inventory.ensures.sound c.args.tenant.now c.args.name.now c.in-Some.number child.there child.path c.find_app.result
    (rw c.inventory-inventory.ensures.value at c.find_app.ensures)

pub returns-in-Some-clause-none : goal.returns-in-Some-clause-none
returns-in-Some-clause-none c =
    let child = rw c.inventory-inventory.ensures.value at c.in-Some.ensures.some in
    none-of-name c.args.cluster.now c.inventory-inventory.ensures.sound c.args.tenant.now c.args.name.now c.in-Some.number child.there child.path c.find_app.result
    (rw c.inventory-inventory.ensures.value at c.find_app.ensures)

pub returns-in-None-clause-none : goal.returns-in-None-clause-none
returns-in-None-clause-none c =
    none-without c.args.cluster.now c.inventory-inventory.ensures.sound c.args.tenant.now c.args.name.now (rw c.inventory-inventory.ensures.value at c.in-None.ensures.none)
