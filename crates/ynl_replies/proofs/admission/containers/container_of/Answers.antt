-- The container of an id and a tenant is that of the clock, where there are such a partition and tenant, and the application is the tenant's.
use Rattle.std.proofs.Common.{sym, ◌∙◌}
use Rattle.ynl_inventory.proofs.PlacedRead.{app-there}
use Rattle.ynl_replies.proofs.admission.ContainersNamed.{release-can, release-none, release-nowhere, release-other, release-unowned}
use Rattle.ynl_replies.proofs.admission.containers.container_of.Goals as goal

pub returns-in_default-clause-none : goal.returns-in_default-clause-none
returns-in_default-clause-none c =
    release-nowhere c.args.cluster.now c.inventory-inventory.ensures.sound c.inventory-inventory.ensures.configured c.args.tenant.now c.args.id.now (sym c.in_default.ensures.known)

pub returns-in_default-tenant_of-clause-none : goal.returns-in_default-tenant_of-clause-none
returns-in_default-tenant_of-clause-none c =
    release-unowned c.args.cluster.now c.inventory-inventory.ensures.sound c.args.tenant.now (rw c.inventory-inventory.ensures.value at c.in_default-tenant_of.ensures.none) c.args.id.now c.in-Some.partition
    c.in-Some.ensures.some.there c.in-Some.ensures.some.own

pub returns-in_default-clocked-clause-none : goal.returns-in_default-clocked-clause-none
returns-in_default-clocked-clause-none c =
    release-none c.args.cluster.now c.inventory-inventory.ensures.sound c.args.tenant.now c.in-Some-tenant_of.tenant (rw c.inventory-inventory.ensures.value at c.in-Some-tenant_of.ensures.some) c.args.id.now
    c.in-Some.partition c.in-Some.ensures.some c.in_default-clocked.ensures.value

pub is_of-requires : goal.is_of-requires
is_of-requires c =
    app-there c.args.cluster.now.rows c.inventory-inventory.ensures.sound c.in-Some.partition c.in-Some-clocked.found.number c.in-Some-clocked.found.container c.in-Some-clocked.ensures.held

pub returns-then-not-is_of-clause-none : goal.returns-then-not-is_of-clause-none
returns-then-not-is_of-clause-none c =
    release-other c.args.cluster.now c.inventory-inventory.ensures.sound c.args.tenant.now c.in-Some-tenant_of.tenant (rw c.inventory-inventory.ensures.value at c.in-Some-tenant_of.ensures.some) c.args.id.now
    c.in-Some.partition c.in-Some.ensures.some c.in-Some-clocked.found.container c.in-Some-clocked.ensures.value (sym c.is_of.ensures ∙ c.if-not-is_of.true)

pub returns-clause-some : goal.returns-clause-some
returns-clause-some c =
    release-can c.args.cluster.now c.inventory-inventory.ensures.sound c.args.tenant.now c.in-Some-tenant_of.tenant (rw c.inventory-inventory.ensures.value at c.in-Some-tenant_of.ensures.some) c.args.id.now
    c.in-Some.partition c.in-Some.ensures.some c.in-Some-clocked.found.container c.in-Some-clocked.ensures.value c.in-Some-clocked.found.number c.in-Some-clocked.ensures.held
    (sym c.is_of.ensures ∙ c.if-not-is_of.false)
