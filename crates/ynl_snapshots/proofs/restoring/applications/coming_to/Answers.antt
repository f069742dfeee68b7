-- What is tested of the name and the leaf of a line.
use Rattle.std.proofs.Common.{◌∙◌, true, false, sym, refl}
use Rattle.ynl_resource.specs.Names.{tenant_of}
use Rattle.ynl_model.specs.Applications.{is_used}
use Rattle.ynl_model.specs.Queues.{is_leaf}
use Rattle.ynl_laws.proofs.Logic.{none-is}
use Rattle.ynl_cluster.specs.Cluster.{path_of, state_in}
use Rattle.ynl_replies.proofs.admission.Submitting.{tenant-is}
use Rattle.ynl_snapshots.proofs.restoring.Coming.{come-told, leaf-there, tenant-below, used-told}
use Rattle.ynl_snapshots.proofs.restoring.applications.coming_to.Goals as goal

pub returns-in_default-clause-sound : goal.returns-in_default-clause-sound
returns-in_default-clause-sound c =
    come-told c.args.cluster.now.config (state_in c.args.cluster.now) c.args.queue.now c.args.app.now false (is_leaf c.args.cluster.now.config c.args.queue.now) (is_used (state_in c.args.cluster.now).leaves (tenant_of c.args.queue.now) c.args.app.now)
    (sym c.in_default.ensures.known) refl refl

pub returns-then-not-is_leaf-clause-sound : goal.returns-then-not-is_leaf-clause-sound
returns-then-not-is_leaf-clause-sound c =
    come-told c.args.cluster.now.config (state_in c.args.cluster.now) c.args.queue.now c.args.app.now true false (is_used (state_in c.args.cluster.now).leaves (tenant_of c.args.queue.now) c.args.app.now)
    (sym c.in-Some.ensures.known) (sym (rw (c.deref.ensures, c.config.ensures, c.names.ensures.names) at c.is_leaf.ensures) ∙ c.if-not-is_leaf.true) refl

pub tenant_of_leaf-tenant-requires : goal.tenant_of_leaf-tenant-requires
tenant_of_leaf-tenant-requires c =
    leaf-there c.args.cluster.now c.inventory-inventory.ensures.configured c.args.queue.now c.in-Some.leaf c.in-Some.ensures.some
    (sym (rw (c.deref.ensures, c.config.ensures, c.names.ensures.names) at c.is_leaf.ensures) ∙ c.if-not-is_leaf.false)

pub returns-then-is_some-clause-sound : goal.returns-then-is_some-clause-sound
returns-then-is_some-clause-sound c =
    come-told c.args.cluster.now.config (state_in c.args.cluster.now) c.args.queue.now c.args.app.now true true true
    (sym c.in-Some.ensures.known) (sym (rw (c.deref.ensures, c.config.ensures, c.names.ensures.names) at c.is_leaf.ensures) ∙ c.if-not-is_leaf.false)
    (used-told c.args.cluster.now c.inventory-inventory.ensures.sound c.args.queue.now c.in-Some.leaf c.in-Some.ensures.some c.args.app.now c.tenant_of_leaf-tenant.result c.tenant_of_leaf-tenant.ensures.there
    c.tenant_of_leaf-tenant.ensures.path c.find_turn.result (rw c.inventory-inventory.ensures.value at c.find_turn.ensures) ∙ sym c.is_some.ensures ∙ c.if-is_some.true)

pub returns-clause-sound : goal.returns-clause-sound
returns-clause-sound c =
    come-told c.args.cluster.now.config (state_in c.args.cluster.now) c.args.queue.now c.args.app.now true true false
    (sym c.in-Some.ensures.known) (sym (rw (c.deref.ensures, c.config.ensures, c.names.ensures.names) at c.is_leaf.ensures) ∙ c.if-not-is_leaf.false)
    (used-told c.args.cluster.now c.inventory-inventory.ensures.sound c.args.queue.now c.in-Some.leaf c.in-Some.ensures.some c.args.app.now c.tenant_of_leaf-tenant.result c.tenant_of_leaf-tenant.ensures.there
    c.tenant_of_leaf-tenant.ensures.path c.find_turn.result (rw c.inventory-inventory.ensures.value at c.find_turn.ensures) ∙ sym c.is_some.ensures ∙ c.if-is_some.false)

pub returns-clause-comes : goal.returns-clause-comes
returns-clause-comes c =
    let leaf =
    leaf-there c.args.cluster.now c.inventory-inventory.ensures.configured c.args.queue.now c.in-Some.leaf c.in-Some.ensures.some
    (sym (rw (c.deref.ensures, c.config.ensures, c.names.ensures.names) at c.is_leaf.ensures) ∙ c.if-not-is_leaf.false)
    in
    record {
      queue_is = c.in-Some.ensures.some;
      leaf = leaf;
      unnamed = sym (rw c.inventory-inventory.ensures.value at c.find_turn.ensures) ∙ none-is c.find_turn.result (sym c.is_some.ensures ∙ c.if-is_some.false);
      tenant = tenant-is c.args.cluster.now c.inventory-inventory.ensures.sound c.in-Some.leaf leaf c.tenant_of_leaf-tenant.result c.tenant_of_leaf-tenant.ensures.there c.tenant_of_leaf-tenant.ensures.path;
      there = c.tenant_of_leaf-tenant.ensures.there;
      below_root = tenant-below c.args.cluster.now.rows.paths c.tenant_of_leaf-tenant.result (tenant_of (path_of c.args.cluster.now c.in-Some.leaf)) c.tenant_of_leaf-tenant.ensures.path;
    }
