-- The name and the leaf's live applications tell whether an application comes to a leaf.
use Rattle.std.proofs.Common.{◌≡◌, ℕ, [], ◌∷◌, Option, None, Some, is_some, refl, sym, false, true≢false, ◌∙◌}
use Rattle.ynl_resource.specs.Refusals.{first_that_holds}
use Rattle.ynl_resource.specs.declared.refusals.Refusal.TheVariants.{NameUsed, TooManyApplications}
use Rattle.ynl_model.specs.Events.{has_most_apps}
use Rattle.ynl_cluster.specs.Cluster.{path_of, state_in}
use Rattle.ynl_replies.proofs.admission.Submitting.{first-there, may-come, target-leaf}
use Rattle.ynl_replies.proofs.admission.submissions.submit.Goals as goal

nothing : (o : Option ℕ) → is_some o ≡ false → o ≡ None
nothing None is = refl
nothing (Some n) is = absurd (true≢false is)

pub tenant_of_leaf-tenant-requires : goal.tenant_of_leaf-tenant-requires
tenant_of_leaf-tenant-requires c = target-leaf c.args.cluster.now c.inventory-inventory.ensures.sound c.inventory-inventory.ensures.configured c.args.queue.now c.args.label.now c.args.master.now c.in_ok-target.target c.in_ok-target.ensures.target

pub returns-then-is_some-clause-refused : goal.returns-then-is_some-clause-refused
returns-then-is_some-clause-refused c = λ user.
    first-there c.args.cluster.now c.inventory-inventory.ensures.sound c.inventory-inventory.ensures.configured c.args.queue.now c.args.label.now c.args.master.now c.in_ok-target.target c.in_ok-target.ensures.target
    c.args.app.now c.tenant_of_leaf-tenant.result c.tenant_of_leaf-tenant.ensures.there c.tenant_of_leaf-tenant.ensures.path c.find_turn.result
    (rw c.inventory-inventory.ensures.value at c.find_turn.ensures)
    (has_most_apps c.args.cluster.now.config (state_in c.args.cluster.now) (path_of c.args.cluster.now c.in_ok-target.target.leaf)) refl user
    ∙ (λ i. first_that_holds ((NameUsed, (sym c.is_some.ensures ∙ c.if-is_some.true) i)
    ∷ (TooManyApplications, has_most_apps c.args.cluster.now.config (state_in c.args.cluster.now) (path_of c.args.cluster.now c.in_ok-target.target.leaf)) ∷ []))

pub has_most_apps-requires : goal.has_most_apps-requires
has_most_apps-requires c = target-leaf c.args.cluster.now c.inventory-inventory.ensures.sound c.inventory-inventory.ensures.configured c.args.queue.now c.args.label.now c.args.master.now c.in_ok-target.target c.in_ok-target.ensures.target

pub returns-then-has_most_apps-clause-refused : goal.returns-then-has_most_apps-clause-refused
returns-then-has_most_apps-clause-refused c = λ user.
    first-there c.args.cluster.now c.inventory-inventory.ensures.sound c.inventory-inventory.ensures.configured c.args.queue.now c.args.label.now c.args.master.now c.in_ok-target.target c.in_ok-target.ensures.target
    c.args.app.now c.tenant_of_leaf-tenant.result c.tenant_of_leaf-tenant.ensures.there c.tenant_of_leaf-tenant.ensures.path c.find_turn.result
    (rw c.inventory-inventory.ensures.value at c.find_turn.ensures)
    c.has_most_apps.result c.has_most_apps.ensures user
    ∙ (λ i. first_that_holds ((NameUsed, (sym c.is_some.ensures ∙ c.if-is_some.false) i) ∷ (TooManyApplications, c.if-has_most_apps.true i) ∷ []))

pub returns-clause-free : goal.returns-clause-free
returns-clause-free c = λ user.
    first-there c.args.cluster.now c.inventory-inventory.ensures.sound c.inventory-inventory.ensures.configured c.args.queue.now c.args.label.now c.args.master.now c.in_ok-target.target c.in_ok-target.ensures.target
    c.args.app.now c.tenant_of_leaf-tenant.result c.tenant_of_leaf-tenant.ensures.there c.tenant_of_leaf-tenant.ensures.path c.find_turn.result
    (rw c.inventory-inventory.ensures.value at c.find_turn.ensures)
    c.has_most_apps.result c.has_most_apps.ensures user
    ∙ (λ i. first_that_holds ((NameUsed, (sym c.is_some.ensures ∙ c.if-is_some.false) i) ∷ (TooManyApplications, c.if-has_most_apps.false i) ∷ []))

pub returns-clause-comes : goal.returns-clause-comes
returns-clause-comes c =
    may-come c.args.cluster.now c.inventory-inventory.ensures.sound c.inventory-inventory.ensures.configured c.args.queue.now c.args.label.now c.args.master.now c.in_ok-target.target c.in_ok-target.ensures.target
    c.args.app.now c.tenant_of_leaf-tenant.result c.tenant_of_leaf-tenant.ensures.there c.tenant_of_leaf-tenant.ensures.path c.find_turn.result
    (rw c.inventory-inventory.ensures.value at c.find_turn.ensures)
    (nothing c.find_turn.result (sym c.is_some.ensures ∙ c.if-is_some.false))
