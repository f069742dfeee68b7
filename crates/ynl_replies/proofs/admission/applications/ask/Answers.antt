-- What is tested of an ask by numbers is what the model tests.
use Rattle.std.proofs.Common.{ap, is_some, not, refl, sym, true, false, ◌∙◌}
use Rattle.ynl_resource.specs.Amounts.{fits_in}
use Rattle.ynl_model.specs.Check.{app_that}
use Rattle.ynl_model.specs.Events.{is_one_too_many}
use Rattle.ynl_inventory.specs.Parts.{app_row}
use Rattle.ynl_cluster.specs.Cluster.{state_in}
use Rattle.ynl_replies.proofs.admission.AsksTold.{foreign-told, many-told}
use Rattle.ynl_replies.proofs.admission.FirstReasons.{first-ask}
use Rattle.ynl_replies.proofs.admission.applications.ask.Goals as goal

pub returns-then-is_foreign-clause-refused : goal.returns-then-is_foreign-clause-refused
returns-then-is_foreign-clause-refused c =
    first-ask c.args.cluster.now.config (state_in c.args.cluster.now) c.args.tenant.now c.args.name.now c.args.ask.now.label c.args.ask.now.priority c.args.ask.now.count c.args.ask.now.size true true true
    (not (fits_in c.args.ask.now.size c.args.cluster.now.config.maximum_allocation))
    (app_that (state_in c.args.cluster.now) c.args.tenant.now c.args.name.now (is_one_too_many c.args.ask.now.label c.args.ask.now.priority c.args.ask.now.count))
    (ap is_some c.in-Some.ensures.some.named) (sym c.in-Some-partition_of.ensures.known)
    (foreign-told c.args.cluster.now c.inventory.ensures.sound c.args.tenant.now c.args.name.now c.in-Some.app c.in-Some.ensures.some (app_row c.app-row.result.now)
    (rw c.inventory.ensures.value at c.app-row.ensures) c.args.ask.now.label c.in-Some-partition_of.partition c.in-Some-partition_of.ensures.some
    ∙ sym c.is_foreign.ensures ∙ c.if-is_foreign.true)
    refl refl

pub returns-then-is_one_too_many-clause-refused : goal.returns-then-is_one_too_many-clause-refused
returns-then-is_one_too_many-clause-refused c =
    first-ask c.args.cluster.now.config (state_in c.args.cluster.now) c.args.tenant.now c.args.name.now c.args.ask.now.label c.args.ask.now.priority c.args.ask.now.count c.args.ask.now.size true true false false true
    (ap is_some c.in-Some.ensures.some.named) (sym c.in-Some-partition_of.ensures.known)
    (foreign-told c.args.cluster.now c.inventory.ensures.sound c.args.tenant.now c.args.name.now c.in-Some.app c.in-Some.ensures.some (app_row c.app-row.result.now)
    (rw c.inventory.ensures.value at c.app-row.ensures) c.args.ask.now.label c.in-Some-partition_of.partition c.in-Some-partition_of.ensures.some
    ∙ sym c.is_foreign.ensures ∙ c.if-is_foreign.false)
    (sym c.is_too_large.ensures ∙ c.if-is_too_large.false)
    (many-told c.args.cluster.now c.inventory.ensures.sound c.args.tenant.now c.args.name.now c.in-Some.app c.in-Some.ensures.some (app_row c.app-row.result.now)
    (rw c.inventory.ensures.value at c.app-row.ensures) c.args.ask.now.label c.in-Some-partition_of.partition c.in-Some-partition_of.ensures.some c.args.ask.now.priority c.args.ask.now.count
    ∙ sym c.is_one_too_many.ensures ∙ c.if-is_one_too_many.true)

pub returns-clause-free : goal.returns-clause-free
returns-clause-free c =
    first-ask c.args.cluster.now.config (state_in c.args.cluster.now) c.args.tenant.now c.args.name.now c.args.ask.now.label c.args.ask.now.priority c.args.ask.now.count c.args.ask.now.size true true false false false
    (ap is_some c.in-Some.ensures.some.named) (sym c.in-Some-partition_of.ensures.known)
    (foreign-told c.args.cluster.now c.inventory.ensures.sound c.args.tenant.now c.args.name.now c.in-Some.app c.in-Some.ensures.some (app_row c.app-row.result.now)
    (rw c.inventory.ensures.value at c.app-row.ensures) c.args.ask.now.label c.in-Some-partition_of.partition c.in-Some-partition_of.ensures.some
    ∙ sym c.is_foreign.ensures ∙ c.if-is_foreign.false)
    (sym c.is_too_large.ensures ∙ c.if-is_too_large.false)
    (many-told c.args.cluster.now c.inventory.ensures.sound c.args.tenant.now c.args.name.now c.in-Some.app c.in-Some.ensures.some (app_row c.app-row.result.now)
    (rw c.inventory.ensures.value at c.app-row.ensures) c.args.ask.now.label c.in-Some-partition_of.partition c.in-Some-partition_of.ensures.some c.args.ask.now.priority c.args.ask.now.count
    ∙ sym c.is_one_too_many.ensures ∙ c.if-is_one_too_many.false)
