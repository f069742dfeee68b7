-- What is tested of the line of a live application.
use Rattle.std.proofs.Common.{◌∙◌, true, false, not, ap, sym, refl}
use Rattle.ynl_resource.specs.Amounts.{fits_in}
use Rattle.ynl_model.specs.Events.{has_most_apps}
use Rattle.ynl_model.specs.Queues.{may_use}
use Rattle.ynl_cluster.specs.Cluster.{state_in}
use Rattle.ynl_snapshots.proofs.restoring.Coming.{live-sound}
use Rattle.ynl_snapshots.proofs.restoring.Known.{unknown-barred}
use Rattle.ynl_snapshots.proofs.restoring.applications.live_numbers.Goals as goal

pub returns-in_default-clause-sound : goal.returns-in_default-clause-sound
returns-in_default-clause-sound c r user is =
    live-sound c.args.cluster.now.config r (state_in c.args.cluster.now) is c.args.queue.now c.args.app.now user c.args.label.now c.args.master.now false (may_use c.args.cluster.now.config c.args.queue.now c.args.label.now) (not (fits_in c.args.master.now c.args.cluster.now.config.maximum_allocation)) (has_most_apps c.args.cluster.now.config (state_in c.args.cluster.now) c.args.queue.now)
    c.in_default.ensures.sound refl refl refl

pub returns-then-not-may_use-clause-sound : goal.returns-then-not-may_use-clause-sound
returns-then-not-may_use-clause-sound c r user is =
    live-sound c.args.cluster.now.config r (state_in c.args.cluster.now) is c.args.queue.now c.args.app.now user c.args.label.now c.args.master.now true false (not (fits_in c.args.master.now c.args.cluster.now.config.maximum_allocation)) (has_most_apps c.args.cluster.now.config (state_in c.args.cluster.now) c.args.queue.now)
    c.in-Some.ensures.sound (sym (rw (c.deref.ensures, c.config.ensures, c.names.ensures.names) at c.may_use.ensures) ∙ c.if-not-may_use.true) refl refl

pub returns-in_default-partition_of-clause-sound : goal.returns-in_default-partition_of-clause-sound
returns-in_default-partition_of-clause-sound c r user is =
    live-sound c.args.cluster.now.config r (state_in c.args.cluster.now) is c.args.queue.now c.args.app.now user c.args.label.now c.args.master.now true false (not (fits_in c.args.master.now c.args.cluster.now.config.maximum_allocation)) (has_most_apps c.args.cluster.now.config (state_in c.args.cluster.now) c.args.queue.now)
    c.in-Some.ensures.sound (unknown-barred c.args.cluster.now.config c.requires c.args.queue.now c.args.label.now (sym c.in_default-partition_of.ensures.known)) refl refl

pub returns-then-is_too_large-clause-sound : goal.returns-then-is_too_large-clause-sound
returns-then-is_too_large-clause-sound c r user is =
    live-sound c.args.cluster.now.config r (state_in c.args.cluster.now) is c.args.queue.now c.args.app.now user c.args.label.now c.args.master.now true true true (has_most_apps c.args.cluster.now.config (state_in c.args.cluster.now) c.args.queue.now)
    c.in-Some.ensures.sound (sym (rw (c.deref.ensures, c.config.ensures, c.names.ensures.names) at c.may_use.ensures) ∙ c.if-not-may_use.false) (sym c.is_too_large.ensures ∙ c.if-is_too_large.true) refl

pub has_most_apps-requires : goal.has_most_apps-requires
has_most_apps-requires c = c.in-Some.ensures.comes.leaf

pub returns-then-has_most_apps-clause-sound : goal.returns-then-has_most_apps-clause-sound
returns-then-has_most_apps-clause-sound c r user is =
    live-sound c.args.cluster.now.config r (state_in c.args.cluster.now) is c.args.queue.now c.args.app.now user c.args.label.now c.args.master.now true true false true
    c.in-Some.ensures.sound (sym (rw (c.deref.ensures, c.config.ensures, c.names.ensures.names) at c.may_use.ensures) ∙ c.if-not-may_use.false) (sym c.is_too_large.ensures ∙ c.if-is_too_large.false) (ap (has_most_apps c.args.cluster.now.config (state_in c.args.cluster.now)) (sym c.in-Some.ensures.comes.queue_is.own) ∙ sym c.has_most_apps.ensures ∙ c.if-has_most_apps.true)

pub returns-clause-sound : goal.returns-clause-sound
returns-clause-sound c r user is =
    live-sound c.args.cluster.now.config r (state_in c.args.cluster.now) is c.args.queue.now c.args.app.now user c.args.label.now c.args.master.now true true false false
    c.in-Some.ensures.sound (sym (rw (c.deref.ensures, c.config.ensures, c.names.ensures.names) at c.may_use.ensures) ∙ c.if-not-may_use.false) (sym c.is_too_large.ensures ∙ c.if-is_too_large.false) (ap (has_most_apps c.args.cluster.now.config (state_in c.args.cluster.now)) (sym c.in-Some.ensures.comes.queue_is.own) ∙ sym c.has_most_apps.ensures ∙ c.if-has_most_apps.false)

pub returns-clause-comes : goal.returns-clause-comes
returns-clause-comes c = record {
  unnamed = c.in-Some.ensures.comes.unnamed;
  there = c.in-Some.ensures.comes.leaf.there;
  leaf = c.in-Some.ensures.comes.leaf.none_below;
  tenant = c.in-Some.ensures.comes.tenant;
  home = c.in-Some-partition_of.ensures.some.there;
  own = c.in-Some.ensures.comes.queue_is.own;
  label_is = c.in-Some-partition_of.ensures.some.own;
}
