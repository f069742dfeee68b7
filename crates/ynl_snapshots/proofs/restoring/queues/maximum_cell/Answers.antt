-- What is tested of the line of a maximum.
use Rattle.std.proofs.Common.{◌≡◌, ◌∙◌, ◌<◌, ◌≤◌, nat_eq, nat_le, true, false, ap, refl, sym, arith}
use Rattle.ynl_resource.specs.Names.{root, same_path}
use Rattle.ynl_model.specs.Queues.{capacity_on, may_use}
use Rattle.ynl_snapshots.proofs.restoring.Known.{unknown-barred}
use Rattle.ynl_saved.proofs.Sound.{nat-le}
use Rattle.ynl_snapshots.proofs.restoring.Marks.{maximum-sound, not-root}
use Rattle.ynl_snapshots.proofs.restoring.Taken.{nat-beyond}
use Rattle.ynl_snapshots.proofs.restoring.queues.maximum_cell.Goals as goal

pub returns-in_default-clause-sound : goal.returns-in_default-clause-sound
returns-in_default-clause-sound c r new =
    maximum-sound c.args.cluster.now.config r c.args.queue.now c.args.label.now c.args.share false (same_path c.args.queue.now root) (may_use c.args.cluster.now.config c.args.queue.now c.args.label.now)
    (nat_le (capacity_on c.args.cluster.now.config c.args.queue.now c.args.label.now) c.args.share) new (sym c.in_default.ensures.known) refl refl refl

pub returns-then-number-eq0-clause-sound : goal.returns-then-number-eq0-clause-sound
returns-then-number-eq0-clause-sound c r new =
    maximum-sound c.args.cluster.now.config r c.args.queue.now c.args.label.now c.args.share true true (may_use c.args.cluster.now.config c.args.queue.now c.args.label.now)
    (nat_le (capacity_on c.args.cluster.now.config c.args.queue.now c.args.label.now) c.args.share) new (sym c.in-Some.ensures.known) (c.in-Some.ensures.root ∙ ap (λ n. nat_eq n 0) c.if-number-eq0.true) refl refl

pub returns-then-not-may_use-clause-sound : goal.returns-then-not-may_use-clause-sound
returns-then-not-may_use-clause-sound c r new =
    let above : 0 < c.in-Some.number = omega arith in
    let barred : may_use c.args.cluster.now.config c.args.queue.now c.args.label.now ≡ false = (sym (rw (c.deref.ensures, c.config.ensures, c.names.ensures.names) at c.may_use.ensures) ∙ c.if-not-may_use.true) in
    maximum-sound c.args.cluster.now.config r c.args.queue.now c.args.label.now c.args.share true false false
    (nat_le (capacity_on c.args.cluster.now.config c.args.queue.now c.args.label.now) c.args.share) new (sym c.in-Some.ensures.known) (c.in-Some.ensures.root ∙ not-root c.in-Some.number above) barred refl

pub returns-in_default-partition_of-clause-sound : goal.returns-in_default-partition_of-clause-sound
returns-in_default-partition_of-clause-sound c r new =
    let above : 0 < c.in-Some.number = omega arith in
    maximum-sound c.args.cluster.now.config r c.args.queue.now c.args.label.now c.args.share true false false
    (nat_le (capacity_on c.args.cluster.now.config c.args.queue.now c.args.label.now) c.args.share) new (sym c.in-Some.ensures.known) (c.in-Some.ensures.root ∙ not-root c.in-Some.number above)
    (unknown-barred c.args.cluster.now.config c.requires c.args.queue.now c.args.label.now (sym c.in_default-partition_of.ensures.known)) refl

pub returns-then-number-clause-sound : goal.returns-then-number-clause-sound
returns-then-number-clause-sound c r new =
    let above : 0 < c.in-Some.number = omega arith in
    let may : may_use c.args.cluster.now.config c.args.queue.now c.args.label.now ≡ true = (sym (rw (c.deref.ensures, c.config.ensures, c.names.ensures.names) at c.may_use.ensures) ∙ c.if-not-may_use.false) in
    let capacity : c.capacity_share.result ≡ capacity_on c.args.cluster.now.config c.args.queue.now c.args.label.now =
    c.capacity_share.ensures ∙ (λ i. capacity_on c.args.cluster.now.config (c.in-Some.ensures.some.own i) (c.in-Some-partition_of.ensures.some.own i))
    in
    let less : c.args.share < capacity_on c.args.cluster.now.config c.args.queue.now c.args.label.now = omega (arith, capacity) in
    maximum-sound c.args.cluster.now.config r c.args.queue.now c.args.label.now c.args.share true false true false new (sym c.in-Some.ensures.known) (c.in-Some.ensures.root ∙ not-root c.in-Some.number above) may
    (nat-beyond (capacity_on c.args.cluster.now.config c.args.queue.now c.args.label.now) c.args.share less)

pub returns-clause-sound : goal.returns-clause-sound
returns-clause-sound c r new =
    let above : 0 < c.in-Some.number = omega arith in
    let may : may_use c.args.cluster.now.config c.args.queue.now c.args.label.now ≡ true = (sym (rw (c.deref.ensures, c.config.ensures, c.names.ensures.names) at c.may_use.ensures) ∙ c.if-not-may_use.false) in
    let capacity : c.capacity_share.result ≡ capacity_on c.args.cluster.now.config c.args.queue.now c.args.label.now =
    c.capacity_share.ensures ∙ (λ i. capacity_on c.args.cluster.now.config (c.in-Some.ensures.some.own i) (c.in-Some-partition_of.ensures.some.own i))
    in
    let within : capacity_on c.args.cluster.now.config c.args.queue.now c.args.label.now ≤ c.args.share = omega (arith, capacity) in
    maximum-sound c.args.cluster.now.config r c.args.queue.now c.args.label.now c.args.share true false true true new (sym c.in-Some.ensures.known) (c.in-Some.ensures.root ∙ not-root c.in-Some.number above) may
    (nat-le (capacity_on c.args.cluster.now.config c.args.queue.now c.args.label.now) c.args.share within)
