-- What is tested of the line of a stopped queue.
use Rattle.std.proofs.Common.{◌∙◌, ◌<◌, nat_eq, true, false, ap, refl, sym, arith}
use Rattle.std.specs.List.{list_any}
use Rattle.ynl_resource.specs.Names.{root, same_path}
use Rattle.ynl_cluster.specs.Cluster.{path_of, state_in}
use Rattle.ynl_snapshots.proofs.restoring.Marks.{not-root, stop-sound, stopped-as, stops}
use Rattle.ynl_snapshots.proofs.restoring.queues.stopped_queue.Goals as goal

pub returns-in_default-clause-sound : goal.returns-in_default-clause-sound
returns-in_default-clause-sound c r is =
    stop-sound c.args.cluster.now.config r (state_in c.args.cluster.now) is c.args.queue.now false (same_path c.args.queue.now root) (list_any (stops c.args.queue.now) (state_in c.args.cluster.now).stops)
    (sym c.in_default.ensures.known) refl refl

pub returns-then-number-eq0-clause-sound : goal.returns-then-number-eq0-clause-sound
returns-then-number-eq0-clause-sound c r is =
    stop-sound c.args.cluster.now.config r (state_in c.args.cluster.now) is c.args.queue.now true true (list_any (stops c.args.queue.now) (state_in c.args.cluster.now).stops)
    (sym c.in-Some.ensures.known) (c.in-Some.ensures.root ∙ ap (λ n. nat_eq n 0) c.if-number-eq0.true) refl

pub returns-then-is_stopped-clause-sound : goal.returns-then-is_stopped-clause-sound
returns-then-is_stopped-clause-sound c r is =
    let above : 0 < c.in-Some.number = omega arith in
    stop-sound c.args.cluster.now.config r (state_in c.args.cluster.now) is c.args.queue.now true false true (sym c.in-Some.ensures.known) (c.in-Some.ensures.root ∙ not-root c.in-Some.number above)
    (stopped-as c.args.cluster.now c.inventory.ensures.sound c.inventory.ensures.configured c.args.queue.now c.in-Some.number above c.in-Some.ensures.some (record { queue = path_of c.args.cluster.now c.in-Some.number; stopped = c.is_stopped.result }) c.is_stopped.ensures ∙ c.if-is_stopped.true)

pub returns-clause-sound : goal.returns-clause-sound
returns-clause-sound c r is =
    let above : 0 < c.in-Some.number = omega arith in
    stop-sound c.args.cluster.now.config r (state_in c.args.cluster.now) is c.args.queue.now true false false (sym c.in-Some.ensures.known) (c.in-Some.ensures.root ∙ not-root c.in-Some.number above)
    (stopped-as c.args.cluster.now c.inventory.ensures.sound c.inventory.ensures.configured c.args.queue.now c.in-Some.number above c.in-Some.ensures.some (record { queue = path_of c.args.cluster.now c.in-Some.number; stopped = c.is_stopped.result }) c.is_stopped.ensures ∙ c.if-is_stopped.false)
