use Rattle.std.proofs.Common.{arith}
use Rattle.ynl_sights.proofs.Growing.{leaf-added}
use Rattle.ynl_sights.proofs.copying.add_leaf.Goals as goal

pub returns-clause-leaf : goal.returns-clause-leaf
returns-clause-leaf c =
    let old = c.args.out.now in
    let queues = c.add_queues.new.queues in
    let added = c.in_ok-add_queues.ensures in
    leaf-added c.args.cluster.now c.inventory.ensures.sound c.args.p c.requires.there.partition c.args.leaf old
    (record { root = old.root; queues = queues; leaves = c.push.new.self })
    (record { start = c.len-start.result; end = c.len.result; limits = c.limits_of.result; list = c.in_ok-list.list })
    added.queues.more c.requires.leaves (λ i. old.root) added.queues.is c.in_ok-push.ensures.items (omega (arith, c.len-start.ensures, old.queues.ok.0)) (omega (arith, c.len.ensures, queues.ok.0)) added.some
    added.queues.queues c.limits_of.ensures c.in_ok-list.ensures.list
