use Rattle.ynl_replies.proofs.admission.QueuesNamed.{queue-known, root-told}
use Rattle.ynl_replies.proofs.admission.queues.queue_of.Goals as goal

pub returns-clause-known : goal.returns-clause-known
returns-clause-known c =
    queue-known c.args.cluster.now.config c.args.cluster.now.rows c.inventory.ensures.configured c.args.path.now c.find.result
    (rw (c.layout.ensures, c.inventory.ensures.value, c.names.ensures.names) at c.find.ensures.some)
    (rw (c.layout.ensures, c.inventory.ensures.value, c.names.ensures.names) at c.find.ensures.none)

pub returns-clause-root : goal.returns-clause-root
returns-clause-root c =
    root-told c.args.cluster.now c.inventory.ensures.sound c.args.path.now c.find.result
    (rw (c.layout.ensures, c.inventory.ensures.value, c.names.ensures.names) at c.find.ensures.some)
