use Rattle.ynl_cluster.specs.uses.Tallies.{no_use}
use Rattle.ynl_cluster.proofs.uses.Partitions.{filled-more}
use Rattle.ynl_cluster.proofs.uses.uses.Uses.new.Goals as goal

pub loop-preserved : goal.loop-preserved
loop-preserved c =
    filled-more c.loop.counter c.args.queues no_use c.loop.rows.items c.push.new.self.items c.in_ok-from_elem.field-0 c.loop.invariant (c.in_ok-from_elem.ensures.items_if_clones_equal (λ y is. is)) c.in_ok-push.ensures.items
