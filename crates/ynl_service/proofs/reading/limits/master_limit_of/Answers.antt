use Rattle.ynl_service.proofs.reading.Unknown.{no-master_limit}
use Rattle.ynl_service.proofs.reading.limits.master_limit_of.Goals as goal

pub returns-in-None : goal.returns-in-None
returns-in-None c = no-master_limit c.args.cluster.now c.inventory.ensures.sound c.inventory.ensures.configured c.args.leaf.now c.args.label.now c.in-None.ensures.none
