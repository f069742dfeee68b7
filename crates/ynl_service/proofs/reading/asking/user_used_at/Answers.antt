use Rattle.std.proofs.Common.{◌∙◌}
use Rattle.ynl_service.proofs.reading.Askers.{user-told}
use Rattle.ynl_service.proofs.reading.asking.user_used_at.Goals as goal

pub returns : goal.returns
returns c =
    let a = c.asker-number.ensures in
    c.used_by.ensures.value a.row a.found
    ∙ user-told c.args.cluster.now c.inventory.ensures.sound c.args.app.now c.args.label.now c.asker-number.result a c.leaf_of-leaf.result.partition c.leaf_of-leaf.ensures.partition
