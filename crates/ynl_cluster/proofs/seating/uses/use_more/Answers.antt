-- The user's seat is found, and shows what the rows say with so much more.
use Rattle.std.proofs.Common.{◌≡◌, true}
use Rattle.ynl_resource.specs.Amounts.{plus}
use Rattle.ynl_inventory.specs.Parts.{app_row}
use Rattle.ynl_cluster.specs.seating.Steps.{OnlyIf}
use Rattle.ynl_cluster.proofs.seating.Using.{more-set, more-small, more-use, use-lane, use-seat}
use Rattle.ynl_cluster.proofs.seating.uses.use_more.Goals as goal

pub used_at-used-requires-clause-lane : goal.used_at-used-requires-clause-lane
used_at-used-requires-clause-lane c =
    use-lane (OnlyIf true c.args.app) c.args.app c.args.p (λ before after. after ≡ plus before c.args.size) c.args.inventory.now.rows c.args.lanes.now c.requires.start (app_row c.app-row.result.now) c.app-row.ensures

pub used_at-used-requires-clause-seat : goal.used_at-used-requires-clause-seat
used_at-used-requires-clause-seat c =
    use-seat (OnlyIf true c.args.app) c.args.app c.args.p (λ before after. after ≡ plus before c.args.size) c.args.inventory.now.rows c.args.lanes.now c.requires.start (app_row c.app-row.result.now) c.app-row.ensures

pub add-requires : goal.add-requires
add-requires c =
    more-small (OnlyIf true c.args.app) c.args.app c.args.p c.args.size c.args.inventory.now.rows c.args.lanes.now c.requires.start (app_row c.app-row.result.now) c.app-row.ensures c.requires.small c.used_at-used.result c.used_at-used.ensures
    c.amount.result c.amount.ensures.value

pub set_used_at-requires-clause-used : goal.set_used_at-requires-clause-used
set_used_at-requires-clause-used c =
    more-use (OnlyIf true c.args.app) c.args.app c.args.p c.args.size c.args.inventory.now.rows c.args.lanes.now c.requires.start (app_row c.app-row.result.now) c.app-row.ensures c.requires.small c.used_at-used.result c.used_at-used.ensures
    c.amount.result c.amount.ensures.value c.add.result c.add.ensures

pub returns : goal.returns
returns c = λ anew start.
    more-set (OnlyIf anew c.args.app) c.args.app c.args.p c.args.size c.args.inventory.now.rows c.args.lanes.now start (app_row c.app-row.result.now) c.app-row.ensures c.requires.small c.used_at-used.result c.used_at-used.ensures
    c.amount.result c.amount.ensures.value c.add.result c.add.ensures c.set_used_at.new.lanes c.set_used_at.ensures
