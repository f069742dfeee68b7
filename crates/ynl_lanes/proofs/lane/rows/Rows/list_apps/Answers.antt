use Rattle.std.proofs.Common.{◌≤◌, length, sym, ◌∙◌, arith}
use Rattle.ynl_lanes.proofs.lane.Listing.{first-none, end-all}
use Rattle.ynl_lanes.proofs.lane.rows.Rows.list_apps.Goals as goal

pub loop-slot-init : goal.loop-slot-init
loop-slot-init c = c.reserve.ensures.items ∙ c.clear.ensures.items ∙ sym (first-none c.args.self.now c.requires)

pub returns : goal.returns
returns c =
    let past : length c.args.self.now.line.tickets ≤ c.loop-slot.slot = omega (arith, c.loop-slot-test.false, c.len-slot-end.ensures) in
    c.loop-slot.invariant ∙ end-all c.args.self.now c.requires c.loop-slot.slot past
