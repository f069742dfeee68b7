use Rattle.std.proofs.Common.{◌∙◌}
use Rattle.std.proofs.lemmas.List.{append_assoc}
use Rattle.ynl_waits.specs.Waits.{room_told}
use Rattle.ynl_waits.proofs.Loops.{added, all-added}
use Rattle.ynl_waits.proofs.listing.add_rooms.Goals as goal

-- what comes of one more partition is added
pub loop-ground-preserved : goal.loop-ground-preserved
loop-ground-preserved c = added (room_told c.args.size.now) _ c.args.guests.now _ _ _ _ c.loop-ground-test.true c.ground-item.is c.loop-ground.invariant c.in_ok-add_room-2.ensures

pub returns : goal.returns
returns c = all-added (room_told c.args.size.now) _ c.args.guests.now _ _ c.loop-ground-test.false c.loop-ground.invariant ∙ append_assoc c.args.told.now.items (room_told c.args.size.now c.args.own.now) _
