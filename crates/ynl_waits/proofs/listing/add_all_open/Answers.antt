use Rattle.ynl_waits.specs.Grounds.{open_spots}
use Rattle.ynl_waits.proofs.Loops.{added, all-added}
use Rattle.ynl_waits.proofs.listing.add_all_open.Goals as goal

-- what comes of one more partition is added
pub loop-ground-preserved : goal.loop-ground-preserved
loop-ground-preserved c = added (open_spots c.args.size.now) _ c.args.grounds.now _ _ _ _ c.loop-ground-test.true c.ground-item.is c.loop-ground.invariant c.in_ok-add_open_spots.ensures

pub returns : goal.returns
returns c = all-added (open_spots c.args.size.now) _ c.args.grounds.now _ _ c.loop-ground-test.false c.loop-ground.invariant
