use Rattle.ynl_waits.specs.Waits.{clock_told}
use Rattle.ynl_waits.proofs.Loops.{added, all-added}
use Rattle.ynl_waits.proofs.listing.add_clocks.Goals as goal

-- what comes of one more partition is added
pub loop-ground-preserved : goal.loop-ground-preserved
loop-ground-preserved c = added clock_told _ c.args.grounds.now _ _ _ _ c.loop-ground-test.true c.ground-item.is c.loop-ground.invariant c.in_ok-add_clock.ensures

pub returns : goal.returns
returns c = all-added clock_told _ c.args.grounds.now _ _ c.loop-ground-test.false c.loop-ground.invariant
