use Rattle.std.proofs.Common.{◌≡◌}
use Rattle.ynl_packed.proofs.Loops.{goes_on, stops}
use Rattle.ynl_packed.proofs.kept.many_at.Goals as goal

pub returns-in_default : goal.returns-in_default
returns-in_default g c = stops g.T.Kept.at c.loop.items.items c.args.count c.loop.counter c.loop.c.rest.now _ c.loop-test.true c.in_default.ensures c.loop.invariant

pub loop-preserved : goal.loop-preserved
loop-preserved g c =
    rw c.in_ok-push.ensures.items
    (goes_on g.T.Kept.at c.loop.items.items c.args.count c.loop.counter c.loop.c.rest.now c.in-Some.item c.at.new.c.rest.now _ c.loop-test.true c.in-Some.ensures c.loop.invariant)
