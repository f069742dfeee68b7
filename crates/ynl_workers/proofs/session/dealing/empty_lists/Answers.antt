use Rattle.std.proofs.Common.{arith, []}
use Rattle.ynl_workers.proofs.session.Deals.{AreDealt-empty, AreInTurn-empty}
use Rattle.ynl_workers.proofs.session.dealing.empty_lists.Goals as goal

pub loop-preserved : goal.loop-preserved
loop-preserved c = (
  omega (arith, c.in_ok-push.ensures.len, c.loop.invariant.0),
  AreDealt-empty [] c.loop.lists.items c.push.new.self.items c.new.result c.in_ok-push.ensures.items c.new.ensures.items c.loop.invariant.1,
  AreInTurn-empty c.loop.lists.items c.push.new.self.items c.new.result c.in_ok-push.ensures.items c.new.ensures.items c.loop.invariant.2,
)
