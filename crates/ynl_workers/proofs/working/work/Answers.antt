use Rattle.std.proofs.Common.{arith}
use Rattle.ynl_workers.proofs.Turning.{IsWorkTo-more, IsWork-ends, calls_with}
use Rattle.ynl_workers.proofs.working.work.Goals as goal

pub returns-in_default : goal.returns-in_default
returns-in_default g c =
    let was = c.loop-number.invariant in
    let adds = c.take_turn.ensures.adds in
    record {
      calls = calls_with c.args.seat.now c.loop-number.seat c.take_turn.new.seat c.loop-number.receipts.items c.take_turn.new.receipts.items adds.added adds.all was.calls adds.calls;
      work = IsWork-ends _ c.args.nodes.now c.loop-number.receipts.items c.take_turn.new.receipts.items c.loop-number.number c.index-nodes-number.result _ _ c.take_turn.result (omega arith) c.index-nodes-number.is was.whole adds c.in_default.not-Whole;
    }

pub loop-number-preserved : goal.loop-number-preserved
loop-number-preserved g c =
    IsWorkTo-more _ c.args.nodes.now c.loop-number.receipts.items c.take_turn.new.receipts.items c.loop-number.number c.index-nodes-number.result c.args.seat.now c.loop-number.seat c.take_turn.new.seat _ _ _ (omega arith) c.index-nodes-number.is c.loop-number.invariant c.in-Whole.ensures.adds c.in-Whole.ensures.capacity
