use Rattle.std.proofs.Common.{ap, Vec, Global}
use Rattle.ynl_live.specs.declared.receipts.Receipt.{Receipt}
use Rattle.ynl_workers.proofs.Turning.{Adds-none, Adds-committed}
use Rattle.ynl_workers.proofs.working.take_turn.Goals as goal

pub returns-in-Err-clause-adds : goal.returns-in-Err-clause-adds
returns-in-Err-clause-adds g c =
    let same = c.in-Err.ensures.err in
    Adds-none (g.G.Gate.is_free c.args.gate.now) c.args.turn.node c.args.receipts.now.items c.ask.new.receipts.items c.args.seat.now c.ask.new.seat c.in-Err.fault c.end_of.result c.end_of.ensures (ap (λ (v : Vec Receipt Global). v.items) same.1) same.0

pub returns-in-Ok-clause-adds : goal.returns-in-Ok-clause-adds
returns-in-Ok-clause-adds g c =
    Adds-committed (g.G.Gate.is_free c.args.gate.now) c.args.turn.node c.in-Ok-Some.proposal c.args.receipts.now.items c.ask.new.receipts.items c.commit.new.receipts.items c.args.seat.now c.ask.new.seat c.commit.new.seat
    (rw c.in-Ok-Some.field-0-is at c.in-Ok-Some.ensures.receipt) c.in-Ok.ensures.receipt
