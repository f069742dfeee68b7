use Rattle.std.proofs.Common.{arith}
use Rattle.ynl_journal.proofs.Longer.{more_replayed}
use Rattle.ynl_journal.proofs.replaying.replay.Goals as goal

pub loop-entry-preserved : goal.loop-entry-preserved
loop-entry-preserved c =
    more_replayed c.args.core.now.config c.args.core.now.state c.args.entries.now c.loop-entry.entry-index c.entry-item.result c.loop-entry.core c.answer.new.self c.in_ok-answer.field-0 (omega arith) c.entry-item.is c.loop-entry.invariant c.in_ok-answer.ensures.ok
