use Rattle.std.proofs.Common.{◌≡◌, take}
use Rattle.ynl_journal.specs.Journal.{replayed_from}
use Rattle.ynl_journal.proofs.replaying.replay.Given as goal

abbrev pub invariant-loop-entry : goal.invariant-loop-entry
invariant-loop-entry l = l.core ≡ replayed_from l.fn.core.config l.fn.core.state (take l.entry-index l.entries)
