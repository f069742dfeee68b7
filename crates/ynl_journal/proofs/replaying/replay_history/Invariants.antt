use Rattle.std.proofs.Common.{◌≡◌, take}
use Rattle.ynl_journal.specs.Journal.{IsHistoryFrom, events_in, replayed_from}
use Rattle.ynl_journal.proofs.replaying.replay_history.Given as goal

abbrev pub invariant-loop-i : goal.invariant-loop-i
invariant-loop-i l = (l.core ≡ replayed_from l.fn.core.config l.fn.core.state l.history) × (events_in l.history ≡ take l.i l.events) × IsHistoryFrom l.fn.core.config l.fn.core.state l.history
