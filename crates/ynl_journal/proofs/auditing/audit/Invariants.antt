use Rattle.std.proofs.Common.{◌≡◌, take}
use Rattle.ynl_journal.specs.Journal.{AgreesFrom, replayed_from}
use Rattle.ynl_journal.proofs.auditing.audit.Given as goal

abbrev pub invariant-loop-i : goal.invariant-loop-i
invariant-loop-i l = (l.core ≡ replayed_from l.fn.core.config l.fn.core.state (take l.i l.entries)) × AgreesFrom l.fn.core.config l.fn.core.state (take l.i l.entries)
