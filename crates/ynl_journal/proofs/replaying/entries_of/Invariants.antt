use Rattle.std.proofs.Common.{◌≡◌, take}
use Rattle.ynl_model.specs.Events.{after}
use Rattle.ynl_journal.specs.BookFields.{entries_from}
use Rattle.ynl_journal.proofs.replaying.entries_of.Given as goal

abbrev pub invariant-loop-i : goal.invariant-loop-i
invariant-loop-i l =
    (l.core.config ≡ l.fn.core.config) × (l.core.state ≡ after l.core.config l.fn.core.state (take l.i l.events)) × (l.entries.items ≡ entries_from l.core.config l.fn.core.state (take l.i l.events) (take l.i l.planned))
