use Rattle.std.proofs.Common.{sym}
use Rattle.ynl_journal.proofs.Booked.{events_from}
use Rattle.ynl_journal.proofs.journal.Book.into_events.Goals as goal

pub returns : goal.returns
returns c = rw (← c.self.view_is) (sym (events_from c.self.inside.core.config c.self.inside.start.value.state c.self.inside.events c.self.inside.planned.items c.self.invariant.counted))
