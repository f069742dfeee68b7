use Rattle.std.proofs.Common.{sym, ◌∙◌}
use Rattle.ynl_journal.proofs.Booked.{len_from}
use Rattle.ynl_journal.proofs.journal.Book.len.Goals as goal

pub returns-clause-value : goal.returns-clause-value
returns-clause-value c = rw (← c.self.view_is) (c.len.ensures.value ∙ sym (len_from c.self.inside.core.config c.self.inside.start.value.state c.self.inside.events c.self.inside.planned.items c.self.invariant.counted))
