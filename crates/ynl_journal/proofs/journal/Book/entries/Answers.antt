use Rattle.ynl_journal.proofs.Booked.{agree_from}
use Rattle.ynl_journal.proofs.journal.Book.entries.Goals as goal

pub returns-clause-agrees : goal.returns-clause-agrees
returns-clause-agrees c = rw (← c.self.view_is) (agree_from c.self.inside.core.config c.self.inside.start.value.state c.self.inside.events c.self.inside.planned.items)

pub returns-in_err-again-clause-agrees : goal.returns-in_err-again-clause-agrees
returns-in_err-again-clause-agrees c = rw (← c.self.view_is) (agree_from c.self.inside.core.config c.self.inside.start.value.state c.self.inside.events c.self.inside.planned.items)
