use Rattle.ynl_slots.proofs.Order.{length_is, distinct}
use Rattle.ynl_slots.proofs.slots.Slots.len.Goals as goal

pub returns-clause-value : goal.returns-clause-value
returns-clause-value g c = rw (← c.self.view_is) (length_is _ _ _ _ c.self.invariant.ordered)

pub returns-clause-distinct : goal.returns-clause-distinct
returns-clause-distinct g c = rw (← c.self.view_is) (distinct _ _ _ _ c.self.invariant.ordered)
