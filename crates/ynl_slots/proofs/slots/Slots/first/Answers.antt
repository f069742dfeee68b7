use Rattle.std.proofs.Common.{◌∙◌}
use Rattle.ynl_slots.proofs.Order.{first_is}
use Rattle.ynl_slots.proofs.slots.Slots.first.Goals as goal

pub returns : goal.returns
returns g c = rw (← c.self.view_is) (c.get.ensures ∙ c.of.ensures ∙ first_is _ _ _ _ c.self.invariant.ordered)
