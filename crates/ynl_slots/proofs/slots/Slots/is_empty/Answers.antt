use Rattle.std.proofs.Common.{ap, nat_eq}
use Rattle.ynl_slots.proofs.Order.{length_is}
use Rattle.ynl_slots.proofs.slots.Slots.is_empty.Goals as goal

pub returns : goal.returns
returns g c = rw (← c.self.view_is) (ap (λ n. nat_eq n 0) (length_is _ _ _ _ c.self.invariant.ordered))
