use Rattle.std.proofs.Common.{ap, ◌∙◌}
use Rattle.ynl_slots.specs.Kept.{after_of, slot_at}
use Rattle.ynl_slots.specs.Number.{number_of}
use Rattle.ynl_slots.proofs.Order.{next_is}
use Rattle.ynl_slots.proofs.slots.Slots.next.Goals as goal

pub returns : goal.returns
returns g c i found =
    rw (← c.self.view_is) (
    c.get.ensures ∙ c.of.ensures
    ∙ ap number_of (c.after_at-after.ensures ∙ ap (λ ss. after_of (slot_at ss c.args.number)) c.deref.ensures.value)
    ∙ next_is _ _ _ _ c.self.invariant.ordered c.args.number i (rw (← c.self.view_is) at found)
    )
