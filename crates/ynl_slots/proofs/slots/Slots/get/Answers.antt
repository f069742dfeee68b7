use Rattle.std.proofs.Common.{sym, ◌∙◌}
use Rattle.ynl_slots.proofs.Order.{lookup_is}
use Rattle.ynl_slots.proofs.Calls.{only_found}
use Rattle.ynl_slots.proofs.slots.Slots.get.Goals as goal

pub returns-clause-value : goal.returns-clause-value
returns-clause-value g c = rw (← c.self.view_is) (c.row_at.ensures ∙ sym (lookup_is _ _ _ _ c.self.invariant.ordered c.args.number))

pub returns-clause-only : goal.returns-clause-only
returns-clause-only g c = rw (← c.self.view_is) (only_found _ _ _ _ c.self.invariant.ordered c.args.number c.row_at.result c.row_at.ensures)
