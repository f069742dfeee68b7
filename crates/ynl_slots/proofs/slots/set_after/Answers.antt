use Rattle.std.proofs.Common.{set, sym, ap, ◌∙◌, arith}
use Rattle.ynl_slots.specs.Kept.{after_set, slot_at}
use Rattle.ynl_slots.proofs.Slotted.{set_beyond, slot_read}
use Rattle.ynl_slots.proofs.slots.set_after.Goals as goal

pub returns-then-number-len-clause-items : goal.returns-then-number-len-clause-items
returns-then-number-len-clause-items g c =
    ap (set c.args.slots.now.items c.args.number) (c.set_after.ensures ∙ ap (after_set c.args.to) (slot_read c.args.slots.now.items c.args.number c.index_mut.result.now (omega arith) c.index_mut.ensures.value))

pub returns-else-number-len-clause-items : goal.returns-else-number-len-clause-items
returns-else-number-len-clause-items g c = sym (set_beyond c.args.slots.now.items c.args.number (after_set c.args.to (slot_at c.args.slots.now.items c.args.number)) (omega arith))
