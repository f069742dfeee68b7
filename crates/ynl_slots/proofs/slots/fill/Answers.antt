use Rattle.std.proofs.Common.{Some, sym, ap, ◌∙◌, arith}
use Rattle.ynl_slots.proofs.FreeList.{free_within, read_at_free, free_is_not_live, IsSound-push, IsSound-fill}
use Rattle.ynl_slots.proofs.slots.fill.Goals as goal

pub returns-then-free-len-clause-sound : goal.returns-then-free-len-clause-sound
returns-then-free-len-clause-sound g c len sound = rw c.push_reserved.ensures.items (IsSound-push _ len _ c.args.live c.requires.live sound (omega arith))

pub index_mut-requires : goal.index_mut-requires
index_mut-requires g c = omega (arith, free_within _ _ _ c.requires.can.1 (λ e. omega arith))

pub unreachable-requires : goal.unreachable-requires
unreachable-requires g c =
    let found = read_at_free _ _ _ _ c.requires.can.1 (λ e. omega arith) c.index_mut.ensures.value ∙ ap Some (sym c.replace.ensures.value ∙ c.in-Live.is) in
    free_is_not_live _ _ _ _ _ _ c.requires.can.1 found

pub returns-clause-sound : goal.returns-clause-sound
returns-clause-sound g c len sound =
    let found = read_at_free _ _ _ _ c.requires.can.1 (λ e. omega arith) c.index_mut.ensures.value ∙ ap Some (sym c.replace.ensures.value ∙ c.in-Free.is) in
    rw c.replace.ensures.after (IsSound-fill _ len _ _ c.args.live c.requires.live sound found)
