use Rattle.std.proofs.Common.{is_some, refl, sym, ap, ◌∙◌, arith, length-set}
use Rattle.std.proofs.lemmas.Option.{slice_get_within}
use Rattle.ynl_slots.specs.declared.slots.Slot.TheVariants.{Live}
use Rattle.ynl_slots.specs.Kept.{row_of, slot_with}
use Rattle.ynl_slots.proofs.FreeList.{IsSound-rewrite}
use Rattle.ynl_slots.proofs.Order.{held_at, lookup_is, written_order, written_rows}
use Rattle.ynl_slots.proofs.Calls.{held_slot, live_row}
use Rattle.ynl_slots.proofs.slots.SlotsIndexMutU32.index_mut.Goals as goal

pub index_mut-requires : goal.index_mut-requires
index_mut-requires g c =
    let held = held_at _ _ _ _ c.self.invariant.ordered c.args.number (rw (← c.self.view_is) at c.requires) in
    omega (arith, slice_get_within c.self.inside.slots.items c.args.number _ held.found)

pub row_mut-requires : goal.row_mut-requires
row_mut-requires g c =
    let held = held_at _ _ _ _ c.self.invariant.ordered c.args.number (rw (← c.self.view_is) at c.requires) in
    ap (λ s. is_some (row_of s)) (held_slot c.args.number c.self.inside.slots.items c.index_mut.result.now held c.index_mut.ensures.value)

pub invariant_of-self-lent : goal.invariant_of-self-lent
invariant_of-self-lent g c w =
    let held = held_at _ _ _ _ c.self.invariant.ordered c.args.number (rw (← c.self.view_is) at c.requires) in
    let is = held_slot c.args.number c.self.inside.slots.items c.index_mut.result.now held c.index_mut.ensures.value in
    record {
      sound = rw is (IsSound-rewrite _ _ _ c.args.number held.before held.after held.row (Live held.before held.after w) refl c.self.invariant.sound held.found);
      ordered = rw is (written_order _ _ _ _ c.self.invariant.ordered c.args.number held w);
      fits = omega (arith, length-set c.self.inside.slots.items c.args.number (slot_with c.index_mut.result.now w), c.self.invariant.fits);
    }

pub returns : goal.returns
returns g c =
    let live = rw (← c.self.view_is) at c.requires in
    let held = held_at _ _ _ _ c.self.invariant.ordered c.args.number live in
    let is = held_slot c.args.number c.self.inside.slots.items c.index_mut.result.now held c.index_mut.ensures.value in (
      (refl {a = c.row_mut.result.ghost_name}, λ w. rw (← c.self.view_is, is, written_rows _ _ _ _ c.self.invariant.ordered c.args.number held w)),
      record {
        writes_back = tt;
        value = rw (← c.self.view_is) (
            lookup_is _ _ _ _ c.self.invariant.ordered c.args.number
            ∙ sym (live_row _ _ _ _ c.self.invariant.ordered c.args.number c.index_mut.result.now live c.index_mut.ensures.value)
            ∙ c.row_mut.ensures.value
            );
      },
    )
