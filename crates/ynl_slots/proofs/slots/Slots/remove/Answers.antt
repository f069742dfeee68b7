use Rattle.std.proofs.Common.{length, ap, sym, ◌∙◌, arith, length-set}
use Rattle.std.proofs.lemmas.Option.{slice_get_within}
use Rattle.ynl_slots.specs.Kept.{before_of, after_of, row_of, slot_at}
use Rattle.ynl_slots.proofs.Calls.{held_row, held_not_free}
use Rattle.ynl_slots.proofs.Order.{live_in, lookup_is, unlinked_is, held_until, removed_order, removed_rows, removed_sound, row_stands, length_stands}
use Rattle.ynl_slots.proofs.slots.Slots.remove.Goals as goal

pub index_mut-requires : goal.index_mut-requires
index_mut-requires g c =
    let before = c.before_at-before.ensures ∙ ap (λ ss. before_of (slot_at ss c.args.number)) c.deref.ensures.value in
    let after = c.after_at-after.ensures ∙ ap (λ ss. after_of (slot_at ss c.args.number)) c.deref-2.ensures.value in
    let items = unlinked_is c.self.inside.slots.items _ _ c.args.number _ _ before after c.set_after.ensures.items c.set_before.ensures.items in
    let live = live_in _ _ _ _ c.self.invariant.ordered c.args.number (rw (← c.self.view_is) at c.requires) in
    omega (arith, slice_get_within _ c.args.number _ (held_until _ _ _ _ c.self.invariant.ordered c.self.invariant.fits c.args.number c.self.inside.free live).found, ap length items)

pub invariant_of-self : goal.invariant_of-self
invariant_of-self g c =
    let before = c.before_at-before.ensures ∙ ap (λ ss. before_of (slot_at ss c.args.number)) c.deref.ensures.value in
    let after = c.after_at-after.ensures ∙ ap (λ ss. after_of (slot_at ss c.args.number)) c.deref-2.ensures.value in
    let items = unlinked_is c.self.inside.slots.items _ _ c.args.number _ _ before after c.set_after.ensures.items c.set_before.ensures.items in
    let live = live_in _ _ _ _ c.self.invariant.ordered c.args.number (rw (← c.self.view_is) at c.requires) in
    record {
      sound = rw (c.replace.ensures.after, items) (removed_sound _ _ _ _ c.self.invariant.ordered c.self.invariant.fits c.args.number c.self.inside.free live c.self.invariant.sound);
      ordered = rw (c.replace.ensures.after, items, c.end_of-self-inside.ensures, c.end_of-self-inside-2.ensures, before, after) (removed_order _ _ _ _ c.self.invariant.ordered c.self.invariant.fits c.args.number c.self.inside.free live);
      fits = omega (arith, length-set c.set_before.new.slots.items c.args.number c.replace.new.dest, ap length items, length_stands _ _ _ _ c.self.invariant.ordered c.self.invariant.fits c.args.number c.self.inside.free live, c.self.invariant.fits);
    }

pub unreachable-requires : goal.unreachable-requires
unreachable-requires g c =
    let before = c.before_at-before.ensures ∙ ap (λ ss. before_of (slot_at ss c.args.number)) c.deref.ensures.value in
    let after = c.after_at-after.ensures ∙ ap (λ ss. after_of (slot_at ss c.args.number)) c.deref-2.ensures.value in
    let items = unlinked_is c.self.inside.slots.items _ _ c.args.number _ _ before after c.set_after.ensures.items c.set_before.ensures.items in
    let live = live_in _ _ _ _ c.self.invariant.ordered c.args.number (rw (← c.self.view_is) at c.requires) in
    held_not_free _ c.args.number (held_until _ _ _ _ c.self.invariant.ordered c.self.invariant.fits c.args.number c.self.inside.free live) _ c.index_mut.result.now (rw items at c.index_mut.ensures.value) (sym c.replace.ensures.value ∙ c.in-Free.is)

pub returns-clause-value : goal.returns-clause-value
returns-clause-value g c =
    let before = c.before_at-before.ensures ∙ ap (λ ss. before_of (slot_at ss c.args.number)) c.deref.ensures.value in
    let after = c.after_at-after.ensures ∙ ap (λ ss. after_of (slot_at ss c.args.number)) c.deref-2.ensures.value in
    let items = unlinked_is c.self.inside.slots.items _ _ c.args.number _ _ before after c.set_after.ensures.items c.set_before.ensures.items in
    let live = live_in _ _ _ _ c.self.invariant.ordered c.args.number (rw (← c.self.view_is) at c.requires) in
    rw (← c.self.view_is) (
    lookup_is _ _ _ _ c.self.invariant.ordered c.args.number
    ∙ sym (row_stands _ _ _ _ c.self.invariant.ordered c.self.invariant.fits c.args.number c.self.inside.free live)
    ∙ sym (held_row _ c.args.number (held_until _ _ _ _ c.self.invariant.ordered c.self.invariant.fits c.args.number c.self.inside.free live) c.index_mut.result.now (rw items at c.index_mut.ensures.value))
    ∙ ap row_of (sym c.replace.ensures.value ∙ c.in-Live.is)
    )

pub returns-clause-entries : goal.returns-clause-entries
returns-clause-entries g c =
    let before = c.before_at-before.ensures ∙ ap (λ ss. before_of (slot_at ss c.args.number)) c.deref.ensures.value in
    let after = c.after_at-after.ensures ∙ ap (λ ss. after_of (slot_at ss c.args.number)) c.deref-2.ensures.value in
    let items = unlinked_is c.self.inside.slots.items _ _ c.args.number _ _ before after c.set_after.ensures.items c.set_before.ensures.items in
    let live = live_in _ _ _ _ c.self.invariant.ordered c.args.number (rw (← c.self.view_is) at c.requires) in
    rw (c.replace.ensures.after, items, c.end_of-self-inside.ensures, before, after, ← c.self.view_is) (removed_rows _ _ _ _ c.self.invariant.ordered c.self.invariant.fits c.args.number c.self.inside.free live)
