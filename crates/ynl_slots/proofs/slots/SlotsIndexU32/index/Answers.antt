use Rattle.std.proofs.Common.{sym, ap, ◌∙◌, arith}
use Rattle.std.proofs.lemmas.Option.{slice_get_within}
use Rattle.ynl_slots.specs.Kept.{row_of}
use Rattle.ynl_slots.proofs.Order.{held_at, lookup_is}
use Rattle.ynl_slots.proofs.Calls.{live_row, not_free}
use Rattle.ynl_slots.proofs.slots.SlotsIndexU32.index.Goals as goal

pub index-requires : goal.index-requires
index-requires g c =
    let held = held_at _ _ _ _ c.self.invariant.ordered c.args.number (rw (← c.self.view_is) at c.requires) in
    omega (arith, slice_get_within c.self.inside.slots.items c.args.number _ held.found)

pub unreachable-requires : goal.unreachable-requires
unreachable-requires g c = not_free _ _ _ _ c.self.invariant.ordered c.args.number _ c.index.result.now (rw (← c.self.view_is) at c.requires) c.index.ensures c.in-Free.is

pub returns : goal.returns
returns g c =
    rw (← c.self.view_is) (
    lookup_is _ _ _ _ c.self.invariant.ordered c.args.number
    ∙ sym (live_row _ _ _ _ c.self.invariant.ordered c.args.number c.index.result.now (rw (← c.self.view_is) at c.requires) c.index.ensures)
    ∙ ap row_of c.in-Live.is
    )
