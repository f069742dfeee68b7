use Rattle.std.proofs.Common.{◌≡◌, ◌<◌, Some, length, ◌∙◌, arith, refl, ap, set, sym}
use Rattle.std.specs.List.{slice_get}
use Rattle.std.proofs.lemmas.Option.{none-some, slice_get-get_or, get_or_from_slice_get}
use Rattle.ynl_lanes.proofs.lane.Packing.{packing-init, packing-over, packing-up, packed}
use Rattle.ynl_lanes.proofs.lane.pack.pack.Goals as goal
use Rattle.ynl_lanes.proofs.lane.pack.pack.Goals.{then-is_at, else-is_at}

pub loop-slot-init : goal.loop-slot-init
loop-slot-init g c = (packing-init _ _ _ c.requires.line c.requires.seats c.requires.distinct, refl)

pub unreachable-requires : goal.unreachable-requires
unreachable-requires g c =
    let inside : c.loop-slot.slot < length c.loop-slot.line.tickets = omega (arith, c.loop-slot.invariant.0.count, c.len-slot-end.ensures, c.loop-slot-test.true) in
    none-some _ (sym c.in_default.is ∙ c.ticket.ensures ∙ slice_get-get_or c.loop-slot.line.tickets c.loop-slot.slot 0 inside)

pub loop-slot-preserved : goal.loop-slot-preserved
loop-slot-preserved g c =
    let state = c.loop-slot.invariant.0 in
    let inside : c.loop-slot.slot < length c.loop-slot.line.tickets = omega (arith, state.count, c.len-slot-end.ensures, c.loop-slot-test.true) in
    let read : slice_get c.loop-slot.line.tickets c.loop-slot.slot ≡ Some c.in-Some.ticket = sym c.ticket.ensures ∙ c.in-Some.is in
    elim c.if-is_at.branch [
      | then-is_at w ↦ rw (w.line-is, w.seats-is, w.next-is)
          (packing-up _ _ _ _ _ _ _ _ _ _ _ state inside read (sym c.is_at.ensures.value ∙ w.if-is_at.true) w.put.ensures.moved (w.move_up.ensures.tickets ∙ ap (set c.loop-slot.line.tickets c.loop-slot.next) (get_or_from_slice_get c.loop-slot.line.tickets c.loop-slot.slot c.in-Some.ticket 0 read)) w.move_up.ensures.masters w.move_up.ensures.asks, w.put.ensures.room ∙ c.loop-slot.invariant.1)
      | else-is_at w ↦ rw (w.line-is, w.seats-is, w.next-is) (packing-over _ _ _ _ _ _ _ _ state read (sym c.is_at.ensures.value ∙ w.if-is_at.false), c.loop-slot.invariant.1)
    ]

pub returns : goal.returns
returns g c =
    let state = c.loop-slot.invariant.0 in
    let ends = packed _ _ _ c.truncate.new.self _ _ _ _ state (omega (arith, c.loop-slot.auto.slot-end, c.loop-slot-test.false, c.len-slot-end.ensures)) c.truncate.ensures.tickets c.truncate.ensures.masters c.truncate.ensures.asks in
    record { line = ends.0; seats = ends.1; distinct = state.distinct; moved = ends.2; room = c.loop-slot.invariant.1 }
