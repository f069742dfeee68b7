use Rattle.std.proofs.Common.{vec_capacity}
use Rattle.ynl_slots.proofs.Slotted.{sound_after}
use Rattle.ynl_slots.proofs.Order.{free_place, pushed_fits, pushed_order, pushed_rows, pushed_unused}
use Rattle.ynl_slots.proofs.Room.{room_bounds}
use Rattle.ynl_slots.proofs.slots.Slots.push.Goals as goal

pub invariant_of-self : goal.invariant_of-self
invariant_of-self g c =
    let room = room_bounds (vec_capacity c.self.inside.slots) c.self.inside.len (rw (← c.self.view_is) at c.requires) in
    let place = free_place _ _ _ c.self.invariant.sound c.self.invariant.fits room.1 in
    record {
      sound = rw c.set_after.ensures.items (sound_after c.self.inside.free _ _ _ c.self.inside.last (c.fill-self-inside.ensures.sound _ c.self.invariant.sound));
      ordered = rw (c.set_after.ensures.items, c.fill-self-inside.ensures.items, c.end_of-self-inside.ensures) (pushed_order _ _ _ _ c.self.invariant.ordered c.self.invariant.fits c.self.inside.free c.args.row place.0 place.1 place.2);
      fits = rw (c.set_after.ensures.items, c.fill-self-inside.ensures.items) (pushed_fits _ _ _ _ c.self.invariant.ordered c.self.invariant.fits c.self.inside.free c.args.row place.0 place.1 place.2);
    }

pub returns-clause-entries : goal.returns-clause-entries
returns-clause-entries g c =
    let room = room_bounds (vec_capacity c.self.inside.slots) c.self.inside.len (rw (← c.self.view_is) at c.requires) in
    let place = free_place _ _ _ c.self.invariant.sound c.self.invariant.fits room.1 in
    rw (c.set_after.ensures.items, c.fill-self-inside.ensures.items, c.end_of-self-inside.ensures, ← c.self.view_is) (pushed_rows _ _ _ _ c.self.invariant.ordered c.self.invariant.fits c.self.inside.free c.args.row place.0 place.1 place.2)

pub returns-clause-unused : goal.returns-clause-unused
returns-clause-unused g c =
    let room = room_bounds (vec_capacity c.self.inside.slots) c.self.inside.len (rw (← c.self.view_is) at c.requires) in
    let place = free_place _ _ _ c.self.invariant.sound c.self.invariant.fits room.1 in
    rw (← c.self.view_is) (pushed_unused _ _ _ _ c.self.invariant.ordered c.self.invariant.fits c.self.inside.free c.args.row place.0 place.1 place.2)

pub returns-clause-small : goal.returns-clause-small
returns-clause-small g c =
    let room = room_bounds (vec_capacity c.self.inside.slots) c.self.inside.len (rw (← c.self.view_is) at c.requires) in
    let place = free_place _ _ _ c.self.invariant.sound c.self.invariant.fits room.1 in
    place.2
