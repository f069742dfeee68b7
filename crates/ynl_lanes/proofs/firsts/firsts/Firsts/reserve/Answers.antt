use Rattle.std.proofs.Common.{◌≡◌, ◌+◌, ◌-◌, ◌/◌, ◌≤◌, length, sym, ap, ◌∙◌, arith}
use Rattle.std.specs.Prelude.{vec_capacity}
use Rattle.ynl_lanes.specs.firsts.Tree.{values_of}
use Rattle.ynl_lanes.proofs.firsts.Places.{filled_up-more, length-filled_up}
use Rattle.ynl_lanes.proofs.firsts.firsts.Firsts.reserve.Goals as goal

pub returns-clause-values : goal.returns-clause-values
returns-clause-values g c =
    let none = g.T.Least.none in
    let tree = c.self.inside.tree in
    let copy = c.in_ok-self-inside.field-0 in
    let values = values_of tree.items in
    let room = vec_capacity tree / 2 in
    let was : c.room.result ≡ length values + (room - length values) = c.room.ensures ∙ ap length (sym c.self.view_is) ∙ length-filled_up none room values in
    let more : room ≤ vec_capacity copy / 2 = omega (arith, was, c.if-count-room.false, c.in_ok-self-inside.ensures.room, c.next_power_of_two-nodes.ensures.lower_bound) in
    rw (← c.self.view_is) (rw (c.in_ok-self-inside.ensures.nodes, c.as_slice.ensures.value) (filled_up-more none values room (vec_capacity copy / 2) more))
