use Rattle.std.proofs.Common.{subst, sym, ap, ◌∙◌}
use Rattle.ynl_inventory.specs.Parts.{Held}
use Rattle.ynl_resource.specs.declared.amounts.Resource.{Resource}
use Rattle.ynl_search.specs.Guests.{first_guest}
use Rattle.ynl_search.specs.notes.Lanes.{IsLaneOf}
use Rattle.ynl_search.proofs.Reading.{guest-read}
use Rattle.ynl_search.proofs.leaves.first_guest_in_leaf.Goals as goal

pub first_guest-requires : goal.first_guest-requires
first_guest-requires c = (
  c.args.leaf,
  subst (λ (h : Held). IsLaneOf h.rows 0 c.args.leaf c.lane_of-lane.result.now.seats) (sym c.inventory.ensures.value) c.lane_of-lane.ensures.lane,
)

pub returns : goal.returns
returns c node room =
    guest-read c.args.cluster.now c.lane_of-lane.ensures.sound c.args.leaf c.requires.leaf c.lane_of-lane.result.now.seats c.lane_of-lane.ensures.lane node
    c.first_guest.result
    (c.first_guest.ensures ∙ ap (λ (h : Held). first_guest h.rows c.lane_of-lane.result.now.seats c.args.room) c.inventory.ensures.value
    ∙ ap (λ (r : Resource). first_guest c.args.cluster.now.rows c.lane_of-lane.result.now.seats r) room)
