use Rattle.std.proofs.Common.{◌≡◌, ◌++◌, take, filter}
use Rattle.ynl_resource.specs.Amounts.{fits_in}
use Rattle.ynl_waits.proofs.grounds.add_open_spots.Given as goal

abbrev pub invariant-loop-spot : goal.invariant-loop-spot
invariant-loop-spot l = l.list.items ≡ l.initial.list.items ++ filter (λ spot. fits_in l.size spot.free) (take l.spot-index l.spot-items)
