use Rattle.std.proofs.Common.{◌≡◌, ◌++◌, take}
use Rattle.std.specs.Prelude.{flat_map}
use Rattle.ynl_waits.specs.Waits.{room_told}
use Rattle.ynl_waits.proofs.listing.add_rooms.Given as goal

abbrev pub invariant-loop-ground : goal.invariant-loop-ground
invariant-loop-ground l = l.told.items ≡ (l.fn.told.items ++ room_told l.size l.own) ++ flat_map (room_told l.size) (take l.ground-index l.guests)
