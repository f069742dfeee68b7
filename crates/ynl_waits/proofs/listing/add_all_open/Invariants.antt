use Rattle.std.proofs.Common.{◌≡◌, ◌++◌, take}
use Rattle.std.specs.Prelude.{flat_map}
use Rattle.ynl_waits.specs.Grounds.{open_spots}
use Rattle.ynl_waits.proofs.listing.add_all_open.Given as goal

abbrev pub invariant-loop-ground : goal.invariant-loop-ground
invariant-loop-ground l = l.list.items ≡ l.initial.list.items ++ flat_map (open_spots l.size) (take l.ground-index l.grounds)
