use Rattle.std.proofs.Common.{◌≡◌, ◌++◌, take}
use Rattle.std.specs.Prelude.{flat_map}
use Rattle.ynl_waits.specs.Waits.{clock_told}
use Rattle.ynl_waits.proofs.listing.add_clocks.Given as goal

abbrev pub invariant-loop-ground : goal.invariant-loop-ground
invariant-loop-ground l = l.told.items ≡ l.initial.told.items ++ flat_map (clock_told) (take l.ground-index l.grounds)
