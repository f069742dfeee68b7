use Rattle.std.proofs.Common.{◌≡◌, take}
use Rattle.ynl_waits.specs.Grounds.{spots_on}
use Rattle.ynl_waits.proofs.grounds.spots_on.Given as goal

abbrev pub invariant-loop-spot : goal.invariant-loop-spot
invariant-loop-spot l = l.list.items ≡ spots_on l.label (take l.spot-index l.spots)
