use Rattle.std.proofs.Common.{◌≡◌, take}
use Rattle.ynl_waits.specs.Grounds.{most_free}
use Rattle.ynl_waits.proofs.grounds.most_free.Given as goal

abbrev pub invariant-loop-spot : goal.invariant-loop-spot
invariant-loop-spot l = l.most ≡ most_free (take l.spot-index l.spots)
