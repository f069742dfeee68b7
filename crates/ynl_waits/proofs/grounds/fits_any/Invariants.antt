use Rattle.std.proofs.Common.{◌≡◌, false, take}
use Rattle.ynl_waits.specs.Grounds.{fits_any}
use Rattle.ynl_waits.proofs.grounds.fits_any.Given as goal

abbrev pub invariant-loop-spot : goal.invariant-loop-spot
invariant-loop-spot l = fits_any l.size (take l.spot-index l.spots) ≡ false
