use Rattle.std.proofs.Common.{◌≡◌, take, option_map}
use Rattle.ynl_waits.specs.Grounds.{first_by_name}
use Rattle.ynl_waits.proofs.grounds.first_by_name.Given as goal

abbrev pub invariant-loop-spot : goal.invariant-loop-spot
invariant-loop-spot l = option_map (λ r. r.now) l.first ≡ first_by_name (take l.spot-index l.spots)
