use Rattle.std.proofs.Common.{◌≡◌, take, fold}
use Rattle.ynl_lanes.specs.lows.Lows.{no_size}
use Rattle.ynl_cluster.specs.seating.Seating.{with_least}
use Rattle.ynl_cluster.proofs.seating.waits.least_asked.Given as goal

abbrev pub invariant-loop-ask : goal.invariant-loop-ask
invariant-loop-ask l = l.low ≡ fold (with_least l.p) no_size (take l.ask-index l.asks)
