use Rattle.std.proofs.Common.{take}
use Rattle.std.specs.Prelude.{flat_map}
use Rattle.ynl_cluster.specs.Cluster.{state_in}
use Rattle.ynl_saved.specs.Handing.{TakesAll}
use Rattle.ynl_saved.specs.Saving.{stop_lines}
use Rattle.ynl_snapshots.proofs.saving.queues.hand_stops.Given as goal

-- the stops so far are told
abbrev pub invariant-loop-i : goal.invariant-loop-i
invariant-loop-i g l = TakesAll g.S.LineSink.gives l.initial.sink (flat_map stop_lines (take l.i (state_in l.cluster).stops)) l.sink
