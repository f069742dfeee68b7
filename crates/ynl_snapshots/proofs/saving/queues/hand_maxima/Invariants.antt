use Rattle.std.proofs.Common.{take}
use Rattle.std.specs.Prelude.{flat_map}
use Rattle.ynl_model.specs.Queues.{QueueRow}
use Rattle.ynl_cluster.specs.Cluster.{state_in}
use Rattle.ynl_saved.specs.Handing.{TakesAll}
use Rattle.ynl_saved.specs.Saving.{maxima_lines}
use Rattle.ynl_snapshots.proofs.saving.queues.hand_maxima.Given as goal

-- the maxima of the queues so far are told
abbrev pub invariant-loop-i : goal.invariant-loop-i
invariant-loop-i g l =
    TakesAll g.S.LineSink.gives l.initial.sink (flat_map (λ (row : QueueRow). maxima_lines l.cluster.config (state_in l.cluster).maxima row.path) (take l.i l.cluster.config.queues)) l.sink
