use Rattle.std.proofs.Common.{take}
use Rattle.std.specs.Prelude.{flat_map}
use Rattle.ynl_saved.specs.Handing.{TakesAll}
use Rattle.ynl_snapshots.specs.saving.Told.{numbered, queue_lines}
use Rattle.ynl_snapshots.proofs.saving.applications.hand_leaves.Given as goal

-- the queues so far are told
abbrev pub invariant-loop-i : goal.invariant-loop-i
invariant-loop-i g l = TakesAll g.S.LineSink.gives l.initial.sink (flat_map (queue_lines l.cluster.rows) (take l.i (numbered 1 l.cluster.rows.paths))) l.sink
