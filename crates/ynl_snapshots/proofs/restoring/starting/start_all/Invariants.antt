use Rattle.std.proofs.Common.{◌≡◌, take}
use Rattle.ynl_cluster.specs.Cluster.{state_in}
use Rattle.ynl_snapshots.proofs.restoring.Started.{start}
use Rattle.ynl_snapshots.proofs.restoring.starting.start_all.Given as goal

-- the queues so far are started, and nothing else is changed
abbrev pub invariant-loop-i : goal.invariant-loop-i
invariant-loop-i l =
    (l.cluster ≡ record l.initial.cluster { stops = l.cluster.stops })
    × (state_in l.cluster ≡ record (state_in l.initial.cluster) { stops = start (state_in l.initial.cluster).stops (take l.i l.initial.cluster.rows.paths) })
