use Rattle.std.proofs.Common.{length, ◌-◌}
use Rattle.ynl_lanes.specs.lane.Lines.{values_of}
use Rattle.ynl_lanes.proofs.lane.Searching.{HasPassed}
use Rattle.ynl_lanes.proofs.lane.rows.Rows.first_own.Given as goal

abbrev pub invariant-loop-own : goal.invariant-loop-own
invariant-loop-own g l = HasPassed l.self l.user l.kind (g.P.Test.passes l.test) (g.R.Request.gives l.request) l.end l.from

abbrev pub decreases-loop-own : goal.decreases-loop-own
decreases-loop-own g l = length (values_of l.kind l.line) - l.from
