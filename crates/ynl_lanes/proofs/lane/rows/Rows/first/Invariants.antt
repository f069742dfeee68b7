use Rattle.std.proofs.Common.{length, ◌-◌}
use Rattle.ynl_lanes.specs.lane.Lines.{values_of}
use Rattle.ynl_lanes.proofs.lane.Standing.{IsSearching}
use Rattle.ynl_lanes.proofs.lane.rows.Rows.first.Given as goal

abbrev pub invariant-loop-stand : goal.invariant-loop-stand
invariant-loop-stand g l = IsSearching l.self l.kind (g.T.Test.passes l.test) (g.R.Request.gives l.request) l.before l.best l.end l.from

abbrev pub decreases-loop-stand : goal.decreases-loop-stand
decreases-loop-stand g l = length (values_of l.kind l.self.line) - l.from
