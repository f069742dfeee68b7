use Rattle.std.proofs.Common.{◌≡◌}
use Rattle.ynl_lanes.specs.lane.Apps.{apps_before}
use Rattle.ynl_lanes.proofs.lane.rows.Rows.list_apps.Given as goal

abbrev pub invariant-loop-slot : goal.invariant-loop-slot
invariant-loop-slot l = l.apps.items ≡ apps_before l.slot l.self.seats.entries
