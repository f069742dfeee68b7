use Rattle.std.proofs.Common.{refl}
use Rattle.ynl_lanes.proofs.lane.Standing.{user_live}
use Rattle.ynl_lanes.proofs.lane.Pulling.{kept_pulled, waits_pulled, shown_pulled}
use Rattle.ynl_lanes.proofs.lane.rows.Rows.pull.Goals as goal

pub pull_own-requires-clause-live : goal.pull_own-requires-clause-live
pull_own-requires-clause-live c = user_live c.args.self.now c.requires.kept.seated c.args.ticket c.remove-row.result c.remove-row.ensures.value

pub returns-clause-kept : goal.returns-clause-kept
returns-clause-kept c =
    kept_pulled c.args.self.now (record c.args.self.now { seats = c.remove-row.new.self; users = c.pull_own.new.users }) c.requires.kept c.args.ticket c.remove-row.result c.remove-row.ensures.value (c.requires.nothing c.remove-row.result c.remove-row.ensures.value) c.remove-row.ensures.entries c.remove-row.result.user c.pull_own.ensures refl

pub returns-clause-users : goal.returns-clause-users
returns-clause-users c = shown_pulled c.remove-row.result.user c.args.self.now.users.entries c.pull_own.new.users.entries c.pull_own.ensures

pub returns-clause-waits : goal.returns-clause-waits
returns-clause-waits c n e there =
    waits_pulled c.args.self.now (record c.args.self.now { seats = c.remove-row.new.self; users = c.pull_own.new.users }) c.requires.kept c.args.ticket c.remove-row.result c.remove-row.ensures.value (c.requires.nothing c.remove-row.result c.remove-row.ensures.value) c.remove-row.ensures.entries c.remove-row.result.user c.pull_own.ensures refl e
