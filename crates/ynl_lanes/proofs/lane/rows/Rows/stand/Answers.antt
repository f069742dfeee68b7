use Rattle.ynl_lanes.proofs.lane.Stood.{seated_changed, but_changed, stood_none}
use Rattle.ynl_lanes.proofs.lane.rows.Rows.stand.Goals as goal

pub put_least-requires-clause-seated : goal.put_least-requires-clause-seated
put_least-requires-clause-seated c = seated_changed c.args.user c.args.kind c.args.self.now c.leave_stand.new.self c.leave_stand.ensures.seats c.leave_stand.ensures.users c.leave_stand.ensures.line c.requires.seated

pub put_least-requires-clause-others : goal.put_least-requires-clause-others
put_least-requires-clause-others c = but_changed c.args.user c.args.kind c.args.self.now c.leave_stand.new.self c.leave_stand.ensures.seats c.leave_stand.ensures.users c.leave_stand.ensures.line c.requires.others

pub returns-in_default-clause-stood : goal.returns-in_default-clause-stood
returns-in_default-clause-stood c = stood_none c.args.user c.args.kind c.args.self.now c.leave_stand.new.self c.leave_stand.ensures.seats c.leave_stand.ensures.users c.leave_stand.ensures.line c.requires.others c.in_default.ensures.none
