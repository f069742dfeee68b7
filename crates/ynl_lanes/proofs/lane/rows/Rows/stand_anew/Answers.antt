use Rattle.std.proofs.Common.{◌≢◌}
use Rattle.ynl_lanes.specs.declared.lane.kinds.Kind.{Kind}
use Rattle.ynl_lanes.specs.declared.lane.kinds.Kind.TheVariants.{Master, Ask}
use Rattle.ynl_lanes.specs.lane.Rows.{AreStood}
use Rattle.ynl_lanes.proofs.lane.Stood.{seated_changed, but_same, stood_same}
use Rattle.ynl_lanes.proofs.lane.rows.Rows.stand_anew.Goals as goal

ask-master : Ask ≢ Master
ask-master e = cc

master-ask : Master ≢ Ask
master-ask e = cc

pub stand-requires-clause-others : goal.stand-requires-clause-others
stand-requires-clause-others c = c.requires.others Master

pub stand-requires-2-clause-seated : goal.stand-requires-2-clause-seated
stand-requires-2-clause-seated c = seated_changed c.args.user Master c.args.self.now c.stand.new.self c.stand.ensures.seats c.stand.ensures.users c.stand.ensures.line c.requires.seated

pub stand-requires-2-clause-others : goal.stand-requires-2-clause-others
stand-requires-2-clause-others c = but_same c.args.user Ask c.args.self.now c.stand.new.self c.stand.ensures.seats c.stand.ensures.users (c.stand.ensures.line.kinds Ask ask-master) (c.requires.others Ask)

pub returns-clause-kept : goal.returns-clause-kept
returns-clause-kept c = record {
  seated = seated_changed c.args.user Ask c.stand.new.self c.stand-2.new.self c.stand-2.ensures.seats c.stand-2.ensures.users c.stand-2.ensures.line (seated_changed c.args.user Master c.args.self.now c.stand.new.self c.stand.ensures.seats c.stand.ensures.users c.stand.ensures.line c.requires.seated);
  stood = both;
}
  where
    both : (kind : Kind) → AreStood kind c.stand-2.new.self
    both Master = stood_same Master c.stand.new.self c.stand-2.new.self c.stand-2.ensures.seats c.stand-2.ensures.users (c.stand-2.ensures.line.kinds Master master-ask) c.stand.ensures.stood
    both Ask = c.stand-2.ensures.stood
