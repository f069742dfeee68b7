use Rattle.std.proofs.Common.{sym}
use Rattle.ynl_lanes.specs.declared.lane.levels.Level.TheVariants.{Lane}
use Rattle.ynl_lanes.proofs.lane.Standing.{slot_inside}
use Rattle.ynl_lanes.proofs.lane.Stood.{changes_set}
use Rattle.ynl_lanes.proofs.lane.rows.Rows.clear_stand.Goals as goal

pub set-requires : goal.set-requires
set-requires c = slot_inside c.args.self.now c.requires c.args.kind c.in-Some.ticket c.in-Some-get.row.now (sym c.in-Some-get.ensures.value)

pub returns-then-row-user-clause-line : goal.returns-then-row-user-clause-line
returns-then-row-user-clause-line c = changes_set c.args.user c.args.kind c.args.self.now.seats.entries c.args.self.now.line c.set.new.self c.in-Some.ticket c.in-Some-get.row.now _ (c.requires.lines Lane) (sym c.in-Some-get.ensures.value) c.if-row-user.true c.set.ensures.tickets c.set.ensures.value c.set.ensures.other
