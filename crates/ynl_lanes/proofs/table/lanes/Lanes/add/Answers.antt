use Rattle.std.proofs.Common.{◌≡◌, None, IfSome, refl, sym, subst}
use Rattle.ynl_lanes.specs.lane.Seats.{Adds}
use Rattle.ynl_lanes.proofs.table.Tables.{lane_shows, lanes_written}
use Rattle.ynl_lanes.proofs.table.lanes.Lanes.add.Goals as goal

pub returns-clause-lanes : goal.returns-clause-lanes
returns-clause-lanes c = record {
  next = c.add.new.self;
  lanes = lanes_written (λ row. row.items) c.self.inside.lanes.items c.args.self.now c.self.view_is c.args.partition c.args.queue c.requires.lane c.index_mut.result.now c.index_mut.ensures.value _ c.add.new.self refl;
  changes = subst (λ old. IfSome old.ready (λ user. Adds c.args.app c.add.result user old.seats c.add.new.self.seats) × (c.add.new.self.ready ≡ None))
      (sym (lane_shows (λ row. row.items) c.self.inside.lanes.items c.args.self.now c.self.view_is c.args.partition c.args.queue c.requires.lane c.index_mut.result.now c.index_mut.ensures.value c.index_mut-2.result.now c.index_mut-2.ensures.value))
      (c.add.ensures.seats, c.add.ensures.ready);
}
