use Rattle.std.proofs.Common.{◌≡◌, None, refl, sym, subst}
use Rattle.ynl_lanes.specs.lane.Seats.{IsSeat, with_waits}
use Rattle.ynl_lanes.proofs.table.Tables.{lane_shows, lanes_written}
use Rattle.ynl_lanes.proofs.table.lanes.Lanes.enter.Goals as goal

pub enter-requires : goal.enter-requires
enter-requires c = subst (λ lane. IsSeat c.args.ticket lane.seats) (lane_shows (λ row. row.items) c.self.inside.lanes.items c.args.self.now c.self.view_is c.args.partition c.args.queue c.requires.lane c.index_mut.result.now c.index_mut.ensures.value c.index_mut-2.result.now c.index_mut-2.ensures.value) c.requires.seat

pub returns : goal.returns
returns c = record {
  next = c.enter.new.self;
  lanes = lanes_written (λ row. row.items) c.self.inside.lanes.items c.args.self.now c.self.view_is c.args.partition c.args.queue c.requires.lane c.index_mut.result.now c.index_mut.ensures.value _ c.enter.new.self refl;
  changes = subst (λ old. (c.enter.new.self.seats ≡ with_waits c.args.ticket c.args.waits.now old.seats) × (c.enter.new.self.ready ≡ None)) (sym (lane_shows (λ row. row.items) c.self.inside.lanes.items c.args.self.now c.self.view_is c.args.partition c.args.queue c.requires.lane c.index_mut.result.now c.index_mut.ensures.value c.index_mut-2.result.now c.index_mut-2.ensures.value)) (c.enter.ensures.seats, c.enter.ensures.ready);
}
