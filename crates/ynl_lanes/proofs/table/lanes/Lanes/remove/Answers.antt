use Rattle.std.proofs.Common.{◌≡◌, None, refl, sym, subst}
use Rattle.ynl_slots.specs.Slots.{without}
use Rattle.ynl_lanes.specs.lane.Seats.{IsSeat}
use Rattle.ynl_lanes.proofs.table.Tables.{lane_shows, lanes_written}
use Rattle.ynl_lanes.proofs.table.lanes.Lanes.remove.Goals as goal

pub remove-requires : goal.remove-requires
remove-requires c = subst (λ lane. IsSeat c.args.ticket lane.seats) (lane_shows (λ row. row.items) c.self.inside.lanes.items c.args.self.now c.self.view_is c.args.partition c.args.queue c.requires.lane c.index_mut.result.now c.index_mut.ensures.value c.index_mut-2.result.now c.index_mut-2.ensures.value) c.requires.seat

pub returns : goal.returns
returns c = record {
  next = c.remove.new.self;
  lanes = lanes_written (λ row. row.items) c.self.inside.lanes.items c.args.self.now c.self.view_is c.args.partition c.args.queue c.requires.lane c.index_mut.result.now c.index_mut.ensures.value _ c.remove.new.self refl;
  changes = subst (λ old. (c.remove.new.self.seats ≡ without c.args.ticket old.seats) × (c.remove.new.self.ready ≡ None)) (sym (lane_shows (λ row. row.items) c.self.inside.lanes.items c.args.self.now c.self.view_is c.args.partition c.args.queue c.requires.lane c.index_mut.result.now c.index_mut.ensures.value c.index_mut-2.result.now c.index_mut-2.ensures.value)) (c.remove.ensures.seats, c.remove.ensures.ready);
}
