use Rattle.std.proofs.Common.{◌≡◌, None, IfSome, nat_eq, refl, sym, subst}
use Rattle.std.specs.Map.{lookup}
use Rattle.ynl_lanes.specs.lane.Seats.{IsSeat, with_used}
use Rattle.ynl_lanes.proofs.table.Tables.{lane_shows, lanes_written}
use Rattle.ynl_lanes.proofs.table.lanes.Lanes.set_used.Goals as goal

pub set_used-requires-clause-seat : goal.set_used-requires-clause-seat
set_used-requires-clause-seat c = subst (λ lane. IsSeat c.args.ticket lane.seats) (lane_shows (λ row. row.items) c.self.inside.lanes.items c.args.self.now c.self.view_is c.args.partition c.args.queue c.requires.lane c.index_mut.result.now c.index_mut.ensures.value c.index_mut-2.result.now c.index_mut-2.ensures.value) c.requires.seat

pub returns : goal.returns
returns c = record {
  next = c.set_used.new.self;
  lanes = lanes_written (λ row. row.items) c.self.inside.lanes.items c.args.self.now c.self.view_is c.args.partition c.args.queue c.requires.lane c.index_mut.result.now c.index_mut.ensures.value _ c.set_used.new.self refl;
  changes = subst (λ old. IfSome (lookup (nat_eq c.args.ticket) old.seats) (λ seat. c.set_used.new.self.seats ≡ with_used seat.user c.args.used old.seats) × (c.set_used.new.self.ready ≡ None)) (sym (lane_shows (λ row. row.items) c.self.inside.lanes.items c.args.self.now c.self.view_is c.args.partition c.args.queue c.requires.lane c.index_mut.result.now c.index_mut.ensures.value c.index_mut-2.result.now c.index_mut-2.ensures.value)) (c.set_used.ensures.seats, c.set_used.ensures.ready);
}
