use Rattle.std.proofs.Common.{◌≡◌, None, OnOk, OnErr, Some, refl, sym, subst}
use Rattle.ynl_lanes.proofs.table.Tables.{lane_shows, lanes_written}
use Rattle.ynl_lanes.proofs.table.lanes.Lanes.reserve.Goals as goal

pub returns : goal.returns
returns c = record {
  next = c.reserve_for.new.self;
  lanes = lanes_written (λ row. row.items) c.self.inside.lanes.items c.args.self.now c.self.view_is c.args.partition c.args.queue c.requires c.index_mut.result.now c.index_mut.ensures.value _ c.reserve_for.new.self refl;
  changes = subst (λ old. (c.reserve_for.new.self.seats ≡ old.seats) × OnOk c.reserve_for.result (c.reserve_for.new.self.ready ≡ Some c.args.user) × OnErr c.reserve_for.result (c.reserve_for.new.self.ready ≡ None)) (sym (lane_shows (λ row. row.items) c.self.inside.lanes.items c.args.self.now c.self.view_is c.args.partition c.args.queue c.requires c.index_mut.result.now c.index_mut.ensures.value c.index_mut-2.result.now c.index_mut-2.ensures.value)) (c.reserve_for.ensures.seats, c.reserve_for.ensures.ok, c.reserve_for.ensures.err);
}
