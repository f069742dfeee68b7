use Rattle.std.proofs.Common.{refl}
use Rattle.ynl_lanes.proofs.lane.changes.set_values.Goals as goal

pub returns : goal.returns
returns c = record {
  row = c.index_mut.result.now;
  found = c.index_mut.ensures.value;
  next = record { user = c.index_mut.result.now.user; used = c.index_mut.result.now.used; live = c.index_mut.result.now.live; line = c.set_both.new.self };
  entries = refl;
  user_is = refl;
  used = refl;
  live = refl;
  tickets = c.set_both.ensures.tickets;
  masters = c.set_both.ensures.masters;
  asks = c.set_both.ensures.asks;
}
