use Rattle.std.proofs.Common.{refl, arith, ◌+◌}
use Rattle.ynl_lanes.proofs.lane.changes.push_own.Goals as goal

pub overflow_add-row : goal.overflow_add-row
overflow_add-row c = omega (arith, (c.requires.room c.index_mut-row.result.now c.index_mut-row.ensures.value).1)

pub returns : goal.returns
returns c = record {
  row = c.index_mut-row.result.now;
  found = c.index_mut-row.ensures.value;
  next = record { user = c.index_mut-row.result.now.user; used = c.index_mut-row.result.now.used; live = c.index_mut-row.result.now.live + 1; line = c.push.new.self };
  entries = refl;
  user_is = refl;
  used = refl;
  live = refl;
  tickets = c.push.ensures.tickets;
  masters = c.push.ensures.masters;
  asks = c.push.ensures.asks;
}
