-- A new application is still live.
use Rattle.std.proofs.Common.{refl}
use Rattle.ynl_cluster.proofs.seating.SeatCalls.{still-live}
use Rattle.ynl_cluster.proofs.seating.seats.seat.Goals as goal

pub enter-requires-clause-live : goal.enter-requires-clause-live
enter-requires-clause-live c =
    still-live c.args.app c.args.inventory.now.rows c.args.lanes.now c.requires.start c.add_seats-tickets.result c.args.inventory.now c.set_tickets.new.self refl c.set_tickets.ensures c.requires.live
