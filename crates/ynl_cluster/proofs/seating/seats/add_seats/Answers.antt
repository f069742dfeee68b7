-- Each lane has room for its seat.
use Rattle.ynl_inventory.specs.Parts.{app_row}
use Rattle.ynl_cluster.proofs.seating.SeatCalls.{default-lane, default-room, home-lane, home-room, seated-once, seated-twice}
use Rattle.ynl_cluster.proofs.seating.seats.add_seats.Goals as goal

pub add-home-requires-clause-lane : goal.add-home-requires-clause-lane
add-home-requires-clause-lane c = home-lane c.args.app c.args.inventory.now.rows c.args.lanes.now c.requires.start (app_row c.app-row.result.now) c.app-row.ensures

pub add-home-requires-clause-ready : goal.add-home-requires-clause-ready
add-home-requires-clause-ready c = home-room c.args.app c.args.inventory.now.rows c.args.lanes.now c.requires.start (app_row c.app-row.result.now) c.app-row.ensures

pub returns-then-row-eq0 : goal.returns-then-row-eq0
returns-then-row-eq0 c =
    rw c.some.ensures (seated-once c.args.app c.args.inventory.now.rows c.args.lanes.now c.requires.start (app_row c.app-row.result.now) c.app-row.ensures c.add-home.result c.add-home.new.self c.add-home.ensures.lanes
    c.if-row-eq0.true)

pub add-default-requires-clause-lane : goal.add-default-requires-clause-lane
add-default-requires-clause-lane c =
    default-lane c.args.app c.args.inventory.now.rows c.args.lanes.now c.requires.start (app_row c.app-row.result.now) c.app-row.ensures c.add-home.result c.add-home.new.self c.add-home.ensures.lanes

pub add-default-requires-clause-ready : goal.add-default-requires-clause-ready
add-default-requires-clause-ready c =
    default-room c.args.app c.args.inventory.now.rows c.args.lanes.now c.requires.start (app_row c.app-row.result.now) c.app-row.ensures c.add-home.result c.add-home.new.self c.add-home.ensures.lanes
    c.if-row-eq0.false

pub returns : goal.returns
returns c =
    rw (c.some-2.ensures, c.some-3.ensures) (seated-twice c.args.app c.args.inventory.now.rows c.args.lanes.now c.requires.start (app_row c.app-row.result.now) c.app-row.ensures c.add-home.result c.add-home.new.self c.add-home.ensures.lanes
    c.if-row-eq0.false c.add-default.result c.add-default.new.self c.add-default.ensures.lanes)
