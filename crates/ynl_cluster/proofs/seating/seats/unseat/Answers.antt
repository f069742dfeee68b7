-- Both seats are found, and go.
use Rattle.std.proofs.Common.{sym, subst}
use Rattle.std.specs.Prelude.{unwrap_or}
use Rattle.ynl_lanes.specs.lane.Seats.{IsSeat, Seats}
use Rattle.ynl_inventory.specs.Parts.{app_row}
use Rattle.ynl_cluster.specs.seating.Seating.{figures_of, ticket_on}
use Rattle.ynl_cluster.proofs.seating.Entered.{default-shared, home-shared}
use Rattle.ynl_cluster.proofs.seating.OneSeat.{lane-there, own-seat}
use Rattle.ynl_cluster.proofs.seating.Removing.{gone-once, gone-twice, still-default}
use Rattle.ynl_cluster.proofs.seating.seats.unseat.Goals as goal

pub remove_at-requires-clause-lane : goal.remove_at-requires-clause-lane
remove_at-requires-clause-lane c =
    lane-there (figures_of c.args.inventory.now.rows) c.args.inventory.now.rows c.args.lanes.now c.requires.start c.args.app (app_row c.app-row.result.now) c.app-row.ensures
    c.app-row.result.now.home (home-shared (app_row c.app-row.result.now))

pub remove_at-requires-clause-seat : goal.remove_at-requires-clause-seat
remove_at-requires-clause-seat c =
    own-seat (figures_of c.args.inventory.now.rows) c.args.inventory.now.rows c.args.lanes.now c.requires.start c.args.app (app_row c.app-row.result.now) c.app-row.ensures
    c.app-row.result.now.home (home-shared (app_row c.app-row.result.now))

pub returns-then-row-eq0 : goal.returns-then-row-eq0
returns-then-row-eq0 c =
    gone-once c.args.app c.args.inventory.now.rows (app_row c.app-row.result.now) c.app-row.ensures c.requires.empty c.args.lanes.now c.requires.start c.remove_at.new.lanes c.remove_at.ensures
    c.if-row-eq0.true

pub remove_at-requires-2-clause-seat : goal.remove_at-requires-2-clause-seat
remove_at-requires-2-clause-seat c =
    subst (λ (l : Seats). IsSeat (unwrap_or (ticket_on 0 (app_row c.app-row.result.now)) 0) l.seats)
    (sym (still-default c.args.app c.args.inventory.now.rows (app_row c.app-row.result.now) c.app-row.ensures c.requires.empty c.args.lanes.now c.requires.start c.remove_at.new.lanes c.remove_at.ensures
    c.if-row-eq0.false))
    (own-seat (figures_of c.args.inventory.now.rows) c.args.inventory.now.rows c.args.lanes.now c.requires.start c.args.app (app_row c.app-row.result.now) c.app-row.ensures
    0 (default-shared (app_row c.app-row.result.now)))

pub returns : goal.returns
returns c =
    gone-twice c.args.app c.args.inventory.now.rows (app_row c.app-row.result.now) c.app-row.ensures c.requires.empty c.args.lanes.now c.requires.start c.remove_at.new.lanes c.remove_at.ensures
    c.if-row-eq0.false c.remove_at-2.new.lanes c.remove_at-2.ensures
