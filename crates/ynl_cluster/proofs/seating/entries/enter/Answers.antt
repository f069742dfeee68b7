-- What waits is entered at both seats.
use Rattle.std.proofs.Common.{◌≡◌, subst}
use Rattle.std.specs.Prelude.{IfSome}
use Rattle.ynl_inventory.specs.Apps.{runs_at}
use Rattle.ynl_inventory.specs.Parts.{app_row}
use Rattle.ynl_cluster.specs.seating.Seating.{user_use}
use Rattle.ynl_cluster.proofs.seating.OneSeat.{lane-there, own-seat}
use Rattle.ynl_cluster.proofs.seating.Entered.{entered-once, entered-twice, home-shared, second-seat}
use Rattle.ynl_cluster.proofs.seating.entries.enter.Goals as goal

pub enter_at-requires-clause-lane : goal.enter_at-requires-clause-lane
enter_at-requires-clause-lane c =
    lane-there (record { used = user_use c.args.inventory.now.rows; waits = c.requires.start.waits }) c.args.inventory.now.rows c.args.lanes.now c.requires.start.seated c.args.app
    (app_row c.app-row.result.now) c.app-row.ensures c.app-row.result.now.home (home-shared (app_row c.app-row.result.now))

pub enter_at-requires-clause-seat : goal.enter_at-requires-clause-seat
enter_at-requires-clause-seat c =
    own-seat (record { used = user_use c.args.inventory.now.rows; waits = c.requires.start.waits }) c.args.inventory.now.rows c.args.lanes.now c.requires.start.seated c.args.app
    (app_row c.app-row.result.now) c.app-row.ensures c.app-row.result.now.home (home-shared (app_row c.app-row.result.now))

pub returns-then-row-eq0 : goal.returns-then-row-eq0
returns-then-row-eq0 c =
    entered-once c.args.app c.args.inventory.now.rows (app_row c.app-row.result.now) c.app-row.ensures c.runs-runs.result
    (subst (λ o. IfSome o (λ row. c.runs-runs.result ≡ runs_at c.args.inventory.now.rows c.args.app row)) c.app-row.ensures c.runs-runs.ensures) c.args.lanes.now c.requires.start c.enter_at.new.lanes
    c.enter_at.ensures c.if-row-eq0.true

pub enter_at-requires-2-clause-seat : goal.enter_at-requires-2-clause-seat
enter_at-requires-2-clause-seat c =
    second-seat c.args.app c.args.inventory.now.rows (app_row c.app-row.result.now) c.app-row.ensures c.runs-runs.result
    (subst (λ o. IfSome o (λ row. c.runs-runs.result ≡ runs_at c.args.inventory.now.rows c.args.app row)) c.app-row.ensures c.runs-runs.ensures) c.args.lanes.now c.requires.start c.enter_at.new.lanes
    c.enter_at.ensures

pub returns : goal.returns
returns c =
    entered-twice c.args.app c.args.inventory.now.rows (app_row c.app-row.result.now) c.app-row.ensures c.runs-runs.result
    (subst (λ o. IfSome o (λ row. c.runs-runs.result ≡ runs_at c.args.inventory.now.rows c.args.app row)) c.app-row.ensures c.runs-runs.ensures) c.args.lanes.now c.requires.start c.enter_at.new.lanes
    c.enter_at.ensures c.if-row-eq0.false c.enter_at-2.new.lanes c.enter_at-2.ensures
