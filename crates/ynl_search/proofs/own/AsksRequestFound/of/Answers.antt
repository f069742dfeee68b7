-- The first ask that may be placed is what the application is given.
use Rattle.std.proofs.Common.{◌≡◌, Some, nat_eq, option_map, sym, ap, ◌∙◌, arith}
use Rattle.std.specs.Map.{lookup}
use Rattle.std.specs.Option.{option_and_then}
use Rattle.ynl_inventory.specs.Parts.{app_row}
use Rattle.ynl_search.specs.InLeaf.{found_ask, is_open_to, used_on}
use Rattle.ynl_search.specs.Lowest.{lowest}
use Rattle.ynl_search.proofs.own.AsksRequestFound.of.Goals as goal

pub returns : goal.returns
returns c =
    let row : lookup (nat_eq c.args.app) c.args.self.now.inventory.now.rows.apps ≡ Some (app_row c.in_ok-row.row.now) = grind (arith, c.live_app.ensures, c.in_ok-row.is) in
    let used : used_on c.args.self.now.lane.now.seats c.args.self.now.partition (app_row c.in_ok-row.row.now) ≡ Some c.in_ok-used.used = grind (arith, c.ticket_of.ensures, c.in_ok-ticket_of.is, c.find_used.ensures.value, c.in_ok-used.is) in
    let found : lowest (is_open_to c.args.self.now.inventory.now.rows c.args.self.now.lane.now.seats c.args.self.now.partition c.args.self.now.tests.now c.in_ok-used.used) c.as_slice.result.now ≡ Some c.in_ok-ask.ask = grind (arith, c.lowest.ensures, c.in_ok-ask.is) in
    let low : lowest (is_open_to c.args.self.now.inventory.now.rows c.args.self.now.lane.now.seats c.args.self.now.partition c.args.self.now.tests.now c.in_ok-used.used) (app_row c.in_ok-row.row.now).asks ≡ Some c.in_ok-ask.ask =
    ap (lowest (is_open_to c.args.self.now.inventory.now.rows c.args.self.now.lane.now.seats c.args.self.now.partition c.args.self.now.tests.now c.in_ok-used.used)) (sym c.as_slice.ensures.value)
    ∙ found in
    sym
    (ap
    (option_and_then
    (λ r. option_and_then
    (λ used. option_map (found_ask c.args.app)
    (lowest (is_open_to c.args.self.now.inventory.now.rows c.args.self.now.lane.now.seats c.args.self.now.partition c.args.self.now.tests.now used) r.asks))
    (used_on c.args.self.now.lane.now.seats c.args.self.now.partition r)))
    row
    ∙ ap
    (option_and_then
    (λ used. option_map (found_ask c.args.app)
    (lowest (is_open_to c.args.self.now.inventory.now.rows c.args.self.now.lane.now.seats c.args.self.now.partition c.args.self.now.tests.now used) (app_row c.in_ok-row.row.now).asks)))
    used
    ∙ ap (option_map (found_ask c.args.app)) low)
