-- The first ask that fits is what the application is given.
use Rattle.std.proofs.Common.{◌≡◌, Some, nat_eq, option_map, sym, ap, ◌∙◌, arith}
use Rattle.std.specs.Map.{lookup}
use Rattle.std.specs.Option.{option_and_then}
use Rattle.ynl_inventory.specs.Parts.{app_row}
use Rattle.ynl_search.specs.Guests.{is_guest_for}
use Rattle.ynl_search.specs.InLeaf.{found_ask}
use Rattle.ynl_search.specs.Lowest.{lowest}
use Rattle.ynl_search.proofs.guests.GuestsRequestFound.of.Goals as goal

pub returns : goal.returns
returns c =
    let row : lookup (nat_eq c.args.app) c.args.self.now.inventory.now.rows.apps ≡ Some (app_row c.in_ok-row.row.now) = grind (arith, c.live_app.ensures, c.in_ok-row.is) in
    let found : lowest (is_guest_for c.args.self.now.room) c.as_slice.result.now ≡ Some c.in_ok-ask.ask = grind (arith, c.lowest.ensures, c.in_ok-ask.is) in
    sym
    (ap (option_and_then (λ r. option_map (found_ask c.args.app) (lowest (is_guest_for c.args.self.now.room) r.asks))) row
    ∙ ap (option_map (found_ask c.args.app)) (ap (lowest (is_guest_for c.args.self.now.room)) (sym c.as_slice.ensures.value) ∙ found))
