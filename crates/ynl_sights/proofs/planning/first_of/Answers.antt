use Rattle.std.proofs.Common.{◌≡◌, None, sym, ap, ◌∙◌}
use Rattle.std.specs.Prelude.{option_map}
use Rattle.ynl_sights.specs.Sights.{Bid, open_bids, open_guests, first_bid}
use Rattle.ynl_sights.proofs.Holding.{guests-open, item-held, or-none}
use Rattle.ynl_sights.proofs.planning.first_of.Goals as goal

pub returns-in-None : goal.returns-in-None
returns-in-None c =
    let seen = c.args.sight.now in
    let none : first_bid (open_bids seen) ≡ None = sym c.in-None.ensures in
    item-held c.first_guest.result
    ∙ ap (option_map (λ (bid : Bid). bid.item)) (c.first_guest.ensures ∙ ap first_bid (sym (guests-open seen none)) ∙ sym (or-none (first_bid (open_bids seen)) (first_bid (open_guests seen)) none))
