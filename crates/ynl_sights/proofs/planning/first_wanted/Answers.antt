use Rattle.std.proofs.Common.{List, None, ◌++◌, sym, ap, ◌∙◌}
use Rattle.std.specs.Prelude.{fold}
use Rattle.ynl_sights.specs.Sights.{Bid, Seen, open_bids, first_bid}
use Rattle.ynl_sights.specs.Rows.{masters_in, asks_in}
use Rattle.ynl_sights.specs.Planning.{open_in, sooner}
use Rattle.ynl_sights.proofs.Holding.{then, open-append, first-found}
use Rattle.ynl_sights.proofs.planning.first_wanted.Goals as goal

pub returns : goal.returns
returns c =
    let free = c.sight.inside.free in
    let masters = masters_in c.sight.inside.leaves in
    let asks = asks_in c.sight.inside.node.label c.sight.inside.leaves in
    then None c.hold_masters.new.held c.hold_asks.new.held (open_in free masters) (open_in free asks) c.hold_masters.ensures c.hold_asks.ensures
    ∙ ap (λ (bids : List Bid). fold sooner None bids) (sym (open-append free masters asks))
    ∙ first-found (open_in free (masters ++ asks))
    ∙ ap (λ (seen : Seen). first_bid (open_bids seen)) c.sight.view_is
