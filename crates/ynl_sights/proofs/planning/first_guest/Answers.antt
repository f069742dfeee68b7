use Rattle.std.proofs.Common.{filter, Option, sym, ap, ◌∙◌}
use Rattle.ynl_resource.specs.declared.labels.Label.TheVariants.{Unlabelled}
use Rattle.ynl_sights.specs.declared.rows.LeafSights.{LeafSights}
use Rattle.ynl_sights.specs.Sights.{Seen, has_room, first_bid}
use Rattle.ynl_sights.specs.Rows.{asks_in, bids_of, guest_bids_in}
use Rattle.ynl_sights.proofs.Holding.{first-found}
use Rattle.ynl_sights.proofs.planning.first_guest.Goals as goal

pub returns-in-Some : goal.returns-in-Some
returns-in-Some c =
    let free = c.sight.inside.free in
    c.hold_guests.ensures
    ∙ first-found (filter (has_room free) (bids_of (asks_in Unlabelled c.in-Some.guests)))
    ∙ ap (λ (guests : Option LeafSights). first_bid (filter (has_room free) (guest_bids_in guests))) (sym c.in-Some.is)
    ∙ ap (λ (seen : Seen). first_bid (filter (has_room seen.free) seen.guests)) c.sight.view_is

pub returns-in_default : goal.returns-in_default
returns-in_default c =
    ap (λ (guests : Option LeafSights). first_bid (filter (has_room c.sight.inside.free) (guest_bids_in guests))) (sym c.in_default.is)
    ∙ ap (λ (seen : Seen). first_bid (filter (has_room seen.free) seen.guests)) c.sight.view_is
