use Rattle.std.proofs.Common.{filter, map, take}
use Rattle.ynl_resource.specs.declared.labels.Label.TheVariants.{Unlabelled}
use Rattle.ynl_model.specs.declared.proposals.What.TheVariants.{Ask as Asked}
use Rattle.ynl_sights.specs.Sights.{has_room}
use Rattle.ynl_sights.specs.Rows.{bids_of, offer_at}
use Rattle.ynl_sights.specs.Planning.{HoldsFirst}
use Rattle.ynl_sights.specs.declared.rows.Offered.{Offered}
use Rattle.ynl_sights.proofs.planning.hold_guests_of.Given as goal

abbrev pub invariant-loop-offered : goal.invariant-loop-offered
invariant-loop-offered l =
    HoldsFirst l.initial.held (filter (has_room l.free) (bids_of (map (λ (o : Offered). offer_at l.guests l.leaf (Asked Unlabelled o.wanted.priority) o) (take l.offered-index l.asks)))) l.held
