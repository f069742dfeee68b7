use Rattle.std.proofs.Common.{◌≡◌, List, sym, ap₂, subst, ◌∙◌}
use Rattle.std.specs.List.{AllByRecursion}
use Rattle.ynl_model.specs.Cluster.{State}
use Rattle.ynl_model.specs.Queues.{Config}
use Rattle.ynl_waits.specs.Grounds.{ground, guest_grounds}
use Rattle.ynl_waits.specs.declared.grounds.Spot.{Spot}
use Rattle.ynl_waits.specs.Waits.{places}
use Rattle.ynl_waits.proofs.Spots.{places-are}
use Rattle.ynl_service.specs.reading.reasons.Facts.{IsSpotOf}
use Rattle.ynl_service.proofs.reading.reasons.Spots.{spots-are}
use Rattle.ynl_service.proofs.reading.reasons.telling.reasons_of.Goals as goal

pub told_by-requires-clause-spots : goal.told_by-requires-clause-spots
told_by-requires-clause-spots g c =
    let config : Config = g.F.Facts.config c.args.facts.now in
    let s : State = g.F.Facts.state c.args.facts.now in
    let app = c.args.asked.now.app.now in
    let request = c.args.asked.now.request.now in
    let passes = c.passes-passes.result in
    let is : c.deref.result.now ≡ places app request passes (ground config s request.label) (guest_grounds config s request.what) =
    c.deref.ensures.value ∙ c.in_ok-there.ensures ∙ ap₂ (places app request passes) c.requires.own c.requires.guests in
    subst (λ (xs : List Spot). AllByRecursion (IsSpotOf s) xs) (sym is) (places-are config s (IsSpotOf s) (spots-are s) app request passes)
