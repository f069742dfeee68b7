use Rattle.std.proofs.Common.{sym}
use Rattle.ynl_service.specs.reading.reasons.Facts.{IsSpotOf}
use Rattle.ynl_service.proofs.reading.reasons.Firsts.{first-holds}
use Rattle.ynl_service.proofs.reading.reasons.telling.add_turn_on.Goals as goal

pub choice_on-requires-clause-spot : goal.choice_on-requires-clause-spot
choice_on-requires-clause-spot g c = first-holds (IsSpotOf (g.F.Facts.state c.args.facts.now)) c.args.there.now c.in-Some.first.now c.requires.spots (sym c.in-Some.ensures)
