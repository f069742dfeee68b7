use Rattle.std.proofs.Common.{◌≡◌, take, filter}
use Rattle.ynl_waits.specs.Choices.{AreChoices}
use Rattle.ynl_waits.specs.Waits.{is_chosen_on}
use Rattle.ynl_service.proofs.reading.reasons.choosing.chosen_among.Given as goal

abbrev pub invariant-loop-spot : goal.invariant-loop-spot
invariant-loop-spot g l = record {
  so_far : l.chosen.items ≡ filter (is_chosen_on (g.F.Facts.config l.facts) (g.F.Facts.state l.facts) l.app l.request) (take l.spot-index l.there);
  known : AreChoices (g.F.Facts.config l.facts) (g.F.Facts.state l.facts) l.known;
}
