use Rattle.std.proofs.Common.{◌≡◌, ◌++◌, take, Some}
use Rattle.std.specs.Prelude.{flat_map}
use Rattle.ynl_model.specs.Applications.{Application, find_app}
use Rattle.ynl_waits.specs.Choices.{AreChoices}
use Rattle.ynl_service.specs.reading.reasons.Facts.{asks_waiting}
use Rattle.ynl_service.proofs.reading.reasons.explaining.add_labels.Given as goal

abbrev pub invariant-loop-label : goal.invariant-loop-label
invariant-loop-label g l = record {
  so_far : (live : Application) → find_app (g.F.Facts.state l.facts).leaves l.query.tenant.now l.query.name.now ≡ Some live
      → l.waits.items ≡ l.initial.waits.items ++ flat_map (asks_waiting (g.F.Facts.config l.facts) (g.F.Facts.state l.facts) l.query.app.now live) (take l.label-index l.labels);
  known : AreChoices (g.F.Facts.config l.facts) (g.F.Facts.state l.facts) l.known;
}
