use Rattle.std.proofs.Common.{◌≡◌, ◌++◌, take, map}
use Rattle.ynl_waits.specs.Choices.{AreChoices}
use Rattle.ynl_service.specs.reading.reasons.Facts.{ask_wait}
use Rattle.ynl_service.proofs.reading.reasons.explaining.add_asks.Given as goal

abbrev pub invariant-loop-ask : goal.invariant-loop-ask
invariant-loop-ask g l = record {
  so_far : l.waits.items ≡ l.initial.waits.items ++ map (ask_wait (g.F.Facts.config l.facts) (g.F.Facts.state l.facts) l.query.app.now l.under.label.now) (take l.ask-index l.under.asks.now);
  known : AreChoices (g.F.Facts.config l.facts) (g.F.Facts.state l.facts) l.known;
}
