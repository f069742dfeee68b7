use Rattle.std.proofs.Common.{ap, ◌∙◌}
use Rattle.std.proofs.lemmas.Result.{on_ok_weaker}
use Rattle.ynl_lines.specs.Reading.{event_of_line}
use Rattle.ynl_fields.proofs.Pieces.{from_nothing, on_both}
use Rattle.ynl_lines.proofs.ReplyTrip.{event_text_back}
use Rattle.ynl_lines.proofs.write.put_event.Goals as goal

pub returns-clause-text : goal.returns-clause-text
returns-clause-text c = on_ok_weaker c.add_event.result (from_nothing _ _ _ c.clear.ensures.items) c.add_event.ensures.added

pub returns-clause-reads : goal.returns-clause-reads
returns-clause-reads c = λ numbers.
    on_both c.add_event.result
    (λ added sound. ap event_of_line (from_nothing _ _ _ c.clear.ensures.items added) ∙ event_text_back c.args.event.now sound numbers)
    c.add_event.ensures.added c.add_event.ensures.sound
