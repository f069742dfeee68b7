use Rattle.std.proofs.Common.{ap, ◌∙◌}
use Rattle.std.proofs.lemmas.Result.{on_ok_weaker}
use Rattle.ynl_lines.specs.ReadingReplies.{line_of_text}
use Rattle.ynl_fields.proofs.Pieces.{from_nothing, on_both}
use Rattle.ynl_lines.proofs.Added.{line_added}
use Rattle.ynl_lines.proofs.ReplyTrip.{line_text_back}
use Rattle.ynl_lines.proofs.write.put_line.Goals as goal

pub returns-clause-text : goal.returns-clause-text
returns-clause-text c =
    on_ok_weaker c.add_end.result
    (λ e. line_added c.args.place (record { event = c.args.event.now; reply = c.args.reply.now }) _ _ _ _ (from_nothing _ _ _ c.clear.ensures.items c.in_ok-add.ensures.added) c.in_ok-add_event.ensures.added c.in_ok-add_number.ensures.added e)
    c.add_end.ensures.added

pub returns-clause-reads : goal.returns-clause-reads
returns-clause-reads c = λ numbers.
    on_both c.add_end.result
    (λ e sound.
    ap line_of_text (line_added c.args.place (record { event = c.args.event.now; reply = c.args.reply.now }) _ _ _ _ (from_nothing _ _ _ c.clear.ensures.items c.in_ok-add.ensures.added) c.in_ok-add_event.ensures.added c.in_ok-add_number.ensures.added e)
    ∙ line_text_back c.args.place (record { event = c.args.event.now; reply = c.args.reply.now }) c.ranges.place.fits c.requires c.in_ok-add_event.ensures.sound sound numbers)
    c.add_end.ensures.added c.add_end.ensures.sound
