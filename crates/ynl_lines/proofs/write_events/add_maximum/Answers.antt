use Rattle.std.proofs.Common.{codes, decimal, ◌++◌, ap, ◌∙◌}
use Rattle.std.proofs.lemmas.Result.{on_ok_weaker}
use Rattle.json.specs.Print.{escape_byte}
use Rattle.serde_json.specs.Written.{compact_text}
use Rattle.ynl_resource.specs.Texts.{label_text, path_text}
use Rattle.ynl_lines.specs.Writing.{maximum_data}
use Rattle.ynl_fields.proofs.Pieces.{join, quote}
use Rattle.ynl_lines.proofs.write_events.add_maximum.Goals as goal

pub returns-clause-added : goal.returns-clause-added
unfolding escape_byte
returns-clause-added c =
    on_ok_weaker c.add.result
    (λ e. quote c.args.text.now.items c.add_label.new.text.items (codes "{\"event\":\"maximum\",\"label\":\"") (label_text c.args.label.now) _ _ c.in_ok-add_label.ensures.added
    (join c.add_label.new.text.items c.add_number.new.text.items (codes "\",\"maximum\":") (decimal c.number.result) _ _ c.in_ok-add_number.ensures.added
    (quote c.add_number.new.text.items c.add_path.new.text.items (codes ",\"queue\":\"") (path_text c.args.queue.now) _ _ c.in_ok-add_path.ensures.added e))
    ∙ ap (λ maximum. c.args.text.now.items ++ compact_text (maximum_data c.args.queue.now c.args.label.now maximum)) c.number.ensures.value)
    c.add.ensures.added
