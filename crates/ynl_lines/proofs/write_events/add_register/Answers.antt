use Rattle.std.proofs.Common.{codes, decimal, ◌++◌, ap, ◌∙◌}
use Rattle.std.proofs.lemmas.Result.{on_ok_weaker}
use Rattle.json.specs.Print.{escape_byte}
use Rattle.serde_json.specs.Written.{compact_text}
use Rattle.ynl_resource.specs.Texts.{label_text}
use Rattle.ynl_lines.specs.Writing.{register_data}
use Rattle.ynl_fields.proofs.Pieces.{join, quote}
use Rattle.ynl_lines.proofs.write_events.add_register.Goals as goal

pub returns-clause-added : goal.returns-clause-added
unfolding escape_byte
returns-clause-added c =
    on_ok_weaker c.add.result
    (λ e. quote c.args.text.now.items c.add_label.new.text.items (codes "{\"event\":\"register\",\"label\":\"") (label_text c.args.label.now) _ _ c.in_ok-add_label.ensures.added
    (join c.add_label.new.text.items c.add_number.new.text.items (codes "\",\"memory\":") (decimal c.amount-size.result.memory) _ _ c.in_ok-add_number.ensures.added
    (quote c.add_number.new.text.items c.add_name.new.text.items (codes ",\"node\":\"") c.args.node.now _ _ c.in_ok-add_name.ensures.added
    (join c.add_name.new.text.items c.add_number-2.new.text.items (codes "\",\"vcores\":") (decimal c.amount-size.result.vcores) _ _ c.in_ok-add_number-2.ensures.added e)))
    ∙ ap (λ size. c.args.text.now.items ++ compact_text (register_data c.args.node.now c.args.label.now size)) c.amount-size.ensures.value)
    c.add.ensures.added
