use Rattle.std.proofs.Common.{codes, decimal, ◌∷◌, [], ◌++◌, ap, ap₂, ◌∙◌}
use Rattle.std.proofs.lemmas.Result.{on_ok_weaker}
use Rattle.json.specs.Print.{escape, escape_byte}
use Rattle.serde_json.specs.Written.{compact_text}
use Rattle.ynl_resource.specs.Texts.{label_text}
use Rattle.ynl_fields.proofs.Pieces.{join, quote}
use Rattle.ynl_saved_text.specs.StateLines.{ask_data}
use Rattle.ynl_saved_text.proofs.Parts.{behind}
use Rattle.ynl_saved_text.proofs.write_applications.add_ask.Goals as goal

pub returns-clause-added : goal.returns-clause-added
unfolding escape_byte
returns-clause-added c =
    on_ok_weaker c.add_owned.result
    (λ e. quote c.args.text.now.items c.add_name.new.text.items (codes "{\"app\":\"") c.args.app.now _ _ c.in_ok-add_name.ensures.added
    (join c.add_name.new.text.items c.add_number.new.text.items (codes "\",\"count\":") (decimal c.from.result) _ _ c.in_ok-add_number.ensures.added
    (behind c.add_number.new.text.items c.add_labelled.new.text.items (codes ",\"label\":\"") (escape (label_text c.args.ask.now.label) ++ 34 ∷ []) (codes ",\"memory\":") (decimal c.amount-size.result.memory) _ _ c.in_ok-add_labelled.ensures.added
    (join c.add_labelled.new.text.items c.add_number-2.new.text.items (codes ",\"priority\":") (decimal c.from-2.result) _ _ c.in_ok-add_number-2.ensures.added e)))
    ∙ ap (λ size. c.args.text.now.items ++ compact_text (ask_data c.args.tenant.now c.args.app.now (record { label = c.args.ask.now.label; priority = c.from-2.result; count = c.from.result; size = size }))) c.amount-size.ensures.value
    ∙ ap₂ (λ priority count. c.args.text.now.items ++ compact_text (ask_data c.args.tenant.now c.args.app.now (record { label = c.args.ask.now.label; priority = priority; count = count; size = c.args.ask.now.size }))) c.from-2.ensures c.from.ensures)
    c.add_owned.ensures.added
