use Rattle.std.proofs.Common.{codes, decimal, ◌∷◌, [], ◌++◌, ap, ◌∙◌}
use Rattle.std.proofs.lemmas.Result.{on_ok_weaker}
use Rattle.json.specs.Print.{escape, escape_byte}
use Rattle.serde_json.specs.Written.{compact_text}
use Rattle.ynl_resource.specs.Texts.{label_text, path_text}
use Rattle.ynl_fields.proofs.Pieces.{quote}
use Rattle.ynl_saved_text.specs.StateLines.{live_data}
use Rattle.ynl_saved_text.proofs.Parts.{behind}
use Rattle.ynl_saved_text.proofs.write_applications.add_live.Goals as goal

pub returns-clause-added : goal.returns-clause-added
unfolding escape_byte
returns-clause-added c =
    on_ok_weaker c.add_owned.result
    (λ e. quote c.args.text.now.items c.add_name.new.text.items (codes "{\"app\":\"") c.args.app.now _ _ c.in_ok-add_name.ensures.added
    (behind c.add_name.new.text.items c.add_labelled.new.text.items (codes "\",\"label\":\"") (escape (label_text c.args.label.now) ++ 34 ∷ []) (codes ",\"memory\":") (decimal c.amount-size.result.memory) _ _ c.in_ok-add_labelled.ensures.added
    (quote c.add_labelled.new.text.items c.add_path.new.text.items (codes ",\"queue\":\"") (path_text c.args.queue.now) _ _ c.in_ok-add_path.ensures.added e))
    ∙ ap (λ size. c.args.text.now.items ++ compact_text (live_data c.args.queue.now c.args.app.now c.args.user.now c.args.label.now size)) c.amount-size.ensures.value)
    c.add_owned.ensures.added
