use Rattle.std.proofs.Common.{codes, decimal, ◌∷◌, [], ◌++◌, ap, ◌∙◌}
use Rattle.std.proofs.lemmas.Result.{on_ok_weaker}
use Rattle.json.specs.Print.{escape, escape_byte}
use Rattle.serde_json.specs.Written.{compact_text}
use Rattle.ynl_resource.specs.Texts.{label_text}
use Rattle.ynl_fields.proofs.Pieces.{join, quote}
use Rattle.ynl_saved_text.specs.StateLines.{node_data}
use Rattle.ynl_saved_text.proofs.Parts.{behind}
use Rattle.ynl_saved_text.proofs.write.add_node.Goals as goal

pub returns-clause-added : goal.returns-clause-added
unfolding escape_byte
returns-clause-added c =
    on_ok_weaker c.add.result
    (λ e. behind c.args.text.now.items c.add_labelled.new.text.items (codes "{\"label\":\"") (escape (label_text c.args.node.now.label) ++ 34 ∷ []) (codes ",\"memory\":") (decimal c.amount-size.result.memory) _ _ c.in_ok-add_labelled.ensures.added
    (quote c.add_labelled.new.text.items c.add_name.new.text.items (codes ",\"node\":\"") c.args.node.now.name _ _ c.in_ok-add_name.ensures.added
    (join c.add_name.new.text.items c.add_number.new.text.items (codes "\",\"stamp\":") (decimal c.args.node.now.stamp) _ _ c.in_ok-add_number.ensures.added
    (join c.add_number.new.text.items c.add_number-2.new.text.items (codes ",\"state\":\"node\",\"vcores\":") (decimal c.amount-size.result.vcores) _ _ c.in_ok-add_number-2.ensures.added e)))
    ∙ ap (λ size. c.args.text.now.items ++ compact_text (node_data (record c.args.node.now { size = size }))) c.amount-size.ensures.value)
    c.add.ensures.added
