use Rattle.std.proofs.lemmas.Result.{on_ok_weaker}
use Rattle.ynl_resource.specs.Texts.{label_text}
use Rattle.ynl_fields.proofs.Pieces.{quote}
use Rattle.ynl_saved_text.proofs.write_parts.add_labelled.Goals as goal

pub returns-clause-added : goal.returns-clause-added
returns-clause-added g c =
    on_ok_weaker c.add_number.result
    (λ e. quote c.args.text.now.items c.add_label.new.text.items c.args.front.now (label_text c.args.label.now) _ _ c.in_ok-add_label.ensures.added e)
    c.add_number.ensures.added
