use Rattle.std.proofs.Common.{codes, decimal}
use Rattle.std.proofs.lemmas.Result.{on_ok_weaker}
use Rattle.json.specs.Print.{escape_byte}
use Rattle.ynl_resource.specs.Texts.{label_text}
use Rattle.ynl_fields.proofs.Pieces.{join, quote}
use Rattle.ynl_saved_text.proofs.write.add_partition.Goals as goal

pub returns-clause-added : goal.returns-clause-added
unfolding escape_byte
returns-clause-added c =
    on_ok_weaker c.add.result
    (λ e. join c.args.text.now.items c.add_number.new.text.items (codes "{\"clock\":") (decimal c.args.clock) _ _ c.in_ok-add_number.ensures.added
    (quote c.add_number.new.text.items c.add_label.new.text.items (codes ",\"label\":\"") (label_text c.args.label.now) _ _ c.in_ok-add_label.ensures.added e))
    c.add.ensures.added
