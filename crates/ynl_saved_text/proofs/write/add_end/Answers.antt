use Rattle.std.proofs.Common.{codes, decimal}
use Rattle.std.proofs.lemmas.Result.{on_ok_weaker}
use Rattle.json.specs.Print.{escape_byte}
use Rattle.ynl_fields.proofs.Pieces.{join}
use Rattle.ynl_saved_text.proofs.write.add_end.Goals as goal

pub returns-clause-added : goal.returns-clause-added
unfolding escape_byte
returns-clause-added c =
    on_ok_weaker c.add.result
    (λ e. join c.args.text.now.items c.add_number.new.text.items (codes "{\"lines\":") (decimal c.args.lines) _ _ c.in_ok-add_number.ensures.added e)
    c.add.ensures.added
