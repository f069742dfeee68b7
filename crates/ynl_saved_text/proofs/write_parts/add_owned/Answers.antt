use Rattle.std.proofs.Common.{codes, decimal}
use Rattle.std.proofs.lemmas.Result.{on_ok_weaker}
use Rattle.ynl_fields.proofs.Pieces.{join, quote}
use Rattle.ynl_saved_text.proofs.write_parts.add_owned.Goals as goal

pub returns-clause-added : goal.returns-clause-added
returns-clause-added g c =
    on_ok_weaker c.add.result
    (λ e. quote c.args.text.now.items c.add_name.new.text.items c.args.front.now c.args.owner.now _ _ c.in_ok-add_name.ensures.added
    (join c.add_name.new.text.items c.add_number.new.text.items (codes "\",\"vcores\":") (decimal c.args.vcores) _ _ c.in_ok-add_number.ensures.added e))
    c.add.ensures.added
