use Rattle.std.proofs.Common.{codes}
use Rattle.std.proofs.lemmas.Result.{on_ok_weaker}
use Rattle.json.specs.Print.{escape_byte}
use Rattle.ynl_fields.proofs.Pieces.{quote}
use Rattle.ynl_lines.proofs.write_events.add_propose.Goals as goal

pub returns-clause-added : goal.returns-clause-added
unfolding escape_byte
returns-clause-added c =
    on_ok_weaker c.add.result
    (λ e. quote c.args.text.now.items c.add_name.new.text.items (codes "{\"event\":\"propose\",\"node\":\"") c.args.node.now _ _ c.in_ok-add_name.ensures.added e)
    c.add.ensures.added
