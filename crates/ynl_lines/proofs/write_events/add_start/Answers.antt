use Rattle.std.proofs.Common.{codes}
use Rattle.std.proofs.lemmas.Result.{on_ok_weaker}
use Rattle.json.specs.Print.{escape_byte}
use Rattle.ynl_resource.specs.Texts.{path_text}
use Rattle.ynl_fields.proofs.Pieces.{quote}
use Rattle.ynl_lines.proofs.write_events.add_start.Goals as goal

pub returns-clause-added : goal.returns-clause-added
unfolding escape_byte
returns-clause-added c =
    on_ok_weaker c.add.result
    (λ e. quote c.args.text.now.items c.add_path.new.text.items (codes "{\"event\":\"start\",\"queue\":\"") (path_text c.args.queue.now) _ _ c.in_ok-add_path.ensures.added e)
    c.add.ensures.added
