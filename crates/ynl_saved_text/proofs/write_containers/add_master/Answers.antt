use Rattle.std.proofs.Common.{codes, decimal, ◌++◌, ap, ◌∙◌}
use Rattle.std.proofs.lemmas.Result.{on_ok_weaker}
use Rattle.json.specs.Print.{escape_byte}
use Rattle.serde_json.specs.Written.{compact_text}
use Rattle.ynl_resource.specs.Texts.{id_text}
use Rattle.ynl_fields.proofs.Pieces.{join, quote}
use Rattle.ynl_saved_text.specs.StateLines.{master_data}
use Rattle.ynl_saved_text.proofs.write_containers.add_master.Goals as goal

pub returns-clause-added : goal.returns-clause-added
unfolding escape_byte
returns-clause-added c =
    on_ok_weaker c.add_owned.result
    (λ e. quote c.args.text.now.items c.add_name.new.text.items (codes "{\"app\":\"") c.args.placed.now.app _ _ c.in_ok-add_name.ensures.added
    (quote c.add_name.new.text.items c.add_id.new.text.items (codes "\",\"id\":\"") (id_text c.args.placed.now.id) _ _ c.in_ok-add_id.ensures.added
    (join c.add_id.new.text.items c.add_number.new.text.items (codes "\",\"memory\":") (decimal c.amount-size.result.memory) _ _ c.in_ok-add_number.ensures.added
    (quote c.add_number.new.text.items c.add_name-2.new.text.items (codes ",\"node\":\"") c.args.placed.now.node _ _ c.in_ok-add_name-2.ensures.added e)))
    ∙ ap (λ size. c.args.text.now.items ++ compact_text (master_data (record c.args.placed.now { size = size }))) c.amount-size.ensures.value)
    c.add_owned.ensures.added
