use Rattle.std.proofs.Common.{◌++◌, ap₂, ◌∙◌}
use Rattle.std.proofs.lemmas.Result.{on_ok_weaker}
use Rattle.serde_json.specs.Written.{compact_text}
use Rattle.ynl_resource.specs.Texts.{id_text, label_text}
use Rattle.ynl_lines.proofs.Added.{asked_of, asked_added}
use Rattle.ynl_lines.proofs.write_containers.add_asked.Goals as goal

pub returns-clause-added : goal.returns-clause-added
returns-clause-added c =
    let p = c.args.placed.now in
    let id = id_text p.id in
    let label = label_text c.args.label.now in
    let old = c.args.text.now.items in
    on_ok_weaker c.add.result
    (λ e. asked_added p.app id label p.node p.tenant c.amount-size.result c.from.result old _ _ _ _ _ _ _ _ _
    c.in_ok-add_name.ensures.added c.in_ok-add_id.ensures.added c.in_ok-add_label.ensures.added c.in_ok-add_number.ensures.added c.in_ok-add_name-2.ensures.added c.in_ok-add_number-2.ensures.added c.in_ok-add_name-3.ensures.added c.in_ok-add_number-3.ensures.added e
    ∙ ap₂ (λ size priority. old ++ compact_text (asked_of p.app id label p.node p.tenant size priority)) c.amount-size.ensures.value c.from.ensures)
    c.add.ensures.added
