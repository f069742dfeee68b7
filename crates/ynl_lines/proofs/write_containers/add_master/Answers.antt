use Rattle.std.proofs.Common.{◌++◌, ap, ◌∙◌}
use Rattle.std.proofs.lemmas.Result.{on_ok_weaker}
use Rattle.serde_json.specs.Written.{compact_text}
use Rattle.ynl_resource.specs.Texts.{id_text}
use Rattle.ynl_lines.proofs.Added.{master_of, master_added}
use Rattle.ynl_lines.proofs.write_containers.add_master.Goals as goal

pub returns-clause-added : goal.returns-clause-added
returns-clause-added c =
    let p = c.args.placed.now in
    let id = id_text p.id in
    let old = c.args.text.now.items in
    on_ok_weaker c.add.result
    (λ e. master_added p.app id p.node p.tenant c.amount-size.result old _ _ _ _ _ _ _
    c.in_ok-add_name.ensures.added c.in_ok-add_id.ensures.added c.in_ok-add_number.ensures.added c.in_ok-add_name-2.ensures.added c.in_ok-add_name-3.ensures.added c.in_ok-add_number-2.ensures.added e
    ∙ ap (λ size. old ++ compact_text (master_of p.app id p.node p.tenant size)) c.amount-size.ensures.value)
    c.add.ensures.added
