use Rattle.std.proofs.Common.{◌++◌, ap₂, ◌∙◌}
use Rattle.std.proofs.lemmas.Result.{on_ok_weaker}
use Rattle.serde_json.specs.Written.{compact_text}
use Rattle.ynl_resource.specs.Texts.{label_text}
use Rattle.ynl_lines.proofs.Added.{proposed_asked_of, proposed_asked_added}
use Rattle.ynl_lines.proofs.write_proposals.add_asked.Goals as goal

pub returns-clause-added : goal.returns-clause-added
returns-clause-added c =
    let p = c.args.proposal.now in
    let label = label_text c.args.label.now in
    let old = c.args.text.now.items in
    on_ok_weaker c.add.result
    (λ e. proposed_asked_added p.app label p.node p.tenant c.amount-size.result c.from.result p.stamp old _ _ _ _ _ _ _ _ _
    c.in_ok-add_name.ensures.added c.in_ok-add_label.ensures.added c.in_ok-add_number.ensures.added c.in_ok-add_name-2.ensures.added c.in_ok-add_number-2.ensures.added c.in_ok-add_number-3.ensures.added c.in_ok-add_name-3.ensures.added c.in_ok-add_number-4.ensures.added e
    ∙ ap₂ (λ size priority. old ++ compact_text (proposed_asked_of p.app label p.node p.tenant size priority p.stamp)) c.amount-size.ensures.value c.from.ensures)
    c.add.ensures.added
