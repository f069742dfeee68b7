use Rattle.std.proofs.Common.{◌++◌, ap, ◌∙◌}
use Rattle.std.proofs.lemmas.Result.{on_ok_weaker}
use Rattle.serde_json.specs.Written.{compact_text}
use Rattle.ynl_lines.proofs.Added.{proposed_master_of, proposed_master_added}
use Rattle.ynl_lines.proofs.write_proposals.add_master.Goals as goal

pub returns-clause-added : goal.returns-clause-added
returns-clause-added c =
    let p = c.args.proposal.now in
    let old = c.args.text.now.items in
    on_ok_weaker c.add.result
    (λ e. proposed_master_added p.app p.node p.tenant c.amount-size.result p.stamp old _ _ _ _ _ _ _
    c.in_ok-add_name.ensures.added c.in_ok-add_number.ensures.added c.in_ok-add_name-2.ensures.added c.in_ok-add_number-2.ensures.added c.in_ok-add_name-3.ensures.added c.in_ok-add_number-3.ensures.added e
    ∙ ap (λ size. old ++ compact_text (proposed_master_of p.app p.node p.tenant size p.stamp)) c.amount-size.ensures.value)
    c.add.ensures.added
