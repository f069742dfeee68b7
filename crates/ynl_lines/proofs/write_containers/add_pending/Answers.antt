use Rattle.std.proofs.Common.{◌++◌, ap, ap₂, ◌∙◌}
use Rattle.std.proofs.lemmas.Result.{on_ok_weaker}
use Rattle.serde_json.specs.Written.{compact_text}
use Rattle.ynl_lines.proofs.Added.{pending_of, pending_added}
use Rattle.ynl_lines.proofs.write_containers.add_pending.Goals as goal

pub returns-clause-added : goal.returns-clause-added
returns-clause-added c =
    let p = c.args.pending.now in
    let old = c.args.text.now.items in
    on_ok_weaker c.add.result
    (λ e. pending_added c.amount-size.result c.from.result c.from-2.result old _ _ _ _ _ c.in_ok-add_number.ensures.added c.in_ok-add_number-2.ensures.added c.in_ok-add_number-3.ensures.added c.in_ok-add_number-4.ensures.added e
    ∙ ap (λ size. old ++ compact_text (pending_of size c.from.result c.from-2.result)) c.amount-size.ensures.value
    ∙ ap₂ (λ quantity priority. old ++ compact_text (pending_of p.size quantity priority)) c.from.ensures c.from-2.ensures)
    c.add.ensures.added
