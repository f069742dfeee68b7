use Rattle.std.proofs.Common.{◌++◌, decimal, append_assoc, ap, sym, subst, ◌∙◌}
use Rattle.std.proofs.lemmas.Result.{on_err_weaker, on_ok_weaker}
use Rattle.ynl_resource.specs.Texts.{label_text}
use Rattle.ynl_fields.proofs.Pieces.{Lacks, join, lacks_behind, longer_by}
use Rattle.ynl_fields.proofs.Escapes.{escape_id}
use Rattle.ynl_fields.proofs.adding.add_id.Goals as goal

pub returns-clause-added : goal.returns-clause-added
returns-clause-added g c =
    let id = c.args.id.now in
    on_ok_weaker c.add_number.result
    (λ e. join c.args.text.now.items _ c.args.front.now _ _ _ c.in_ok-add_label.ensures.added e
    ∙ ap (λ t. c.args.text.now.items ++ (c.args.front.now ++ t)) (sym (escape_id (label_text id.label) (decimal id.clock) c.add_number.ensures.plain)))
    c.add_number.ensures.added

pub returns-clause-len : goal.returns-clause-len
returns-clause-len g c = on_ok_weaker c.add_number.result (longer_by c.args.text.now c.add_number.new.text _) (returns-clause-added g c)

pub returns-clause-full : goal.returns-clause-full
returns-clause-full g c =
    let id = c.args.id.now in
    let front = c.args.front.now in
    on_err_weaker c.add_number.result
    (λ e. subst (λ t. Lacks c.args.text.now t)
    (append_assoc front _ _ ∙ ap (λ t. front ++ t) (sym (escape_id (label_text id.label) (decimal id.clock) c.add_number.ensures.plain)))
    (lacks_behind c.args.text.now c.add_label.new.text _ _ c.add_label.ensures.capacity c.in_ok-add_label.ensures.added e))
    c.add_number.ensures.full
