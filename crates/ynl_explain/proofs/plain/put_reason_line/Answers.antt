use Rattle.std.proofs.Common.{◌≡◌, ℕ, List, ◌++◌, ◌∙◌, IfOk, codes, subst}
use Rattle.ynl_explain.specs.Sentences.{sentence}
use Rattle.ynl_explain.proofs.Texts.{after}
use Rattle.ynl_explain.proofs.plain.put_reason_line.Goals as goal

pub returns : goal.returns
returns c =
    let told = sentence c.args.request.now c.args.reason.now in
    let end = codes "\n" in
    subst (λ (t : List ℕ). IfOk c.put_word-2.result (λ longer. longer.items ≡ t)) (after _ _ told end c.in_ok-text-2.ensures ∙ after _ _ (codes "  ") (told ++ end) c.in_ok-text.ensures) c.put_word-2.ensures
