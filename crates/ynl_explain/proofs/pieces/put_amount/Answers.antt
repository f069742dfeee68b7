use Rattle.std.proofs.Common.{◌≡◌, ℕ, List, ◌++◌, ◌∙◌, IfOk, codes, decimal, subst}
use Rattle.ynl_explain.specs.Pieces.{vcores_text}
use Rattle.ynl_explain.proofs.Texts.{after}
use Rattle.ynl_explain.proofs.pieces.put_amount.Goals as goal

pub returns : goal.returns
returns c =
    let amount = c.args.amount.now in
    let unit = codes " MB and " in
    let rest = vcores_text amount.vcores in
    subst (λ (t : List ℕ). IfOk c.put_vcores.result (λ longer. longer.items ≡ t)) (after _ _ unit rest c.in_ok-text-2.ensures ∙ after _ _ (decimal amount.memory) (unit ++ rest) c.in_ok-text.ensures) c.put_vcores.ensures
