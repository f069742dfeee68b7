use Rattle.std.proofs.Common.{◌≡◌, ℕ, List, ◌++◌, ◌∙◌, IfOk, codes, subst}
use Rattle.ynl_explain.specs.Sentences.{guaranteed_text, over, user_text}
use Rattle.ynl_explain.proofs.Texts.{after}
use Rattle.ynl_explain.proofs.sentences.put_user_limit.Goals as goal

pub returns : goal.returns
returns c =
    let user = user_text c.args.user.now in
    let limit = over c.args.request.now c.args.used (codes " of the user limit ") c.args.limit in
    let rest = guaranteed_text c.args.guaranteed in
    subst (λ (t : List ℕ). IfOk c.put_guaranteed.result (λ longer. longer.items ≡ t)) (after _ _ limit rest c.in_ok-text-2.ensures ∙ after _ _ user (limit ++ rest) c.in_ok-text.ensures) c.put_guaranteed.ensures
