use Rattle.std.proofs.Common.{◌≡◌, ℕ, List, ◌++◌, ◌∙◌, IfOk, codes, subst}
use Rattle.ynl_explain.specs.Sentences.{wanted_by, whole_name}
use Rattle.ynl_explain.proofs.Texts.{after}
use Rattle.ynl_explain.proofs.sentences.put_head.Goals as goal

pub returns : goal.returns
returns c =
    let name = whole_name c.args.tenant.now c.args.app.now in
    let asks = codes " asks for " in
    let wanted = wanted_by c.args.request.now.what c.args.request.now in
    let end = codes ":\n" in
    subst (λ (t : List ℕ). IfOk c.put_word-2.result (λ longer. longer.items ≡ t)) (after _ _ wanted end c.in_ok-text-3.ensures ∙ after _ _ asks (wanted ++ end) c.in_ok-text-2.ensures ∙ after _ _ name (asks ++ (wanted ++ end)) c.in_ok-text.ensures) c.put_word-2.ensures
