use Rattle.std.proofs.Common.{◌≡◌, ℕ, List, IfOk, codes, subst}
use Rattle.ynl_explain.specs.Sentences.{over}
use Rattle.ynl_explain.proofs.Texts.{after}
use Rattle.ynl_explain.proofs.sentences.put_master_share.Goals as goal

pub returns : goal.returns
returns c =
    let rest = over c.args.request.now c.args.used (codes " of their limit ") c.args.limit in
    subst (λ (t : List ℕ). IfOk c.put_over.result (λ longer. longer.items ≡ t)) (after _ _ (codes "masters of the leaf use ") rest c.in_ok-text.ensures) c.put_over.ensures
