use Rattle.std.proofs.Common.{◌≡◌, ℕ, List, IfOk, codes, subst}
use Rattle.ynl_explain.specs.Sentences.{over, queue_text}
use Rattle.ynl_explain.proofs.Texts.{after}
use Rattle.ynl_explain.proofs.sentences.put_maximum.Goals as goal

pub returns : goal.returns
returns c =
    let used = queue_text c.args.queue.now in
    let rest = over c.args.request.now c.args.used (codes " of its maximum ") c.args.maximum in
    subst (λ (t : List ℕ). IfOk c.put_over.result (λ longer. longer.items ≡ t)) (after _ _ used rest c.in_ok-text.ensures) c.put_over.ensures
