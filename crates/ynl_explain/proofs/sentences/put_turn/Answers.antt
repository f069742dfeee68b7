use Rattle.std.proofs.Common.{◌≡◌, ℕ, List, ◌++◌, ◌∙◌, IfOk, subst}
use Rattle.ynl_explain.specs.Sentences.{lead_by, turn_nodes, whole_name}
use Rattle.ynl_explain.proofs.Texts.{after}
use Rattle.ynl_explain.proofs.sentences.put_turn.Goals as goal

pub returns : goal.returns
returns c =
    let turn = c.args.turn.now in
    let nodes = turn_nodes turn in
    let name = whole_name turn.ahead.tenant turn.ahead.app in
    let lead = lead_by turn.ahead.what turn.ahead in
    subst (λ (t : List ℕ). IfOk c.put_lead.result (λ longer. longer.items ≡ t)) (after _ _ name lead c.in_ok-text-2.ensures ∙ after _ _ nodes (name ++ lead) c.in_ok-text.ensures) c.put_lead.ensures
