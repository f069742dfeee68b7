use Rattle.std.proofs.Common.{◌≡◌, ◌+◌, ◌∷◌, ◌++◌, [], arith, sym, ap, ◌∙◌, take, codes}
use Rattle.std.proofs.lemmas.List.{take_more, take_all}
use Rattle.std.specs.List.{join_with_byte}
use Rattle.ynl_resource.specs.Texts.{path_text}
use Rattle.ynl_resource.proofs.PathTexts.{join_push}
use Rattle.ynl_explain.proofs.queues.text_of.Goals as goal

pub loop-name-preserved : goal.loop-name-preserved
loop-name-preserved c =
    let names = c.names-name-items.result.now in
    let i = c.loop-name.name-index in
    let x = c.name-item.result in
    let more : take (i + 1) names ≡ take i names ++ x ∷ [] = take_more names i x (omega arith) ∙ ap (λ y. take i names ++ y ∷ []) (sym c.name-item.is) in
    c.in_ok-push_name.ensures
    ∙ ap (λ l. l ++ (46 ∷ x)) c.loop-name.invariant
    ∙ sym (ap (λ l. join_with_byte 46 (codes "root" ∷ l)) more ∙ join_push 46 (codes "root") (take i names) x)

pub returns : goal.returns
unfolding path_text
returns c =
    let all = take_all c.loop-name.name-index c.names-name-items.result.now (omega (arith, c.loop-name-test.false)) ∙ c.names-name-items.ensures in
    c.loop-name.invariant ∙ ap (λ names. join_with_byte 46 (codes "root" ∷ names)) all
