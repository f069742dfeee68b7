use Rattle.std.proofs.Common.{◌≡◌, ◌+◌, ◌∷◌, ◌++◌, [], rules, arith, sym, ap, ◌∙◌, take, codes}
use Rattle.std.proofs.Output.{has_written_of_eq, has_written_append}
use Rattle.std.proofs.lemmas.List.{take_more, take_all}
use Rattle.std.specs.List.{join_with_byte}
use Rattle.ynl_resource.specs.Texts.{path_text}
use Rattle.ynl_resource.proofs.PathTexts.{join_push}
use Rattle.ynl_resource.proofs.paths.PathDisplay.fmt.Goals as goal

pub loop-name-preserved : goal.loop-name-preserved
loop-name-preserved g c = λ p.
    let names = c.names-name-items.result.now in
    let i = c.loop-name.name-index in
    let x = c.name-item.result in
    let more : take (i + 1) names ≡ take i names ++ x ∷ [] = take_more names i x (omega arith) ∙ ap (λ y. take i names ++ y ∷ []) (sym c.name-item.is) in
    let text : join_with_byte 46 (codes "root" ∷ take (i + 1) names) ≡ join_with_byte 46 (codes "root" ∷ take i names) ++ (46 ∷ x) =
    ap (λ l. join_with_byte 46 (codes "root" ∷ l)) more ∙ join_push 46 (codes "root") (take i names) x in
    has_written_of_eq _ _ _ _ _ (sym text) (has_written_append _ _ _ _ _ _ (c.loop-name.invariant p) (search rules))

pub returns-clause-writes : goal.returns-clause-writes
unfolding path_text
returns-clause-writes g c = λ p ok.
    let names = c.names-name-items.result.now in
    let all : take c.loop-name.name-index names ≡ c.args.self.now = take_all c.loop-name.name-index names (omega (arith, c.loop-name-test.false)) ∙ c.names-name-items.ensures.names in
    has_written_of_eq _ _ _ _ _ (ap (λ l. join_with_byte 46 (codes "root" ∷ l)) all) (c.loop-name.invariant p)
