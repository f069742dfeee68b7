use Rattle.std.proofs.Common.{◌≡◌, ◌+◌, ◌++◌, ◌∷◌, ℕ, List, [], take, sym, ap, ◌∙◌, arith}
use Rattle.std.proofs.lemmas.List.{append_assoc, take_more}
use Rattle.ynl_packed.proofs.pieces.Pieces.append.Goals as goal

pub loop-i-preserved : goal.loop-i-preserved
loop-i-preserved c =
    let others = c.args.others.now in
    let i = c.loop-i.i in
    let piece = c.get.result.now in
    let push : List (List ℕ) → List (List ℕ) = λ pieces. pieces ++ piece ∷ [] in
    let more : take (i + 1) others ≡ take i others ++ piece ∷ [] =
    take_more others i piece (omega (arith, c.loop-i-test.true, c.len-i-end.ensures.value)) ∙ ap (λ (p : List ℕ). take i others ++ p ∷ []) (sym (c.get.ensures piece)) in
    c.in_default.ensures.ok ∙ ap push c.loop-i.invariant ∙ append_assoc c.args.self.now (take i others) (piece ∷ []) ∙ ap (λ pieces. c.args.self.now ++ pieces) (sym more)
