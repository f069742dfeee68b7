use Rattle.std.proofs.Common.{◌≡◌, ◌≤◌, ◌++◌, ◌∷◌, [], ℕ, List, length, ap, sym, subst, ◌∙◌, arith}
use Rattle.std.proofs.lemmas.List.{length-append}
use Rattle.ynl_packed.specs.Pieces.{pieces_from, AreEnds}
use Rattle.ynl_packed.proofs.Cut.{pieces_push, ends_push}
use Rattle.ynl_packed.proofs.pieces.Pieces.push.Goals as goal

pub invariant_of-self-2 : goal.invariant_of-self-2
invariant_of-self-2 c =
    let all = c.self.inside.bytes.items ++ c.args.piece.now in
    let len : length all ≡ c.len.result = omega (arith, length-append c.self.inside.bytes.items c.args.piece.now, c.in_ok-extend_from_slice.ensures.len, c.len.ensures) in
    let longer : length c.self.inside.bytes.items ≤ c.len.result = omega (arith, length-append c.self.inside.bytes.items c.args.piece.now, len) in
    rw (c.push_reserved.ensures.items, c.in_ok-reserve.ensures.items, c.in_ok-extend_from_slice.ensures.items)
    (subst (λ (n : ℕ). AreEnds n 0 (c.self.inside.ends.items ++ c.len.result ∷ [])) (sym len)
    (ends_push _ c.len.result 0 c.self.inside.ends.items c.self.invariant longer))

pub returns-clause-ok : goal.returns-clause-ok
returns-clause-ok c =
    let all = c.self.inside.bytes.items ++ c.args.piece.now in
    let len : length all ≡ c.len.result = omega (arith, length-append c.self.inside.bytes.items c.args.piece.now, c.in_ok-extend_from_slice.ensures.len, c.len.ensures) in
    let pushed : pieces_from all 0 (c.self.inside.ends.items ++ c.len.result ∷ []) ≡ c.args.self.now ++ c.args.piece.now ∷ [] =
    ap (λ (n : ℕ). pieces_from all 0 (c.self.inside.ends.items ++ n ∷ [])) (sym len)
    ∙ pieces_push c.self.inside.bytes.items c.args.piece.now 0 c.self.inside.ends.items c.self.invariant
    ∙ ap (λ (them : List (List ℕ)). them ++ c.args.piece.now ∷ []) c.self.view_is in
    rw (c.push_reserved.ensures.items, c.in_ok-reserve.ensures.items, c.in_ok-extend_from_slice.ensures.items) pushed
