use Rattle.std.proofs.Common.{◌≡◌, ◌≤◌, ℕ, List, length, take, sym, ap, subst, ◌∙◌, arith}
use Rattle.std.proofs.lemmas.List.{length-take-le}
use Rattle.ynl_packed.specs.Pieces.{AreEnds, start_of}
use Rattle.ynl_packed.proofs.Cut.{len_pieces, start_inside, ends_take}
use Rattle.ynl_packed.proofs.pieces.Pieces.truncate.Goals as goal

pub invariant_of-self : goal.invariant_of-self
invariant_of-self c =
    let bytes = c.self.inside.bytes.items in
    let ends = c.self.inside.ends.items in
    let le : c.args.len ≤ length ends = subst (λ (n : ℕ). c.args.len ≤ n) (ap length (sym c.self.view_is) ∙ len_pieces bytes 0 ends) c.requires in
    let start = start_of 0 ends c.args.len in
    let at : c.start_of-start.result ≡ start = c.start_of-start.ensures ∙ ap (λ (e : List ℕ). start_of 0 e c.args.len) c.deref.ensures.value in
    let kept : length (take start bytes) ≡ start = length-take-le start bytes (start_inside (length bytes) 0 ends c.args.len le c.self.invariant) in
    rw (c.truncate.ensures.items, c.truncate-2.ensures.items, at, kept) (ends_take (length bytes) 0 ends c.args.len le c.self.invariant)
