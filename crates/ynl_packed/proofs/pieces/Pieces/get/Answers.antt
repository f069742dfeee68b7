use Rattle.std.proofs.Common.{◌≡◌, ◌<◌, ℕ, List, length, get_or, sym, ap, subst, ◌∙◌, arith}
use Rattle.std.proofs.lemmas.List.{get_or_default}
use Rattle.ynl_packed.specs.Pieces.{start_of}
use Rattle.ynl_packed.proofs.Cut.{len_pieces, place_inside}
use Rattle.ynl_packed.proofs.pieces.Pieces.get.Goals as goal

pub slice_bounds-result-count : goal.slice_bounds-result-count
slice_bounds-result-count c =
    let ends = c.self.inside.ends.items in
    let inside : c.args.i < length ends =
    subst (λ (n : ℕ). c.args.i < n) (ap length (sym c.self.view_is) ∙ len_pieces c.self.inside.bytes.items 0 ends) c.requires in
    let place = place_inside (length c.self.inside.bytes.items) 0 ends c.args.i inside c.self.invariant in
    let start : c.start_of-start.result ≡ start_of 0 ends c.args.i = c.start_of-start.ensures ∙ ap (λ (e : List ℕ). start_of 0 e c.args.i) c.deref.ensures.value in
    let end : c.index.result.now ≡ get_or ends c.args.i 0 = c.index.ensures ∙ get_or_default ends c.args.i c.index.result.now 0 inside in
    omega (arith, place.order, start, end)
