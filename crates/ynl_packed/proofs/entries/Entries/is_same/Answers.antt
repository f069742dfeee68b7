use Rattle.std.proofs.Common.{◌≡◌, ◌<◌, ℕ, List, [], true, length, get_or, sym, ap, subst, ◌∙◌}
use Rattle.std.proofs.lemmas.List.{length-map, get_or-map}
use Rattle.ynl_packed.specs.Lists.{entry_in, IsEntry}
use Rattle.ynl_packed.proofs.Listed.{piece_is_entry, same_entry}
use Rattle.std.proofs.lemmas.Slice.Eq.{bytes_eq-Decides}
use Rattle.ynl_packed.proofs.entries.Entries.is_same.Goals as goal

pub returns : goal.returns
returns c d =
    let mine = c.self.inside.pieces in
    let others = c.other.inside.pieces in
    let here : c.args.i < length mine = subst (λ (n : ℕ). c.args.i < n) (ap length (sym c.self.view_is) ∙ length-map mine entry_in) c.requires.here in
    let there : c.args.at < length others = subst (λ (n : ℕ). c.args.at < n) (ap length (sym c.other.view_is) ∙ length-map others entry_in) c.requires.there in
    let a : c.get.result.now ≡ get_or mine c.args.i [] = c.get.ensures [] in
    let b : c.get-2.result.now ≡ get_or others c.args.at [] = c.get-2.ensures [] in
    let entry_a : get_or c.args.self.now c.args.i d ≡ entry_in c.get.result.now = ap (λ es. get_or es c.args.i d) (sym c.self.view_is) ∙ get_or-map entry_in mine c.args.i [] d here ∙ ap entry_in (sym a) in
    let entry_b : get_or c.args.other.now c.args.at d ≡ entry_in c.get-2.result.now = ap (λ es. get_or es c.args.at d) (sym c.other.view_is) ∙ get_or-map entry_in others c.args.at [] d there ∙ ap entry_in (sym b) in
    let is_a = subst IsEntry (sym a) (piece_is_entry mine c.args.i here c.self.invariant) in
    let is_b = subst IsEntry (sym b) (piece_is_entry others c.args.at there c.other.invariant) in (
      λ yes. entry_a ∙ ap entry_in ((bytes_eq-Decides c.get.result.now c.get-2.result.now).0 (sym c.eq.ensures ∙ yes)) ∙ sym entry_b,
      λ same. c.eq.ensures ∙ (bytes_eq-Decides c.get.result.now c.get-2.result.now).1 (same_entry c.get.result.now c.get-2.result.now is_a is_b (sym entry_a ∙ same ∙ entry_b)),
    )
