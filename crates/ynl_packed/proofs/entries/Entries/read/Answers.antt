use Rattle.std.proofs.Common.{◌≡◌, ◌<◌, ℕ, [], length, get_or, sym, ap, subst, ◌∙◌}
use Rattle.std.proofs.lemmas.List.{length-map, get_or-map}
use Rattle.ynl_packed.specs.Lists.{entry_in, entry_at}
use Rattle.ynl_packed.proofs.Listed.{gives_none, gives_some, entry_in_read, piece_is_entry, entry_not_none}
use Rattle.ynl_packed.proofs.entries.Entries.read.Goals as goal

pub unreachable-requires : goal.unreachable-requires
unreachable-requires c =
    let pieces = c.self.inside.pieces in
    let inside : c.args.i < length pieces = subst (λ (n : ℕ). c.args.i < n) (ap length (sym c.self.view_is) ∙ length-map pieces entry_in) c.requires in
    let piece : c.new-c.result.rest.now ≡ get_or pieces c.args.i [] = c.new-c.ensures ∙ c.get.ensures [] in
    entry_not_none (get_or pieces c.args.i []) (piece_is_entry pieces c.args.i inside c.self.invariant)
    (ap entry_at (sym piece) ∙ gives_none _ c.in_ok-entry_at.field-0 (entry_at c.new-c.result.rest.now) c.in-None.is c.in_ok-entry_at.ensures)

pub returns : goal.returns
returns c d =
    let pieces = c.self.inside.pieces in
    let inside : c.args.i < length pieces = subst (λ (n : ℕ). c.args.i < n) (ap length (sym c.self.view_is) ∙ length-map pieces entry_in) c.requires in
    let piece : c.new-c.result.rest.now ≡ get_or pieces c.args.i [] = c.new-c.ensures ∙ c.get.ensures [] in
    let read = gives_some _ c.in_ok-entry_at.field-0 _ (entry_at c.new-c.result.rest.now) c.in-Some.is c.in_ok-entry_at.ensures in
    rw (← c.self.view_is)
    (sym (entry_in_read c.new-c.result.rest.now c.entry_at.new.into _ read) ∙ ap entry_in piece ∙ sym (get_or-map entry_in pieces c.args.i [] d inside))
