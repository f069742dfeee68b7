use Rattle.std.proofs.Common.{◌<◌, ℕ, [], length, sym, ap, subst, ◌∙◌}
use Rattle.std.proofs.lemmas.List.{length-map, get_or-map}
use Rattle.ynl_packed.specs.Fits.{FitsEvent}
use Rattle.ynl_packed.specs.Spelling.{event_bytes}
use Rattle.ynl_packed.specs.Lists.{event_in}
use Rattle.ynl_packed.proofs.Listed.{piece_is_event}
use Rattle.ynl_packed.proofs.events.Events.bytes.Goals as goal

pub returns-clause-bytes : goal.returns-clause-bytes
returns-clause-bytes c d =
    let pieces = c.self.inside.pieces in
    let inside : c.args.i < length pieces = subst (λ (n : ℕ). c.args.i < n) (ap length (sym c.self.view_is) ∙ length-map pieces event_in) c.requires in
    rw (← c.self.view_is)
    (c.get.ensures [] ∙ (piece_is_event pieces c.args.i inside c.self.invariant).spelled ∙ ap event_bytes (sym (get_or-map event_in pieces c.args.i [] d inside)))

pub returns-clause-fits : goal.returns-clause-fits
returns-clause-fits c d =
    let pieces = c.self.inside.pieces in
    let inside : c.args.i < length pieces = subst (λ (n : ℕ). c.args.i < n) (ap length (sym c.self.view_is) ∙ length-map pieces event_in) c.requires in
    rw (← c.self.view_is)
    (subst FitsEvent (sym (get_or-map event_in pieces c.args.i [] d inside)) (piece_is_event pieces c.args.i inside c.self.invariant).fits)
