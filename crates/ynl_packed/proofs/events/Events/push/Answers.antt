use Rattle.std.proofs.Common.{◌≡◌, ◌++◌, ◌∷◌, [], List, ℕ, sym, ap, subst, ◌∙◌}
use Rattle.std.proofs.lemmas.Result.{on_ok_weaker}
use Rattle.ynl_model.specs.declared.events.Event.{Event}
use Rattle.ynl_packed.specs.Spelling.{event_bytes}
use Rattle.ynl_packed.specs.Lists.{IsEvent, events_in}
use Rattle.ynl_packed.proofs.Listed.{pieces_pushed, is_event, events_in_push}
use Rattle.ynl_packed.proofs.events.Events.push.Goals as goal

pub invariant_of-self-2 : goal.invariant_of-self-2
invariant_of-self-2 c =
    let piece : c.deref.result.now ≡ event_bytes c.args.event.now = c.deref.ensures.value ∙ c.in_ok-put_event.ensures.put ∙ ap (λ (t : List ℕ). t ++ event_bytes c.args.event.now) c.clear.ensures.items in
    pieces_pushed IsEvent c.push.result c.self.inside.pieces c.push.new.self c.deref.result.now (subst IsEvent (sym piece) (is_event c.args.event.now c.in_ok-put_event.ensures.fits)) c.push.ensures.ok c.push.ensures.err c.self.invariant

pub returns-clause-ok : goal.returns-clause-ok
returns-clause-ok c =
    let piece : c.deref.result.now ≡ event_bytes c.args.event.now = c.deref.ensures.value ∙ c.in_ok-put_event.ensures.put ∙ ap (λ (t : List ℕ). t ++ event_bytes c.args.event.now) c.clear.ensures.items in
    on_ok_weaker c.push.result
    (λ e. ap events_in e ∙ ap (λ (p : List ℕ). events_in (c.self.inside.pieces ++ p ∷ [])) piece ∙ events_in_push c.self.inside.pieces c.args.event.now c.in_ok-put_event.ensures.fits
    ∙ ap (λ (es : List Event). es ++ c.args.event.now ∷ []) c.self.view_is)
    c.push.ensures.ok
