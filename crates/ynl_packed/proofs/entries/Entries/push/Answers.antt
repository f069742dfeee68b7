use Rattle.std.proofs.Common.{◌≡◌, ◌++◌, ◌∷◌, [], List, ℕ, sym, ap, subst, ◌∙◌}
use Rattle.std.proofs.lemmas.Result.{on_ok_weaker}
use Rattle.ynl_model.specs.declared.entries.Entry.{Entry}
use Rattle.ynl_packed.specs.Spelling.{event_bytes, reply_bytes}
use Rattle.ynl_packed.specs.Lists.{IsEntry, answered, entries_in}
use Rattle.ynl_packed.proofs.Listed.{pieces_pushed, is_entry, entries_in_push}
use Rattle.ynl_packed.proofs.entries.Entries.push.Goals as goal

pub invariant_of-self-2 : goal.invariant_of-self-2
invariant_of-self-2 c =
    let event = c.args.event.now in
    let reply = c.args.reply.now in
    let piece : c.deref.result.now ≡ event_bytes event ++ reply_bytes reply =
    c.deref.ensures.value ∙ c.in_ok-put_reply.ensures.put ∙ ap (λ (t : List ℕ). t ++ reply_bytes reply) (c.in_ok-put_event.ensures.put ∙ ap (λ (t : List ℕ). t ++ event_bytes event) c.clear.ensures.items) in
    pieces_pushed IsEntry c.push.result c.self.inside.pieces c.push.new.self c.deref.result.now
    (subst IsEntry (sym piece) (is_entry event reply c.in_ok-put_event.ensures.fits c.in_ok-put_reply.ensures.fits)) c.push.ensures.ok c.push.ensures.err c.self.invariant

pub returns-clause-ok : goal.returns-clause-ok
returns-clause-ok c =
    let event = c.args.event.now in
    let reply = c.args.reply.now in
    let piece : c.deref.result.now ≡ event_bytes event ++ reply_bytes reply =
    c.deref.ensures.value ∙ c.in_ok-put_reply.ensures.put ∙ ap (λ (t : List ℕ). t ++ reply_bytes reply) (c.in_ok-put_event.ensures.put ∙ ap (λ (t : List ℕ). t ++ event_bytes event) c.clear.ensures.items) in
    on_ok_weaker c.push.result
    (λ e. ap entries_in e ∙ ap (λ (p : List ℕ). entries_in (c.self.inside.pieces ++ p ∷ [])) piece ∙ entries_in_push c.self.inside.pieces event reply c.in_ok-put_event.ensures.fits c.in_ok-put_reply.ensures.fits
    ∙ ap (λ (es : List Entry). es ++ answered event reply ∷ []) c.self.view_is)
    c.push.ensures.ok
