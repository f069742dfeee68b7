use Rattle.std.proofs.Common.{◌≡◌, ◌++◌, ◌∷◌, [], List, ℕ, get_or, sym, ap, subst, ◌∙◌}
use Rattle.std.proofs.lemmas.Result.{on_ok_weaker}
use Rattle.ynl_model.specs.declared.entries.Entry.{Entry}
use Rattle.ynl_model.specs.declared.events.Event.{Event}
use Rattle.ynl_model.specs.declared.events.Event.TheVariants.{Heartbeat}
use Rattle.ynl_packed.specs.Spelling.{event_bytes, reply_bytes}
use Rattle.ynl_packed.specs.Lists.{IsEntry, answered, entries_in}
use Rattle.ynl_packed.proofs.Listed.{pieces_pushed, is_entry, entries_in_push}
use Rattle.ynl_packed.proofs.entries.Entries.push_kept.Goals as goal

pub invariant_of-self-2 : goal.invariant_of-self-2
invariant_of-self-2 c =
    let event : Event = get_or c.args.events.now c.args.i (Heartbeat []) in
    let reply = c.args.reply.now in
    let piece : c.deref.result.now ≡ event_bytes event ++ reply_bytes reply =
    c.deref.ensures.value ∙ c.in_ok-put_reply.ensures.put
    ∙ ap (λ (t : List ℕ). t ++ reply_bytes reply) (c.in_ok-extend_from_slice.ensures.items ∙ ap (λ (t : List ℕ). t ++ c.bytes.result.now) c.clear.ensures.items ∙ c.bytes.ensures.bytes (Heartbeat [])) in
    pieces_pushed IsEntry c.push.result c.self.inside.pieces c.push.new.self c.deref.result.now
    (subst IsEntry (sym piece) (is_entry event reply (c.bytes.ensures.fits (Heartbeat [])) c.in_ok-put_reply.ensures.fits)) c.push.ensures.ok c.push.ensures.err c.self.invariant

pub returns-clause-ok : goal.returns-clause-ok
returns-clause-ok c d =
    let event : Event = get_or c.args.events.now c.args.i d in
    let reply = c.args.reply.now in
    let piece : c.deref.result.now ≡ event_bytes event ++ reply_bytes reply =
    c.deref.ensures.value ∙ c.in_ok-put_reply.ensures.put
    ∙ ap (λ (t : List ℕ). t ++ reply_bytes reply) (c.in_ok-extend_from_slice.ensures.items ∙ ap (λ (t : List ℕ). t ++ c.bytes.result.now) c.clear.ensures.items ∙ c.bytes.ensures.bytes d) in
    on_ok_weaker c.push.result
    (λ e. ap entries_in e ∙ ap (λ (p : List ℕ). entries_in (c.self.inside.pieces ++ p ∷ [])) piece ∙ entries_in_push c.self.inside.pieces event reply (c.bytes.ensures.fits d) c.in_ok-put_reply.ensures.fits
    ∙ ap (λ (es : List Entry). es ++ answered event reply ∷ []) c.self.view_is)
    c.push.ensures.ok
