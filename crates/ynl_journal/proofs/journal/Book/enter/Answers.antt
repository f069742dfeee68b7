use Rattle.std.proofs.Common.{false, List, [], ◌∷◌, ◌++◌, Some, refl, sym, ap, subst, ◌∙◌, Bool}
use Rattle.ynl_journal.specs.Journal.{IsHistoryFrom, Journal, entry}
use Rattle.ynl_journal.proofs.Longer.{history_push}
use Rattle.ynl_journal.proofs.Booked.{journal, config_grown, len_from, state_grown, counted_grown, reply_known, entry_grown}
use Rattle.ynl_journal.proofs.journal.Book.enter.Goals as goal

pub invariant_of-self-in-Ok : goal.invariant_of-self-in-Ok
invariant_of-self-in-Ok c =
    let was = c.self.inside in
    let planned = c.push_reserved.ensures.items ∙ ap (λ (ps : List Bool). ps ++ false ∷ []) c.keep.ensures.planned in
    record {
      config = config_grown was.start.value was.core c.answer.new.self c.args.event.now c.in-Ok.reply c.self.invariant.config c.in-Ok.ensures.ok;
      state = state_grown was.start.value.state was.core c.answer.new.self was.events c.args.event.now c.in-Ok.reply c.self.invariant.state c.in-Ok.ensures.ok c.keep.new.events c.in_ok-keep.ensures.events;
      counted = counted_grown was.events c.keep.new.events was.planned.items c.push_reserved.new.self.items c.args.event.now false c.self.invariant.counted c.in_ok-keep.ensures.events planned;
    }

pub returns-in-Ok-clause-place : goal.returns-in-Ok-clause-place
returns-in-Ok-clause-place c = rw (← c.self.view_is) (c.len-place.ensures.value ∙ sym (len_from c.self.inside.core.config c.self.inside.start.value.state c.self.inside.events c.self.inside.planned.items c.self.invariant.counted))

pub returns-in-Ok-clause-reply : goal.returns-in-Ok-clause-reply
returns-in-Ok-clause-reply c =
    let was = c.self.inside in
    rw (← c.self.view_is) (reply_known was.start.value.state was.core c.answer.new.self was.events c.args.event.now c.in-Ok.reply c.self.invariant.state c.in-Ok.ensures.ok was.planned.items c.self.invariant.counted)

pub returns-in-Ok-clause-entry : goal.returns-in-Ok-clause-entry
returns-in-Ok-clause-entry c =
    let was = c.self.inside in
    let planned = c.push_reserved.ensures.items ∙ ap (λ (ps : List Bool). ps ++ false ∷ []) c.keep.ensures.planned in
    entry_grown was.start.value.state was.core c.answer.new.self was.events c.args.event.now c.in-Ok.reply c.self.invariant.state c.in-Ok.ensures.ok c.keep.new.events was.planned.items c.push_reserved.new.self.items false
    (Some c.in-Ok.reply) c.self.invariant.counted c.in_ok-keep.ensures.events planned refl
    ∙ ap (λ (j : Journal). journal j.config j.begun (j.entries ++ entry c.args.event.now (Some c.in-Ok.reply) ∷ [])) c.self.view_is

pub returns-in-Ok-clause-closed : goal.returns-in-Ok-clause-closed
returns-in-Ok-clause-closed c closed =
    let P : Journal → Type 0 = λ j. IsHistoryFrom j.config j.begun j.entries in
    subst P (sym (returns-in-Ok-clause-entry c))
    (history_push c.args.self.now.config c.args.self.now.begun c.args.self.now.entries _ c.args.event.now c.in-Ok.reply refl (returns-in-Ok-clause-reply c) closed)
