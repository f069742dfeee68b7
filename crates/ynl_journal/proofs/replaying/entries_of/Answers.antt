use Rattle.std.proofs.Common.{◌≡◌, ◌+◌, ◌<◌, [], ◌∷◌, ◌++◌, false, List, length, take, get_or, refl, sym, ap, ◌∙◌, arith}
use Rattle.std.proofs.lemmas.List.{take_all, take_more, length-take-le}
use Rattle.ynl_model.specs.declared.events.Event.{Event}
use Rattle.ynl_model.specs.declared.entries.Entry.{Entry}
use Rattle.ynl_core.specs.World.{World}
use Rattle.ynl_journal.specs.Journal.{Journal, entry}
use Rattle.ynl_journal.specs.BookFields.{written, entries_from}
use Rattle.ynl_journal.proofs.Booked.{state_grown, entry_grown}
use Rattle.ynl_journal.proofs.replaying.entries_of.Goals as goal

pub loop-i-preserved : goal.loop-i-preserved
loop-i-preserved c =
    let i = c.loop-i.i in
    let all = c.args.events.now in
    let ps = c.args.planned.now in
    let event = c.read.new.into in
    let p = get_or ps i false in
    let r = c.in_ok-reply.reply in
    let was = c.loop-i.invariant in
    let s = c.args.core.now.state in
    let inside : i < length ps = c.loop-i-test.true in
    let longer : take (i + 1) all ≡ take i all ++ event ∷ [] = take_more all i event (omega (arith, inside, c.requires)) ∙ ap (λ (x : Event). take i all ++ x ∷ []) (sym (c.read.ensures event)) in
    let more : take (i + 1) ps ≡ take i ps ++ p ∷ [] = take_more ps i false inside in
    let counted : length (take i ps) ≡ length (take i all) =
    length-take-le i ps (omega (arith, inside)) ∙ sym (length-take-le i all (omega (arith, inside, c.requires))) in
    let step_is = c.in_ok-reply.ensures.ok in
    let grown = entry_grown s c.loop-i.core c.answer.new.self (take i all) event r was.1 step_is (take (i + 1) all) (take i ps) (take (i + 1) ps) p (written p r) counted longer more refl in
    let pushed : c.push.new.self.items ≡ entries_from c.loop-i.core.config s (take i all) (take i ps) ++ entry event (written p r) ∷ [] =
    c.in_ok-push.ensures.items ∙ ap (λ (x : Entry). c.loop-i.entries.items ++ x ∷ []) (c.entry_with.ensures ∙ ap (entry event) c.written.ensures)
    ∙ ap (λ (es : List Entry). es ++ entry event (written p r) ∷ []) was.2 in (
      ap (λ (w : World). w.config) step_is.left ∙ was.0,
      state_grown s c.loop-i.core c.answer.new.self (take i all) event r was.1 step_is (take (i + 1) all) longer,
      pushed ∙ sym (ap (λ (j : Journal). j.entries) grown),
    )

pub returns : goal.returns
returns c =
    let i = c.loop-i.i in
    let was = c.loop-i.invariant in
    let events = take_all i c.args.events.now (omega (arith, c.loop-i-test.false, c.requires)) in
    let planned = take_all i c.args.planned.now c.loop-i-test.false in
    was.2 ∙ (λ k. entries_from (was.0 k) c.args.core.now.state (events k) (planned k))
