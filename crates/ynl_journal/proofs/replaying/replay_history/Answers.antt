use Rattle.std.proofs.Common.{◌≡◌, ◌<◌, [], ◌∷◌, ◌++◌, Some, length, sym, ap, ◌∙◌, arith}
use Rattle.std.proofs.lemmas.List.{take_all}
use Rattle.ynl_model.specs.declared.events.Event.{Event}
use Rattle.ynl_journal.specs.Journal.{entry}
use Rattle.ynl_journal.proofs.Longer.{history_more}
use Rattle.ynl_journal.proofs.replaying.replay_history.Goals as goal

pub loop-i-preserved : goal.loop-i-preserved
loop-i-preserved c =
    let done = c.loop-i.history in
    let event = c.read.new.into in
    let was = c.loop-i.invariant in
    let inside : c.loop-i.i < length c.args.events.now = omega (arith, c.loop-i-test.true, c.len-i-end.ensures.value) in
    let is = c.read.ensures event in
    let more : c.push_kept.new.self ≡ done ++ entry event (Some c.in_ok-reply.reply) ∷ [] =
    c.in_ok-push_kept.ensures.ok event ∙ ap (λ (e : Event). done ++ entry e (Some c.in_ok-reply.reply) ∷ []) (sym is) in
    history_more c.args.core.now.config c.args.core.now.state c.args.events.now done c.push_kept.new.self c.loop-i.i event c.loop-i.core c.answer.new.self c.in_ok-reply.reply inside is was.0 was.1 was.2 c.in_ok-reply.ensures.ok more

pub returns-clause-events : goal.returns-clause-events
returns-clause-events c = c.loop-i.invariant.1 ∙ take_all c.loop-i.i c.args.events.now (omega (arith, c.loop-i-test.false, c.len-i-end.ensures.value))
