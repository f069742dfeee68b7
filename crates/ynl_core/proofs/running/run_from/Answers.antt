use Rattle.std.proofs.Common.{◌≡◌, ◌+◌, List, [], ◌∷◌, ◌++◌, take, arith, sym, subst, ap, ◌∙◌}
use Rattle.std.proofs.lemmas.List.{take_more, take_all}
use Rattle.ynl_model.specs.declared.events.Event.{Event}
use Rattle.ynl_core.specs.Runs.{AreSure, IsRunFrom}
use Rattle.ynl_core.proofs.RunMore.{run_more, sure_more}
use Rattle.ynl_core.proofs.running.run_from.Goals as goal

pub loop-event-preserved : goal.loop-event-preserved
loop-event-preserved c =
    let events : List Event = take c.loop-event.event-index c.args.events.now in
    let more : take (c.loop-event.event-index + 1) c.args.events.now ≡ events ++ c.event-item.result ∷ [] =
    take_more c.args.events.now c.loop-event.event-index c.event-item.result c.loop-event-test.true ∙ ap (λ e. events ++ e ∷ []) (sym c.event-item.is) in
    let made : IsRunFrom c.args.core (events ++ c.event-item.result ∷ []) (c.loop-event.answers.items ++ c.answer_one.result ∷ []) c.answer_one.new.core =
    run_more c.args.core events c.loop-event.answers.items c.loop-event.core c.answer_one.new.core c.event-item.result c.answer_one.result c.loop-event.invariant.so_far c.answer_one.ensures.answered in
    let sure : AreSure c.args.core (events ++ c.event-item.result ∷ []) (c.loop-event.answers.items ++ c.answer_one.result ∷ []) =
    sure_more c.args.core events c.loop-event.answers.items c.loop-event.core c.event-item.result c.answer_one.result c.loop-event.invariant.so_far c.loop-event.invariant.sure c.answer_one.ensures.sure in
    record {
      so_far =
          subst (λ es. IsRunFrom c.args.core es c.push_reserved.new.self.items c.answer_one.new.core) (sym more)
          (subst (λ rest. IsRunFrom c.args.core (events ++ c.event-item.result ∷ []) rest c.answer_one.new.core) (sym c.push_reserved.ensures.items) made);
      sure =
          subst (λ es. AreSure c.args.core es c.push_reserved.new.self.items) (sym more)
          (subst (AreSure c.args.core (events ++ c.event-item.result ∷ [])) (sym c.push_reserved.ensures.items) sure);
      capacity = omega arith;
    }

pub returns-clause-sure : goal.returns-clause-sure
returns-clause-sure c =
    subst (AreSure c.args.core c.args.events.now) (sym c.new.ensures)
    (subst (λ es. AreSure c.args.core es c.loop-event.answers.items) (take_all c.loop-event.event-index c.args.events.now (omega arith)) c.loop-event.invariant.sure)
