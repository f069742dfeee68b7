-- An event that is refused leaves the state as it is.
use Rattle.std.proofs.Common.{◌≡◌, ap}
use Rattle.std.specs.Option.{option_map_or}
use Rattle.ynl_model.specs.Events.{Outcome, answered, accepted, step}
use Rattle.ynl_model.specs.declared.replies.Reply.TheVariants.{Refused}
use Rattle.ynl_laws.specs.Refused.{RefusalChangesNothing}

pub refusal_changes_nothing : RefusalChangesNothing
unfolding step
refusal_changes_nothing c s event refusal e =
    let same : step c s event ≡ answered s (Refused refusal) = ap (λ o. option_map_or (λ refusal. answered s (Refused refusal)) o (accepted c s event)) e in
    (ap (λ (outcome : Outcome). outcome.state) same, ap (λ (outcome : Outcome). outcome.reply) same)
