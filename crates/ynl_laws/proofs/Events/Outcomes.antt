-- The outcome of an event: where something has to be found for it, and where it is not refused.
use Rattle.std.specs.Prelude.{◌≡◌, refl, Option, Some, None}
use Rattle.std.specs.Option.{option_map_or}
use Rattle.ynl_resource.specs.Refusals.{first_that_holds}
use Rattle.ynl_model.specs.Queues.{Config}
use Rattle.ynl_model.specs.Cluster.{State}
use Rattle.ynl_model.specs.Events.{Outcome, answered, where_there, accepted, reasons, step}
use Rattle.ynl_model.specs.declared.events.Event.{Event}
use Rattle.ynl_model.specs.declared.replies.Reply.TheVariants.{Refused}

-- where nothing is found the state stays
pub there : {X : Type 0} (P : State → Type 0) (found : Option X) (s : State) (f : X → Outcome) → P s → ((x : X) → found ≡ Some x → P (f x).state) → P (where_there found s f).state
there P None s f h step = h
there P (Some x) s f h step = step x refl

-- where the event is accepted no reason holds
pub step-cases : (P : State → Type 0) (c : Config) (s : State) (event : Event) → P s → (first_that_holds (reasons c s event) ≡ None → P (accepted c s event).state) → P (step c s event).state
unfolding step
step-cases P c s event same new = go (first_that_holds (reasons c s event)) new
  where
    go : (o : Option _) → (o ≡ None → P (accepted c s event).state) → P (option_map_or (λ refusal. answered s (Refused refusal)) o (accepted c s event)).state
    go None new = new refl
    go (Some refusal) new = same
