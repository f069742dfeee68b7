-- What is refused changes nothing.
use Rattle.std.specs.Prelude.{◌≡◌, Some}
use Rattle.ynl_resource.specs.Refusals.{first_that_holds}
use Rattle.ynl_resource.specs.declared.refusals.Refusal.{Refusal}
use Rattle.ynl_model.specs.Queues.{Config}
use Rattle.ynl_model.specs.Cluster.{State}
use Rattle.ynl_model.specs.Events.{reasons, step}
use Rattle.ynl_model.specs.declared.events.Event.{Event}
use Rattle.ynl_model.specs.declared.replies.Reply.TheVariants.{Refused}

-- where a reason holds the first of them is the reply, and the state stays
abbrev pub RefusalChangesNothing : Type 0
RefusalChangesNothing =
    (c : Config) (s : State) (event : Event) (refusal : Refusal) → first_that_holds (reasons c s event) ≡ Some refusal
    → ((step c s event).state ≡ s) × ((step c s event).reply ≡ Refused refusal)
