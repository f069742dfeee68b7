-- What a tenant gets of a run in which memory was never refused.
use Rattle.std.specs.Prelude.{◌≡◌, IsTrue, List, map, Some}
use Rattle.std.specs.List.{list_all}
use Rattle.ynl_resource.specs.declared.names.Name.{Name}
use Rattle.ynl_resource.specs.declared.labels.Label.{Label}
use Rattle.ynl_model.specs.declared.events.Event.{Event}
use Rattle.ynl_model.specs.Queues.{Config}
use Rattle.ynl_model.specs.Accepted.{is_accepted}
use Rattle.ynl_model.specs.Events.{replies_to, state_after}
use Rattle.ynl_model.specs.View.{view, events_of, places_of, at_places, is_sole, restrict, seen}
use Rattle.ynl_model.specs.Promises.{LooksTheSame, NeverAllocatesOver}
use Rattle.ynl_core.specs.declared.runs.Answer.{Answer}
use Rattle.ynl_core.specs.declared.runs.Answer.TheVariants.{Replied}
use Rattle.ynl_core.specs.Runs.{has_reply}
use Rattle.ynl_core.specs.World.{World}

-- The answers at the places of the tenant's view are, one by one, the replies of the cluster that holds the tenant alone and is given
-- only the view. In the end, and after each event, the partition looks as it does there. No allocation takes a queue above its
-- maximum on the partition.
pub record IsAsAlone (c : Config) (events : List Event) (answers : List Answer) (core : World) (t : Name) (p : Label) : Type 0 where
  pub replies : at_places answers (places_of (view c events t p)) ≡ map (λ r. Some (Replied r)) (replies_to (restrict c t) (events_of (view c events t p)))
  pub looks : seen core.state p ≡ seen (state_after (restrict c t) (events_of (view c events t p))) p
  pub looks_after_each : LooksTheSame c events t p
  pub maximum : NeverAllocatesOver c events p

-- where no event was refused memory, each tenant that alone may use an exclusive partition is as alone there
abbrev pub AreIsolated : Config → List Event → List Answer → World → Type 0
AreIsolated c events answers core =
    IsTrue (list_all has_reply answers) → (t : Name) (p : Label) → IsTrue (is_accepted c) → IsTrue (is_sole c t p) → IsAsAlone c events answers core t p
