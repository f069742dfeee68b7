-- When entries are a closed history, and what one shows of a tenant that alone may use an exclusive partition.
use Rattle.std.specs.Prelude.{◌≡◌, ◌↔◌, ◌++◌, IsTrue, IsSome, All, List, map, Option, Some}
use Rattle.ynl_resource.specs.declared.names.Name.{Name}
use Rattle.ynl_resource.specs.declared.labels.Label.{Label}
use Rattle.ynl_model.specs.declared.entries.Entry.{Entry}
use Rattle.ynl_model.specs.declared.replies.Reply.{Reply}
use Rattle.ynl_model.specs.Queues.{Config}
use Rattle.ynl_model.specs.Accepted.{is_accepted}
use Rattle.ynl_model.specs.Cluster.{State}
use Rattle.ynl_model.specs.Events.{IsHistory, after, replies_to}
use Rattle.ynl_model.specs.View.{view, events_of, places_of, at_places, is_sole, restrict}
use Rattle.ynl_model.specs.Promises.{LooksTheSame, NeverAllocatesOver}
use Rattle.ynl_journal.specs.Journal.{Agrees, IsHistoryFrom, events_in}

-- the replies that are written down
abbrev pub written : List Entry → List (Option Reply)
written entries = map (λ e. e.reply) entries

-- What is written at the places of the tenant's view is, one by one, the replies of the cluster that holds the tenant alone and is given
-- only the view. After each entry the partition looks as it does there, and no allocation takes a queue above its maximum on it.
pub record ShowsAlone (c : Config) (entries : List Entry) (t : Name) (p : Label) : Type 0 where
  pub replies : at_places (written entries) (places_of (view c (events_in entries) t p)) ≡ map (λ r. Some (Some r)) (replies_to (restrict c t) (events_of (view c (events_in entries) t p)))
  pub looks_after_each : LooksTheSame c (events_in entries) t p
  pub maximum : NeverAllocatesOver c (events_in entries) p

-- a closed history of an accepted configuration shows each tenant that alone may use an exclusive partition as alone there
abbrev pub HistoriesShowAlone : Type 0
HistoriesShowAlone =
    (c : Config) (entries : List Entry) (t : Name) (p : Label) → IsHistory c entries → IsTrue (is_accepted c) → IsTrue (is_sole c t p) → ShowsAlone c entries t p

-- each entry has a reply
abbrev pub AreAnswered : List Entry → Type 0
AreAnswered entries = All (λ (e : Entry). IsSome e.reply) entries

-- entries that agree, and of which each has a reply, are a closed history
abbrev pub AgreeingAreHistories : Type 0
AgreeingAreHistories = (c : Config) (entries : List Entry) → Agrees c entries → AreAnswered entries → IsHistory c entries

-- A closed history, and one from the state that it leads to, are one history; and a history that is cut is two, at any place.
abbrev pub HistoriesGoOn : Type 0
HistoriesGoOn =
    (c : Config) (s : State) (first second : List Entry) → IsHistoryFrom c s (first ++ second) ↔ (IsHistoryFrom c s first × IsHistoryFrom c (after c s (events_in first)) second)
