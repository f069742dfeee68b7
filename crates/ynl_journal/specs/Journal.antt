-- A journal: the events of a cluster in their order, with the replies that were written down. A closed history of a cluster that was just
-- opened, where each entry has the cluster's reply, is `IsHistory` of the model.
use Rattle.std.specs.Prelude.{◌≡◌, ℕ, ◌-◌, ◌<◌, ◌≤◌, List, map, length, take, Option, Some, IfSome}
use Rattle.std.specs.List.{AllZip}
use Rattle.ynl_model.specs.declared.events.Event.{Event}
use Rattle.ynl_model.specs.declared.replies.Reply.{Reply}
use Rattle.ynl_model.specs.declared.entries.Entry.{Entry}
use Rattle.ynl_model.specs.Queues.{Config}
use Rattle.ynl_model.specs.Cluster.{State, opening}
use Rattle.ynl_model.specs.Events.{after, replies}
use Rattle.ynl_core.specs.World.{World}

-- an entry of an event and what is written down as its reply
abbrev pub entry : Event → Option Reply → Entry
entry event reply = record { event = event; reply = reply }

-- what a book is: its configuration, the state that its cluster began with, and its entries
pub record Journal : Type 0 where
  pub config : Config
  pub begun : State
  pub entries : List Entry

-- the events of the entries
abbrev pub events_in : List Entry → List Event
events_in entries = map (λ e. e.event) entries

-- the cluster after the events of the entries, from a state on
abbrev pub replayed_from : Config → State → List Entry → World
replayed_from c s entries = record { config = c; state = after c s (events_in entries) }

-- the same from the opening state
abbrev pub replayed : Config → List Entry → World
replayed c entries = replayed_from c (opening c) entries

-- where the entry has a reply, it is this one
abbrev pub FitsReply : Entry → Reply → Type 0
FitsReply e reply = IfSome e.reply (λ given. given ≡ reply)

-- each reply that is there is the cluster's, from a state on
abbrev pub AgreesFrom : Config → State → List Entry → Type 0
AgreesFrom c s entries = AllZip FitsReply entries (replies c s (events_in entries))

-- the same from the opening state
abbrev pub Agrees : Config → List Entry → Type 0
Agrees c entries = AgreesFrom c (opening c) entries

-- the entry n, counted from 1, is the first that has another reply than the cluster's, from a state on
pub record FirstDiffersFrom (c : Config) (s : State) (entries : List Entry) (n : ℕ) : Type 0 where
  pub counted : 0 < n
  pub inside : n ≤ length entries
  pub before : AgreesFrom c s (take (n - 1) entries)
  pub there : AgreesFrom c s (take n entries) → ⊥

-- each entry has the cluster's reply, from a state on
abbrev pub IsHistoryFrom : Config → State → List Entry → Type 0
IsHistoryFrom c s entries = map (λ entry. entry.reply) entries ≡ map Some (replies c s (events_in entries))
