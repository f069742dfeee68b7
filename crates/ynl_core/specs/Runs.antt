-- A run: each event is one step, or memory was refused and nothing changed.
use Rattle.std.specs.Prelude.{◌≡◌, Bool, true, false, IsTrue, List, [], ◌∷◌, length}
use Rattle.ynl_model.specs.declared.events.Event.{Event}
use Rattle.ynl_model.specs.declared.replies.Reply.{Reply}
use Rattle.ynl_core.specs.declared.runs.Answer.{Answer}
use Rattle.ynl_core.specs.declared.runs.Answer.TheVariants.{Replied, NoMemory}
use Rattle.ynl_model.specs.Queues.{Config}
use Rattle.ynl_model.specs.Events.{after, replies}
use Rattle.ynl_core.specs.Sure.{takes_no_memory}
use Rattle.ynl_core.specs.World.{World, Answers, opened, stepped}

-- an event was answered as the model does, or for want of memory nothing changed
abbrev pub Answered : World → Event → World → Answer → Type 0
Answered old e new (Replied r) = Answers old e new r
Answered old e new NoMemory = new ≡ old

-- whether an event was answered by a reply
abbrev pub has_reply : Answer → Bool
has_reply (Replied r) = true
has_reply NoMemory = false

-- the events that were answered by a reply
abbrev pub kept : List Event → List Answer → List Event
kept [] rest = []
kept (e ∷ es) [] = []
kept (e ∷ es) (Replied r ∷ rest) = e ∷ kept es rest
kept (e ∷ es) (NoMemory ∷ rest) = kept es rest

-- their replies
abbrev pub replied : List Answer → List Reply
replied [] = []
replied (Replied r ∷ rest) = r ∷ replied rest
replied (NoMemory ∷ rest) = replied rest

-- one answer for each event; the replies and the cluster are those of the model, from a cluster on, over the events that memory was not refused for
pub record IsRunFrom (w : World) (events : List Event) (answers : List Answer) (core : World) : Type 0 where
  pub each : length answers ≡ length events
  pub told : replied answers ≡ replies w.config w.state (kept events answers)
  pub left : core ≡ record { config = w.config; state = after w.config w.state (kept events answers) }

-- the same of a cluster that was just opened
abbrev pub IsRun : Config → List Event → List Answer → World → Type 0
IsRun c events answers core = IsRunFrom (opened c) events answers core

-- the cluster after an event that was answered so
abbrev pub left_by : World → Event → Answer → World
left_by w e (Replied r) = stepped w e
left_by w e NoMemory = w

-- each event that takes no memory, in the cluster that those before it left, was answered by a reply
abbrev pub AreSure : World → List Event → List Answer → Type 0
AreSure w [] rest = Unit {0}
AreSure w (e ∷ es) [] = Unit {0}
AreSure w (e ∷ es) (a ∷ rest) = (IsTrue (takes_no_memory w e) → IsTrue (has_reply a)) × AreSure (left_by w e a) es rest
