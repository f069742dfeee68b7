-- What a book's fields mean.
use Rattle.std.specs.Prelude.{◌≡◌, Bool, true, false, not, ◌&&◌, if◌then◌else◌, List, [], ◌∷◌, Option, Some, None, length}
use Rattle.ynl_model.specs.declared.events.Event.{Event}
use Rattle.ynl_model.specs.declared.replies.Reply.{Reply}
use Rattle.ynl_model.specs.declared.replies.Reply.TheVariants.{Refused}
use Rattle.ynl_model.specs.declared.entries.Entry.{Entry}
use Rattle.ynl_model.specs.Queues.{Config}
use Rattle.ynl_model.specs.Cluster.{State}
use Rattle.ynl_model.specs.Events.{step, after}
use Rattle.ynl_journal.specs.declared.journal.Book.TheInside.{Inside}
use Rattle.ynl_journal.specs.Journal.{Journal, entry}

-- whether a reply is a refusal
abbrev pub is_refusal : Reply → Bool
is_refusal (Refused refusal) = true
is_refusal _ = false

-- what is written down of a reply: all of it, or, where it is left to be planned, a refusal alone
abbrev pub written : Bool → Reply → Option Reply
written planned r = if planned && not (is_refusal r) then None else Some r

-- the entries of events from a state on, each with what is written down of the cluster's reply
abbrev pub entries_from : Config → State → List Event → List Bool → List Entry
entries_from c s [] planned = []
entries_from c s (e ∷ es) [] = []
entries_from c s (e ∷ es) (p ∷ ps) = entry e (written p (step c s e).reply) ∷ entries_from c (step c s e).state es ps

abbrev pub journal_of : Inside → Journal
journal_of b = record { config = b.core.config; begun = b.start.value.state; entries = entries_from b.core.config b.start.value.state b.events b.planned.items }

-- the cluster is the one that the events lead to from the start, and of each event it is kept whether its reply was left to be planned
pub record IsReplay (b : Inside) : Type 0 where
  pub config : b.start.value.config ≡ b.core.config
  pub state : b.core.state ≡ after b.core.config b.start.value.state b.events
  pub counted : length b.planned.items ≡ length b.events
