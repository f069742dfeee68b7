-- What a tenant is handed of a journal.
use Rattle.std.specs.Prelude.{ℕ, ◌+◌, List, [], ◌∷◌, ◌++◌, map, slice_get, Option, Some, None}
use Rattle.std.specs.Option.{option_and_then}
use Rattle.ynl_resource.specs.declared.names.Name.{Name}
use Rattle.ynl_resource.specs.declared.labels.Label.{Label}
use Rattle.ynl_model.specs.declared.entries.Entry.{Entry}
use Rattle.ynl_model.specs.declared.events.Event.{Event}
use Rattle.ynl_model.specs.declared.nodes.Tracked.{Tracked}
use Rattle.ynl_model.specs.declared.replies.Reply.{Reply}
use Rattle.ynl_model.specs.Queues.{Config}
use Rattle.ynl_model.specs.View.{Viewed, seen_of, track_step, view}
use Rattle.ynl_journal.specs.Journal.{entry, events_in}

-- an entry with its place
abbrev pub Placed : Type 0
Placed = ℕ × Entry

-- the entries without their places
abbrev pub entries_in : List Placed → List Entry
entries_in placed = map (λ x. x.1) placed

-- the events of placed entries
abbrev pub events_placed : List Placed → List Event
events_placed placed = events_in (entries_in placed)

-- the reply that a journal has at a place, where it has one
abbrev pub reply_at : List Entry → ℕ → Option Reply
reply_at entries place = option_and_then (λ e. e.reply) (slice_get entries place)

-- an event of a view with its place, and the reply that the journal has there
abbrev pub with_reply : List Entry → Viewed → Placed
with_reply entries viewed = (viewed.place, entry viewed.event (reply_at entries viewed.place))

-- the evidence of a journal: what the view of its events keeps, each event with its place and the journal's reply
abbrev pub evidence_of : Config → List Entry → Name → Label → List Placed
evidence_of c entries t p = map (with_reply entries) (view c (events_in entries) t p)

-- ---- one entry after another

-- what is seen of an entry at a place, with its reply
abbrev pub noted : ℕ → Option Event → Option Reply → List Placed
noted place None reply = []
noted place (Some event) reply = (place, entry event reply) ∷ []

-- the evidence of the entries from a place on, by the track before them
abbrev pub evidence_from : Name → Label → Config → ℕ → List Tracked → List Entry → List Placed
evidence_from t p c place nodes [] = []
evidence_from t p c place nodes (e ∷ es) = noted place (seen_of t p c nodes e.event) e.reply ++ evidence_from t p c (place + 1) (track_step c nodes e.event) es
