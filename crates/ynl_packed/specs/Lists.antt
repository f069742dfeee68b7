-- Lists of events, and of events with replies, as pieces of bytes.
use Rattle.std.specs.Prelude.{◌≡◌, ℕ, List, [], ◌++◌, map, All, Option, Some, None}
use Rattle.std.specs.Option.{option_map_or}
use Rattle.ynl_model.specs.declared.events.Event.{Event}
use Rattle.ynl_model.specs.declared.events.Event.TheVariants.{Heartbeat}
use Rattle.ynl_model.specs.declared.entries.Entry.{Entry}
use Rattle.ynl_model.specs.declared.replies.Reply.{Reply}
use Rattle.ynl_packed.specs.Fits.{FitsEvent}
use Rattle.ynl_packed.specs.Spelling.{event_bytes, reply_bytes}
use Rattle.ynl_packed.specs.Reading.{◌>>=◌, event_at, reply_at}

-- the event that a piece is; what stands for a piece that is none is never seen
abbrev pub event_in : List ℕ → Event
event_in piece = option_map_or (λ x. x.0) (event_at piece) (Heartbeat [])

-- a piece is the bytes of an event, and nothing else
pub record IsEvent (piece : List ℕ) : Type 0 where
  pub fits : FitsEvent (event_in piece)
  pub spelled : piece ≡ event_bytes (event_in piece)

abbrev pub events_in : List (List ℕ) → List Event
events_in pieces = map event_in pieces

abbrev pub AreEvents : List (List ℕ) → Type 0
AreEvents pieces = All IsEvent pieces

-- an event with its reply
abbrev pub answered : Event → Reply → Entry
answered event reply = record { event = event; reply = Some reply }

abbrev pub entry_bytes : Entry → List ℕ
entry_bytes e = event_bytes e.event ++ option_map_or reply_bytes e.reply []

unfoldable pub entry_at : List ℕ → Option (Entry × List ℕ)
entry_at bytes = do
  event ← event_at bytes
  reply ← reply_at event.1
  Some (answered event.0 reply.0, reply.1)

-- the entry that a piece is; what stands for a piece that is none is never seen
abbrev pub entry_in : List ℕ → Entry
entry_in piece = option_map_or (λ x. x.0) (entry_at piece) (record { event = Heartbeat []; reply = None })

-- a piece is an entry, and nothing behind it, and no other piece is that entry
pub record IsEntry (piece : List ℕ) : Type 0 where
  pub read : entry_at piece ≡ Some (entry_in piece, [])
  pub spelled : piece ≡ entry_bytes (entry_in piece)

abbrev pub entries_in : List (List ℕ) → List Entry
entries_in pieces = map entry_in pieces

abbrev pub AreEntries : List (List ℕ) → Type 0
AreEntries pieces = All IsEntry pieces
