-- What an audit of an input finds: whether each line is the next of a journal, and each reply that is there the cluster's.
use Rattle.std.specs.Prelude.{ℕ, ◌==◌, Bool, true, false, List, [], ◌∷◌, ◌++◌, length, Option, Some, None, Result, Ok, Err, if◌then◌else◌}
use Rattle.ynl_model.specs.declared.events.Event.{Event}
use Rattle.ynl_model.specs.declared.replies.Reply.{Reply}
use Rattle.ynl_model.specs.declared.entries.Entry.{Entry}
use Rattle.ynl_model.specs.Queues.{Config}
use Rattle.ynl_model.specs.Cluster.{State}
use Rattle.ynl_model.specs.Events.{step, after}
use Rattle.ynl_journal.specs.Journal.{events_in}
use Rattle.ynl_journal.specs.Same.{fits_reply}
use Rattle.ynl_lines.specs.declared.faults.BadLine.{BadLine}
use Rattle.ynl_lines.specs.declared.faults.JournalFault.{JournalFault}
use Rattle.ynl_lines.specs.declared.faults.JournalFault.TheVariants.{Size, Line as NotNext, Differs}
use Rattle.ynl_lines.specs.declared.faults.InputFault.TheVariants.{Journal as InJournal}
use Rattle.ynl_lines.specs.ReadingReplies.{line_of_text}
use Rattle.ynl_lines.specs.Writing.{audit_text}
use Rattle.ynl_fields.specs.Reading.{is_blank}
use Rattle.ynl_commands.specs.Readings.{Way, Reading, reading_of}
use Rattle.ynl_commands.specs.Run.{line_of, Outcome, faulty}

-- ---- what a line says

-- an entry with its place, which has to be the number of the entries before it
abbrev pub if_next : ℕ → ℕ × Entry → Result (Option Entry) JournalFault
if_next n placed = if placed.0 == n then Ok (Some placed.1) else Err NotNext

-- the same of a line that was read, if it is one of a journal
abbrev pub if_read : ℕ → Result (ℕ × Entry) BadLine → Result (Option Entry) JournalFault
if_read n (Ok placed) = if_next n placed
if_read n (Err bad) = Err NotNext

-- what a line says after n entries: the next entry, or nothing where it is blank
abbrev pub entry_said : ℕ → List ℕ → Result (Option Entry) JournalFault
entry_said n line = if is_blank line then Ok None else if_read n (line_of_text line)

-- the entry of a line that was read, where one was found
abbrev pub entry_if : ℕ × Entry → Bool → Option Entry
entry_if read true = Some read.1
entry_if read false = None

-- ---- journals

-- the entries with what a line says
abbrev pub kept_with : List Entry → Result (Option Entry) JournalFault → Result (List Entry) JournalFault
kept_with entries (Ok None) = Ok entries
kept_with entries (Ok (Some e)) = Ok (entries ++ e ∷ [])
kept_with entries (Err f) = Err f

-- how a journal is read, whatever its replies are
abbrev pub journal_way : Way (List Entry) JournalFault
journal_way = record { start = []; add = λ entries line. kept_with entries (entry_said (length entries) line); size = Size }

-- the journal of an input: its entries, how many lines were read for them, and the fault that ends it, if one does
abbrev pub journal_of : List ℕ → Reading (List Entry) JournalFault
journal_of bytes = reading_of journal_way bytes

-- ---- audits

-- the cluster's reply to an event, from a state and after the events of the entries
abbrev pub reply_after : Config → State → List Entry → Event → Reply
reply_after c s entries event = (step c (after c s (events_in entries)) event).reply

-- the entries with one more, which has the cluster's reply or none
abbrev pub if_fitting : Config → State → List Entry → Entry → Result (List Entry) JournalFault
if_fitting c s entries e = if fits_reply e (reply_after c s entries e.event) then Ok (entries ++ e ∷ []) else Err Differs

-- the entries with what a line says
abbrev pub audited_with : Config → State → List Entry → Result (Option Entry) JournalFault → Result (List Entry) JournalFault
audited_with c s entries (Ok None) = Ok entries
audited_with c s entries (Ok (Some e)) = if_fitting c s entries e
audited_with c s entries (Err f) = Err f

-- how a journal is audited, from a state
abbrev pub audit_way : Config → State → Way (List Entry) JournalFault
audit_way c s = record { start = []; add = λ entries line. audited_with c s entries (entry_said (length entries) line); size = Size }

-- the part of an input that passes its audit
abbrev pub audited : Config → State → List ℕ → Reading (List Entry) JournalFault
audited c s bytes = reading_of (audit_way c s) bytes

-- what is told of so many entries, for which n lines were read: how many there are, or the fault that ended them
abbrev pub answer_of : ℕ → ℕ → Option JournalFault → Outcome
answer_of entries n None = record { text = line_of (audit_text entries); lines = n; fault = None }
answer_of entries n (Some f) = faulty (InJournal f) n

-- what is told of an audit
abbrev pub audit_answer : Reading (List Entry) JournalFault → Outcome
audit_answer r = answer_of (length r.made) r.lines r.fault

-- the audit of an input, from a state
abbrev pub audit_of : Config → State → List ℕ → Outcome
audit_of c s bytes = audit_answer (audited c s bytes)
