-- What an audit does to its reader and its writer.
use Rattle.std.specs.Prelude.{◌≡◌, ◌⊎◌, ℕ, ◌+◌, List, [], length, Bool, true, false, Option, Some, None, IfSome, Result, Ok, Err, IfOk}
use Rattle.std.specs.Io.KnownBytes.{Appends}
use Rattle.ynl_model.specs.declared.entries.Entry.{Entry}
use Rattle.ynl_model.specs.Queues.{Config}
use Rattle.ynl_model.specs.Cluster.{State}
use Rattle.ynl_model.specs.Events.{step}
use Rattle.ynl_core.specs.declared.memory.NoMemory.{NoMemory as Refused}
use Rattle.ynl_core.specs.World.{stepped}
use Rattle.ynl_journal.specs.Journal.{replayed_from}
use Rattle.ynl_journal.specs.Same.{fits_reply}
use Rattle.ynl_lines.specs.declared.faults.JournalFault.{JournalFault}
use Rattle.ynl_commands.specs.declared.audit.Audit.{Audit}
use Rattle.ynl_commands.specs.declared.audit.Found.{Found}
use Rattle.ynl_commands.specs.declared.run.ToolFault.{ToolFault}
use Rattle.ynl_commands.specs.declared.run.ToolFault.TheVariants.{Read, Write, NoMemory, Unclosed}
use Rattle.ynl_commands.specs.declared.run.Summary.{Summary}
use Rattle.ynl_commands.specs.Input.{Stream}
use Rattle.ynl_commands.specs.Readings.{Reading, ReadsTo, ReadsSome}
use Rattle.ynl_commands.specs.Running.{LeavesFront}
use Rattle.ynl_commands.specs.Audit.{entry_said, audited_with, audit_way, audit_answer, audit_of}

-- ---- an entry after another

-- The audit has come to the end of these entries.
pub record IsAuditOf (c : Config) (s : State) (entries : List Entry) (audit : Audit) : Type 0 where
  pub core : audit.core ≡ replayed_from c s entries
  pub count : audit.entries ≡ length entries

-- whether an entry has the reply of the cluster, where it has one
abbrev pub fits_next : Audit → Entry → Bool
fits_next audit e = fits_reply e (step audit.core.config audit.core.state e.event).reply

-- an entry that fits was taken; where it does not, it does not count
abbrev pub TakesEntry : Audit → Entry → Audit → Bool → Type 0
TakesEntry old e new true = (fits_next old e ≡ true) × (new.core ≡ stepped old.core e.event) × (new.entries ≡ old.entries + 1)
TakesEntry old e new false = (fits_next old e ≡ false) × (new.entries ≡ old.entries)

-- the entries with that of a line pass, or the line's fault is told, and they are as many as before
abbrev pub Passes : Config → State → List Entry → Audit → List ℕ → Result (Option JournalFault) Refused → Type 0
Passes c s entries new line (Ok None) = (more : List Entry) × (audited_with c s entries (entry_said (length entries) line) ≡ Ok more) × IsAuditOf c s more new
Passes c s entries new line (Ok (Some f)) = (audited_with c s entries (entry_said (length entries) line) ≡ Err f) × (new.entries ≡ length entries)
Passes c s entries new line (Err e) = Unit {0}

-- the same of any entries that the audit had come to the end of
abbrev pub AuditsLine : Audit → Audit → List ℕ → Result (Option JournalFault) Refused → Type 0
AuditsLine old new line r = (c : Config) (s : State) (entries : List Entry) → IsAuditOf c s entries old → Passes c s entries new line r

-- ---- reading

-- the journal was read, as far as it passes, and this was found
pub record FindsAll (reader : Stream) (c : Config) (s : State) (found : Found) : Type 0 where
  pub journal : Reading (List Entry) JournalFault
  pub read : ReadsTo (audit_way c s) reader journal
  pub entries : found.entries ≡ length journal.made
  pub lines : found.lines ≡ journal.lines
  pub fault : found.fault ≡ journal.fault

-- what was read, whether the audit came to an end or met an error
abbrev pub Finds : Stream → Config → State → Result Found ToolFault → Type 0
Finds reader c s (Ok found) = FindsAll reader c s found
Finds reader c s (Err Read) = ReadsSome (audit_way c s) reader Read
Finds reader c s (Err NoMemory) = ReadsSome (audit_way c s) reader NoMemory
Finds reader c s (Err Write) = ⊥
Finds reader c s (Err Unclosed) = ⊥

-- ---- the whole

-- the audit of this input was written, and nothing else, and is told
pub record IsAnswerTo (writer : Stream) (c : Config) (s : State) (summary : Summary) (input : List ℕ) : Type 0 where
  pub written : Appends writer.before writer.after (audit_of c s input).text
  pub lines : summary.lines ≡ (audit_of c s input).lines
  pub fault : summary.fault ≡ (audit_of c s input).fault

-- the audit of the whole input, where the reader tells its bytes
abbrev pub AuditsWhole : Stream → Stream → Config → State → Result Summary ToolFault → Type 0
AuditsWhole reader writer c s r = IfOk r (λ summary. IfSome reader.before (IsAnswerTo writer c s summary))

-- the journal was read, as far as it passes, and this was told and nothing else
pub record AuditsAll (reader writer : Stream) (c : Config) (s : State) (summary : Summary) : Type 0 where
  pub journal : Reading (List Entry) JournalFault
  pub read : ReadsTo (audit_way c s) reader journal
  pub written : Appends writer.before writer.after (audit_answer journal).text
  pub lines : summary.lines ≡ (audit_answer journal).lines
  pub fault : summary.fault ≡ (audit_answer journal).fault
  pub input : IfSome reader.before (IsAnswerTo writer c s summary)

-- the journal was read, as far as it passes, and then an error left a front of what is told, and not all of it
pub record AuditsSome (reader writer : Stream) (c : Config) (s : State) (e : ToolFault) : Type 0 where
  pub journal : Reading (List Entry) JournalFault
  pub read : ReadsTo (audit_way c s) reader journal
  pub written : LeavesFront writer.before writer.after (audit_answer journal).text e

-- the journal was not read to its end, and nothing was written
pub record AuditsNothing (reader writer : Stream) (c : Config) (s : State) (e : ToolFault) : Type 0 where
  pub read : ReadsSome (audit_way c s) reader e
  pub unwritten : Appends writer.before writer.after []

-- Only once reading has ended the answer is written.
abbrev pub AuditsJournal : Stream → Stream → Config → State → Result Summary ToolFault → Type 0
AuditsJournal reader writer c s (Ok summary) = AuditsAll reader writer c s summary
AuditsJournal reader writer c s (Err Read) = AuditsNothing reader writer c s Read
AuditsJournal reader writer c s (Err NoMemory) = AuditsNothing reader writer c s NoMemory ⊎ AuditsSome reader writer c s NoMemory
AuditsJournal reader writer c s (Err Write) = AuditsSome reader writer c s Write
AuditsJournal reader writer c s (Err Unclosed) = ⊥
