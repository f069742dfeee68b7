-- What is told of a live scheduler: the closed journal of its session, and the fault of the script.
use Rattle.std.specs.Prelude.{◌≡◌, ◌⊎◌, ℕ, ◌+◌, List, [], ◌∷◌, ◌++◌, option_map, IfSome, Result, Ok, Err, IfOk}
use Rattle.std.specs.Option.{option_map_or}
use Rattle.std.specs.List.{concat}
use Rattle.std.specs.Io.KnownBytes.{Appends}
use Rattle.ynl_model.specs.declared.entries.Entry.{Entry}
use Rattle.ynl_core.specs.World.{World}
use Rattle.ynl_lines.specs.declared.faults.InputFault.TheVariants.{Script as InScript}
use Rattle.ynl_lines.specs.Writing.{line_text}
use Rattle.ynl_workers.specs.session.Sessions.{IsSession}
use Rattle.ynl_workers.specs.declared.session.sessions.SessionFault.{SessionFault}
use Rattle.ynl_workers.specs.declared.session.sessions.SessionFault.TheVariants as session
use Rattle.ynl_commands.specs.declared.run.ToolFault.{ToolFault}
use Rattle.ynl_commands.specs.declared.run.ToolFault.TheVariants.{Read, Write, NoMemory, Unclosed}
use Rattle.ynl_commands.specs.declared.run.Summary.{Summary}
use Rattle.ynl_commands.specs.Input.{Stream}
use Rattle.ynl_commands.specs.Run.{line_of, fault_lines}
use Rattle.ynl_commands.specs.Readings.{ReadsTo}
use Rattle.ynl_commands.specs.Script.{Script, script_way, script_of}
use Rattle.ynl_commands.specs.Telling.{LeavesLines, TellsNothing}

-- ---- what is written

-- how many rounds of workers are run: none where a line of the script has a fault
abbrev pub rounds_of : ℕ → Script → ℕ
rounds_of rounds s = option_map_or (λ fault. 0) s.fault rounds

-- the line of an entry, with its place; nothing for one without a reply, of which a history has none
abbrev pub journal_line : ℕ → Entry → List ℕ
journal_line place entry = option_map_or (λ reply. line_of (line_text place entry)) entry.reply []

-- the lines of entries, of which the first has this place
abbrev pub journal_lines : ℕ → List Entry → List (List ℕ)
journal_lines n [] = []
journal_lines n (entry ∷ entries) = journal_line n entry ∷ journal_lines (n + 1) entries

-- what is told of a session: its entries, and then the fault of its script
abbrev pub session_lines : List Entry → Script → List (List ℕ)
session_lines entries s = journal_lines 0 entries ++ fault_lines s

-- ---- writing it

-- why a session has no closed journal, as a fault of a job
abbrev pub session_fault : SessionFault → ToolFault
session_fault session.NoMemory = NoMemory
session_fault session.Unclosed = Unclosed

-- what was read is told as the script's lines and its fault
abbrev pub SumsUp : Script → Summary → Type 0
SumsUp s summary = (summary.lines ≡ s.lines) × (summary.fault ≡ option_map InScript s.fault)

-- A session of the script was run from a cluster on, with so many rounds where no line has a fault, and with none else. Its closed journal was written, then
-- the line of the fault, if there is one, and nothing else.
pub record IsLived (free : Type 0) (writer : Stream) (w : World) (rounds : ℕ) (summary : Summary) (s : Script) : Type 0 where
  pub entries : List Entry
  pub session : IsSession free w s.made (rounds_of rounds s) entries
  pub written : Appends writer.before writer.after (concat (session_lines entries s))
  pub lines : summary.lines ≡ s.lines
  pub fault : summary.fault ≡ option_map InScript s.fault

-- the whole input, where the reader tells its bytes
abbrev pub LivesWhole : Type 0 → Stream → Stream → World → ℕ → Result Summary ToolFault → Type 0
LivesWhole free reader writer w rounds r = IfOk r (λ summary. IfSome reader.before (λ input. IsLived free writer w rounds summary (script_of input)))

-- the script was read, and a session of it was told and nothing else
pub record LivesAll (free : Type 0) (reader writer : Stream) (w : World) (rounds : ℕ) (summary : Summary) : Type 0 where
  pub script : Script
  pub read : ReadsTo script_way reader script
  pub lived : IsLived free writer w rounds summary script

-- the script was read and a session of it closed, and then an error left a front of what is told
pub record LivesSome (free : Type 0) (reader writer : Stream) (w : World) (rounds : ℕ) (e : ToolFault) : Type 0 where
  pub script : Script
  pub read : ReadsTo script_way reader script
  pub entries : List Entry
  pub session : IsSession free w script.made (rounds_of rounds script) entries
  pub written : LeavesLines writer.before writer.after (session_lines entries script) e

-- the script was read, no journal was closed, and nothing was written
pub record LivesNothing (reader writer : Stream) : Type 0 where
  pub script : Script
  pub read : ReadsTo script_way reader script
  pub unwritten : Appends writer.before writer.after []

-- Only once the script has been read and the journal is closed it is told.
abbrev pub Lives : Type 0 → Stream → Stream → World → ℕ → Result Summary ToolFault → Type 0
Lives free reader writer w rounds (Ok summary) = LivesAll free reader writer w rounds summary
Lives free reader writer w rounds (Err Read) = TellsNothing reader writer Read
Lives free reader writer w rounds (Err NoMemory) = TellsNothing reader writer NoMemory ⊎ (LivesNothing reader writer ⊎ LivesSome free reader writer w rounds NoMemory)
Lives free reader writer w rounds (Err Write) = LivesSome free reader writer w rounds Write
Lives free reader writer w rounds (Err Unclosed) = LivesNothing reader writer
