-- What a run does to its reader and its writer.
use Rattle.std.specs.Prelude.{◌≡◌, ◌⊎◌, ℕ, ◌<◌, List, [], ◌∷◌, ◌++◌, length, Option, Some, None, IfSome, Result, Ok, Err, IfOk, true}
use Rattle.std.specs.Io.KnownBytes.{Appends, Consumes}
use Rattle.ynl_model.specs.declared.events.Event.{Event}
use Rattle.ynl_model.specs.Queues.{Config}
use Rattle.ynl_model.specs.Cluster.{State}
use Rattle.ynl_model.specs.Events.{after}
use Rattle.ynl_core.specs.World.{World}
use Rattle.ynl_lines.specs.declared.faults.LineFault.{LineFault}
use Rattle.ynl_commands.specs.declared.run.ToolFault.{ToolFault}
use Rattle.ynl_commands.specs.declared.run.ToolFault.TheVariants.{Read, Write, NoMemory, Unclosed}
use Rattle.ynl_commands.specs.declared.run.Summary.{Summary}
use Rattle.ynl_commands.specs.declared.lines_in.Lines.{Lines}
use Rattle.ynl_commands.specs.declared.lines_in.Next.{Next}
use Rattle.ynl_commands.specs.declared.lines_in.Next.TheVariants as next
use Rattle.ynl_commands.specs.Input.{Stream, Takes, TakesLine, BreaksOff}
use Rattle.ynl_commands.specs.Lines.{AppendsFront, AppendsPart}
use Rattle.ynl_commands.specs.Readings.{ReadsTo, ReadsSome}
use Rattle.ynl_commands.specs.Script.{Script, part, script_way}
use Rattle.ynl_commands.specs.Run.{Outcome, replies_text, run_of}

-- What is written after an error: a front of the text, but not all of it, after a fault of the writer, and nothing after another.
abbrev pub LeavesFront : Option (List ℕ) → Option (List ℕ) → List ℕ → ToolFault → Type 0
LeavesFront old new text Write = AppendsPart old new text
LeavesFront old new text Read = Appends old new []
LeavesFront old new text NoMemory = Appends old new []
LeavesFront old new text Unclosed = ⊥

-- the line has no fault, the cluster is the one that it leaves, and besides this holds
abbrev pub IsAnswered : Config → State → World → List ℕ → Type 0 → Type 0
IsAnswered c s next line P = ((part line).fault ≡ None) × (next ≡ record { config = c; state = after c s (part line).events }) × P

-- An event was answered in the text that is held back, or there was no memory, and then that text is as it was.
abbrev pub HoldsReply : {X E : Type 0} → List ℕ → List ℕ → Config → State → World → Event → Result X E → Type 0
HoldsReply old new c s next event (Ok x) = (next ≡ record { config = c; state = after c s (event ∷ []) }) × (new ≡ old ++ replies_text c s (event ∷ []))
HoldsReply old new c s next event (Err e) = new ≡ old

-- A line was answered in the text that is held back, or has a fault, or there was no memory, and then that text is as it was.
abbrev pub Holds : {E : Type 0} → List ℕ → List ℕ → Config → State → World → List ℕ → Result (Option LineFault) E → Type 0
Holds old new c s next line (Ok None) = IsAnswered c s next line (new ≡ old ++ replies_text c s (part line).events)
Holds old new c s next line (Ok (Some f)) = ((part line).fault ≡ Some f) × (new ≡ old)
Holds old new c s next line (Err e) = new ≡ old

-- the text that was held back is written, and none is held now
abbrev pub Released : Stream → List ℕ → List ℕ → Type 0
Released writer old new = Appends writer.before writer.after old × (new ≡ [])

-- how long the text may get that is held back, in bytes, before it is written ahead of the next line
abbrev pub held_limit : ℕ
held_limit = 65536

-- the text that is held back is as it was, since the reader showed more than the line before, and nothing was written; or it was written
abbrev pub HoldsOn : Stream → Lines → List ℕ → List ℕ → Type 0
HoldsOn writer lines old new = ((writer.after ≡ writer.before) × (new ≡ old) × (length old < held_limit) × (lines.shows_more ≡ true)) ⊎ Released writer old new

-- The text was written, and then a line was read, or none is left. A write fails before anything is read, and a read once all text is written.
abbrev pub ReadsOn : Stream → Stream → Lines → Lines → List ℕ → List ℕ → Result Next ToolFault → Type 0
ReadsOn reader writer old new held kept (Ok next) = Takes reader old new next × Released writer held kept
ReadsOn reader writer old new held kept (Err Write) = Consumes reader.before reader.after [] × AppendsPart writer.before writer.after held
ReadsOn reader writer old new held kept (Err Read) = BreaksOff reader old × Appends writer.before writer.after held
ReadsOn reader writer old new held kept (Err NoMemory) = BreaksOff reader old × Appends writer.before writer.after held
ReadsOn reader writer old new held kept (Err Unclosed) = ⊥

-- a line was taken while text is held back; or the text was written, and then the input read on
abbrev pub GoesOn : Stream → Stream → Lines → Lines → List ℕ → List ℕ → Result Next ToolFault → Type 0
GoesOn reader writer old new held kept (Ok next.Line) = TakesLine reader old new × HoldsOn writer old held kept
GoesOn reader writer old new held kept (Ok next.TooLong) = ReadsOn reader writer old new held kept (Ok next.TooLong)
GoesOn reader writer old new held kept (Ok next.End) = ReadsOn reader writer old new held kept (Ok next.End)
GoesOn reader writer old new held kept (Err e) = ReadsOn reader writer old new held kept (Err e)

-- what ends a job was written
abbrev pub Writes : Option (List ℕ) → Option (List ℕ) → Outcome → Result Summary ToolFault → Type 0
Writes old new o (Ok summary) = (summary.lines ≡ o.lines) × (summary.fault ≡ o.fault) × Appends old new o.text
Writes old new o (Err e) = LeavesFront old new o.text e

-- The text of the lines before is written, and after a fault of the writer a front of the whole, but not all of it.
abbrev pub LeavesMore : Stream → List ℕ → List ℕ → ToolFault → Type 0
LeavesMore writer before text Write = AppendsPart writer.before writer.after text
LeavesMore writer before text Read = Appends writer.before writer.after before
LeavesMore writer before text NoMemory = Appends writer.before writer.after before
LeavesMore writer before text Unclosed = ⊥

-- The run of this input was written, and nothing else, and is told.
pub record IsRunOf (writer : Stream) (c : Config) (s : State) (summary : Summary) (input : List ℕ) : Type 0 where
  pub written : Appends writer.before writer.after (run_of c s input).text
  pub lines : summary.lines ≡ (run_of c s input).lines
  pub fault : summary.fault ≡ (run_of c s input).fault

-- the run of the whole input, where the reader tells its bytes
abbrev pub RunsWhole : Stream → Stream → Config → State → Result Summary ToolFault → Type 0
RunsWhole reader writer c s r = IfOk r (λ summary. IfSome reader.before (IsRunOf writer c s summary))

-- A script was read. The run wrote the text of the whole input, which is that of what it read, and nothing else.
pub record RunsTo (reader writer : Stream) (c : Config) (s : State) (summary : Summary) : Type 0 where
  pub script : Script
  pub read : ReadsTo script_way reader script
  pub ran : IsRunOf writer c s summary (read.lines.bytes ++ read.lines.last)
  pub input : IfSome reader.before (IsRunOf writer c s summary)

-- Whole lines without a fault were read, and then one line at most. After a read fault, or where memory was refused, the run wrote the
-- text of the lines before that one; after a write fault a front of the text of all that was read, which may end before that line. Both
-- are a front of the text of the whole input.
pub record Stops (reader writer : Stream) (c : Config) (s : State) (e : ToolFault) : Type 0 where
  pub read : ReadsSome script_way reader e
  pub written : LeavesMore writer (run_of c s read.lines.bytes).text (run_of c s (read.lines.bytes ++ read.lines.last)).text e
  pub front : IfSome reader.before (λ input. AppendsFront writer.before writer.after (run_of c s input).text)

-- what a run did, whether it came to its end or was stopped by an error
abbrev pub Runs : Stream → Stream → Config → State → Result Summary ToolFault → Type 0
Runs reader writer c s (Ok summary) = RunsTo reader writer c s summary
Runs reader writer c s (Err e) = Stops reader writer c s e
