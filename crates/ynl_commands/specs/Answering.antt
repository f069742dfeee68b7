-- Jobs that read to the end of the input, or to its first fault, and write only then.
use Rattle.std.specs.Prelude.{◌≡◌, ◌⊎◌, ℕ, List, [], Option, Some, None, IfSome, Result, Ok, Err, IfOk}
use Rattle.std.specs.Io.KnownBytes.{Appends}
use Rattle.ynl_commands.specs.declared.run.ToolFault.{ToolFault}
use Rattle.ynl_commands.specs.declared.run.ToolFault.TheVariants.{Read, Write, NoMemory, Unclosed}
use Rattle.ynl_commands.specs.declared.run.Summary.{Summary}
use Rattle.ynl_commands.specs.Input.{Stream}
use Rattle.ynl_commands.specs.Readings.{Way, Reading, reading_of, ReadsTo, ReadsSome}
use Rattle.ynl_commands.specs.Run.{Outcome}
use Rattle.ynl_commands.specs.Running.{LeavesFront}

-- ---- one line after another

-- the lines so far made this, and one more was taken, or has a fault; of want of memory nothing is said
abbrev pub Steps : {S F X E : Type 0} → Way S F → (S → X → Type 0) → S → X → List ℕ → Result (Option F) E → Type 0
Steps {S} w Is made new line (Ok None) = (more : S) × (w.add made line ≡ Ok more) × Is more new
Steps w Is made new line (Ok (Some f)) = w.add made line ≡ Err f
Steps w Is made new line (Err e) = Unit {0}

-- the same of whatever the lines so far made
abbrev pub StepsOn : {S F X E : Type 0} → Way S F → (S → X → Type 0) → X → X → List ℕ → Result (Option F) E → Type 0
StepsOn {S} w Is old new line r = (made : S) → Is made old → Steps w Is made new line r

-- ---- reading

-- What was read came to something, and this is what is told of it.
pub record ComesTo {S F : Type 0} (w : Way S F) (answer : Reading S F → Outcome) (reader : Stream) (o : Outcome) : Type 0 where
  pub reading : Reading S F
  pub read : ReadsTo w reader reading
  pub is : o ≡ answer reading

-- what was found is told, or an error was met
abbrev pub Finds : {S F X : Type 0} → Way S F → (Reading S F → Outcome) → (X → Outcome) → Stream → Result X ToolFault → Type 0
Finds w answer told reader (Ok found) = ComesTo w answer reader (told found)
Finds w answer told reader (Err Read) = ReadsSome w reader Read
Finds w answer told reader (Err NoMemory) = ReadsSome w reader NoMemory
Finds w answer told reader (Err Write) = ⊥
Finds w answer told reader (Err Unclosed) = ⊥

-- ---- the whole

-- this was written, and nothing else, and is told
pub record IsWritten (writer : Stream) (o : Outcome) (summary : Summary) : Type 0 where
  pub written : Appends writer.before writer.after o.text
  pub lines : summary.lines ≡ o.lines
  pub fault : summary.fault ≡ o.fault

-- what is told of the whole input was written, where the reader tells its bytes
abbrev pub AnswersWhole : {S F : Type 0} → Way S F → (Reading S F → Outcome) → Stream → Stream → Result Summary ToolFault → Type 0
AnswersWhole w answer reader writer r = IfOk r (λ summary. IfSome reader.before (λ input. IsWritten writer (answer (reading_of w input)) summary))

-- the input was read, and what is told of it was written, and nothing else
pub record AnswersAll {S F : Type 0} (w : Way S F) (answer : Reading S F → Outcome) (reader writer : Stream) (summary : Summary) : Type 0 where
  pub reading : Reading S F
  pub read : ReadsTo w reader reading
  pub told : IsWritten writer (answer reading) summary

-- the input was read, and then an error left a front of what is told, and not all of it
pub record AnswersSome {S F : Type 0} (w : Way S F) (answer : Reading S F → Outcome) (reader writer : Stream) (e : ToolFault) : Type 0 where
  pub reading : Reading S F
  pub read : ReadsTo w reader reading
  pub written : LeavesFront writer.before writer.after (answer reading).text e

-- the input was not read to its end, and nothing was written
pub record AnswersNothing {S F : Type 0} (w : Way S F) (reader writer : Stream) (e : ToolFault) : Type 0 where
  pub read : ReadsSome w reader e
  pub unwritten : Appends writer.before writer.after []

-- Only once reading has ended the answer is written.
abbrev pub Answers : {S F : Type 0} → Way S F → (Reading S F → Outcome) → Stream → Stream → Result Summary ToolFault → Type 0
Answers w answer reader writer (Ok summary) = AnswersAll w answer reader writer summary
Answers w answer reader writer (Err Read) = AnswersNothing w reader writer Read
Answers w answer reader writer (Err NoMemory) = AnswersNothing w reader writer NoMemory ⊎ AnswersSome w answer reader writer NoMemory
Answers w answer reader writer (Err Write) = AnswersSome w answer reader writer Write
Answers w answer reader writer (Err Unclosed) = ⊥
