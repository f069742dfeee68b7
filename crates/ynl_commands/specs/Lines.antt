-- What reading a line and writing a text do to the bytes of a reader and a writer.
use Rattle.std.specs.Prelude.{◌≡◌, ◌≢◌, ℕ, ◌<◌, ◌≤◌, List, [], ◌∷◌, ◌++◌, length, take, All, Bool, true, Option, Some, None, OnSome, Result, Ok, Err}
use Rattle.std.specs.Io.KnownBytes.{Consumes, IsAtEnd, Appends}
use Rattle.ynl_commands.specs.declared.lines_in.LineEnd.{LineEnd}
use Rattle.ynl_commands.specs.declared.lines_in.LineEnd.TheVariants.{Newline, Input, Budget}
use Rattle.ynl_commands.specs.declared.lines_in.ReadFault.{ReadFault}
use Rattle.ynl_commands.specs.declared.lines_in.ReadFault.TheVariants.{Read, NoMemory}
use Rattle.ynl_commands.specs.declared.lines_in.Taken.{Taken}
use Rattle.std.specs.declared.io.ErrorKind.{ErrorKind}
use Rattle.std.specs.declared.io.ErrorKind.TheVariants.{OutOfMemory}
use Rattle.ynl_commands.specs.declared.run.ToolFault.{ToolFault}
use Rattle.ynl_commands.specs.declared.run.ToolFault.TheVariants as tool

-- no newline among the bytes
abbrev pub IsPlain : List ℕ → Type 0
IsPlain bytes = All (λ x. x ≢ 10) bytes

-- what is told of an error that was met in reading: out of memory is told from all others
abbrev pub read_fault : ErrorKind → ReadFault
read_fault OutOfMemory = NoMemory
read_fault _ = Read

-- the fault of a reader, as one of a job
abbrev pub tool_fault : ReadFault → ToolFault
tool_fault Read = tool.Read
tool_fault NoMemory = tool.NoMemory

-- Of the bytes that were shown so many are taken: those that the line grew by, to n bytes, and what ended it.
abbrev pub IsTaken : List ℕ → List ℕ → ℕ → ℕ → ℕ → Option LineEnd → Type 0
IsTaken shown bytes n budget count None = (0 < length bytes) × (take count shown ≡ bytes)
IsTaken shown bytes n budget count (Some Newline) = (n < budget) × (take count shown ≡ bytes ++ 10 ∷ [])
IsTaken shown bytes n budget count (Some Input) = (length shown ≡ 0) × (take count shown ≡ bytes)
IsTaken shown bytes n budget count (Some Budget) = (n ≡ budget) × ((byte : ℕ) × (take count shown ≡ bytes ++ byte ∷ []))

-- these bytes are taken, with what ended the line; or none, where there was no memory for them
abbrev pub TakesShown : List ℕ → List ℕ → ℕ → ℕ → Result Taken ReadFault → Type 0
TakesShown shown bytes n budget (Ok taken) = (taken.count ≤ length shown) × IsTaken shown bytes n budget taken.count taken.end
TakesShown shown bytes n budget (Err e) = (e ≡ NoMemory) × (bytes ≡ [])

-- the line grew by bytes that were shown
pub record AddsShown (shown before after : List ℕ) (budget : ℕ) (r : Result Taken ReadFault) : Type 0 where
  pub bytes : List ℕ
  pub plain : IsPlain bytes
  pub grown : after ≡ before ++ bytes
  pub within : length after ≤ budget
  pub ended : TakesShown shown bytes (length after) budget r

-- an error of this kind is told, and the line is as it was
abbrev pub FailsAs : ErrorKind → List ℕ → List ℕ → Result Taken ReadFault → Type 0
FailsAs kind before after r = (r ≡ Err (read_fault kind)) × (after ≡ before)

-- more is noted only where the newline was taken, and bytes were shown behind it
abbrev pub ShowsBeyond : List ℕ → Taken → Bool → Type 0
ShowsBeyond shown taken more = more ≡ true → (taken.end ≡ Some Newline) × (taken.count < length shown)

-- The reader gave these bytes of the line, which has n bytes now, and what ended the line.
abbrev pub Ends : Option (List ℕ) → Option (List ℕ) → List ℕ → ℕ → ℕ → Option LineEnd → Type 0
Ends old new bytes n budget None = (0 < length bytes) × Consumes old new bytes
Ends old new bytes n budget (Some Newline) = (n < budget) × Consumes old new (bytes ++ 10 ∷ [])
Ends old new bytes n budget (Some Input) = OnSome old (IsAtEnd new) × Consumes old new bytes
Ends old new bytes n budget (Some Budget) = (n ≡ budget) × ((byte : ℕ) × Consumes old new (bytes ++ byte ∷ []))

-- the same of a piece, which may leave the line open; and before an error these bytes were given
abbrev pub PieceEnds : Option (List ℕ) → Option (List ℕ) → List ℕ → ℕ → ℕ → Result (Option LineEnd) ReadFault → Type 0
PieceEnds old new bytes n budget (Ok ended) = Ends old new bytes n budget ended
PieceEnds old new bytes n budget (Err e) = Consumes old new bytes

-- the same of a line from its beginning
abbrev pub LineEnds : Option (List ℕ) → Option (List ℕ) → List ℕ → ℕ → Result LineEnd ReadFault → Type 0
LineEnds old new line budget (Ok ended) = Ends old new line (length line) budget (Some ended)
LineEnds old new line budget (Err e) = Consumes old new line

-- the line grew by bytes that the reader gave
pub record GivesPiece (old new : Option (List ℕ)) (before after : List ℕ) (budget : ℕ) (r : Result (Option LineEnd) ReadFault) : Type 0 where
  pub bytes : List ℕ
  pub plain : IsPlain bytes
  pub grown : after ≡ before ++ bytes
  pub within : length after ≤ budget
  pub ended : PieceEnds old new bytes (length after) budget r

-- the line is what the reader gave, up to what ended it
pub record GivesLine (old new : Option (List ℕ)) (line : List ℕ) (budget : ℕ) (r : Result LineEnd ReadFault) : Type 0 where
  pub plain : IsPlain line
  pub within : length line ≤ budget
  pub ended : LineEnds old new line budget r

-- a front of the text was written
pub record AppendsFront (old new : Option (List ℕ)) (text : List ℕ) : Type 0 where
  pub count : ℕ
  pub bound : count ≤ length text
  pub appended : Appends old new (take count text)

-- a front of the text was written, and not all of it
pub record AppendsPart (old new : Option (List ℕ)) (text : List ℕ) : Type 0 where
  pub front : AppendsFront old new text
  pub missing : front.count < length text

-- a text was written up to what is held back of it
pub record HoldsBack (old new : Option (List ℕ)) (held text : List ℕ) : Type 0 where
  pub sent : List ℕ
  pub written : Appends old new sent
  pub all : sent ++ held ≡ text
