-- What the lines of an input come to, and what reading them does to a reader.
use Rattle.std.specs.Prelude.{◌≡◌, ℕ, ◌+◌, List, [], ◌∷◌, ◌++◌, Option, Some, None, IfSome, IfNone, Result, Ok, Err}
use Rattle.ynl_commands.specs.declared.run.ToolFault.{ToolFault}
use Rattle.ynl_commands.specs.declared.run.ToolFault.TheVariants.{Read, Write}
use Rattle.ynl_commands.specs.Input.{Line, whole, too_long, lines_within, limit, Stream, MetEnd, ReadsLines, IsBrokenOff, IsComplete}

-- ---- what an input comes to

-- A way to read lines: what is there before the first, what a line makes of what those before it made, or its fault, and the
-- fault of the line that has the byte past the limit.
pub record Way (S F : Type 0) : Type 0 where
  pub start : S
  pub add : S → List ℕ → Result S F
  pub size : F

-- What lines come to: what those before the first fault made, how many were read, and that fault, if there is one.
pub record Reading (S F : Type 0) : Type 0 where
  pub made : S
  pub lines : ℕ
  pub fault : Option F

-- so many lines made this, and then this fault came, if one did
abbrev pub come_to : {S F : Type 0} → S → ℕ → Option F → Reading S F
come_to made n fault = record { made = made; lines = n; fault = fault }

-- what comes of a line, the n-th: the rest is read from what it made, or its fault ends the reading
abbrev pub unless_faulty : {S F : Type 0} → (S → Reading S F) → S → ℕ → Result S F → Reading S F
unless_faulty rest made n (Ok more) = rest more
unless_faulty rest made n (Err f) = come_to made n (Some f)

-- what these lines come to, after n lines that made this
unfoldable pub read_on : {S F : Type 0} → Way S F → S → ℕ → List Line → Reading S F
read_on w made n [] = come_to made n None
read_on w made n (too_long ∷ ls) = come_to made (n + 1) (Some w.size)
read_on w made n (whole l ∷ ls) = unless_faulty (λ more. read_on w more (n + 1) ls) made (n + 1) (w.add made l)

-- what an input comes to
abbrev pub reading_of : {S F : Type 0} → Way S F → List ℕ → Reading S F
reading_of w bytes = read_on w w.start 0 (lines_within bytes limit)

-- ---- reading it

-- Whole lines were read, and then one line at most, and none after it. No line before that one has a fault, and where that one has
-- none the input is at its end. What came of it is what the whole input comes to, which is what that comes to which was read.
pub record ReadsTo {S F : Type 0} (w : Way S F) (reader : Stream) (r : Reading S F) : Type 0 where
  pub lines : ReadsLines reader
  pub good : (reading_of w lines.bytes).fault ≡ None
  pub complete : IsComplete lines
  pub ended : IfNone r.fault (MetEnd reader)
  pub is : r ≡ reading_of w (lines.bytes ++ lines.last)
  pub input : IfSome reader.before (λ input. r ≡ reading_of w input)

-- Whole lines without a fault were read, and then one line at most, with its newline or a part of it. A read fails within
-- a line that is not too long, and a write only once a line was read to its end.
pub record ReadsSome {S F : Type 0} (w : Way S F) (reader : Stream) (e : ToolFault) : Type 0 where
  pub lines : ReadsLines reader
  pub good : (reading_of w lines.bytes).fault ≡ None
  pub reading : e ≡ Read → IsBrokenOff lines
  pub writing : e ≡ Write → IsComplete lines
