-- Jobs that write only once reading has ended.
use Rattle.std.proofs.Common.{◌≡◌, ◌≢◌, inl, inr, ℕ, ◌+◌, ◌≤◌, List, false, subst, Option, Result, Ok, Err, refl, arith}
use Rattle.std.specs.Prelude.{IfErr}
use Rattle.std.proofs.KnownBytes.{Appends-nil}
use Rattle.ynl_commands.specs.declared.lines_in.Lines.{Lines}
use Rattle.ynl_commands.specs.declared.run.ToolFault.{ToolFault}
use Rattle.ynl_commands.specs.declared.run.ToolFault.TheVariants.{Read, Write, NoMemory, Unclosed}
use Rattle.ynl_commands.specs.declared.run.Summary.{Summary}
use Rattle.ynl_commands.specs.Answering.{ComesTo, Finds, IsWritten, AnswersWhole, Answers}
use Rattle.ynl_commands.specs.Input.{Stream, between, limit, TakesLine}
use Rattle.ynl_commands.specs.Readings.{Way, Reading, reading_of, ReadsTo, ReadsSome}
use Rattle.ynl_commands.specs.Run.{Outcome}
use Rattle.ynl_commands.specs.Running.{Writes}
use Rattle.ynl_commands.proofs.Readings.{OfReading, ReadSoFar, at_first, took}
use Rattle.ynl_commands.proofs.Runs.{of_some}

-- ---- one line after another

-- The lines that were read made this, and the state is that of it. As many were counted as lines at most.
pub record HasCome {S F X : Type 0} (w : Way S F) (Is : S → X → Type 0) (count : X → ℕ) (reader : Stream) (l : Lines) (x : X) : Type 0 where
  pub made : S
  pub read : ReadSoFar w reader l made
  pub now : Is made x
  pub few : count x ≤ l.count

module _ {S F X : Type 0} (w : Way S F) (Is : S → X → Type 0) (count : X → ℕ) where
  -- before the first line
  pub comes_first : (a : Option (List ℕ)) (l : Lines) (x : X) → l.count ≡ 0 → l.budget ≡ limit → l.at_end ≡ false → Is w.start x → count x ≡ 0 → HasCome w Is count (between a a) l x
  comes_first a l x none budget ongoing is first = record {
    made = w.start;
    read = at_first w a l none budget ongoing;
    now = is;
    few = omega (arith, none, first);
  }

  -- a line without a fault
  pub comes_on : (a b d : Option (List ℕ)) (l l' : Lines) (old new : X) (so : HasCome w Is count (between a b) l old) → TakesLine (between b d) l l' → count new ≤ count old + 1
      → (more : S) → w.add so.made l'.line.items ≡ Ok more → Is more new → HasCome w Is count (between a d) l' new
  comes_on a b d l l' old new so t few more added is = record {
    made = more;
    read = took w a b d l l' so.made so.read t more added;
    now = is;
    few = let before = so.few in let counted = t.count in omega (arith, few, before, counted);
  }

-- ---- what was found

pub ends : {S F : Type 0} (w : Way S F) (answer : Reading S F → Outcome) (reader : Stream) (r : Reading S F) (o : Outcome) → ReadsTo w reader r → o ≡ answer r → ComesTo w answer reader o
ends w answer reader r o read is = record { reading = r; read = read; is = is }

pub finds_failed : {S F X : Type 0} (w : Way S F) (answer : Reading S F → Outcome) (told : X → Outcome) (reader : Stream) (e : ToolFault) → OfReading e → ReadsSome w reader e → Finds w answer told reader (Err e)
finds_failed w answer told reader Read other some = some
finds_failed w answer told reader NoMemory other some = some
finds_failed w answer told reader Write other some = absurd other
finds_failed w answer told reader Unclosed other some = absurd other

-- ---- what was told

module _ {S F X : Type 0} (w : Way S F) (answer : Reading S F → Outcome) (told : X → Outcome) (reader : Stream) where
  -- an error in reading
  pub answers_nothing : (v : Option (List ℕ)) (e : ToolFault) → Finds w answer told reader (Err e) → Answers w answer reader (between v v) (Err e)
  answers_nothing v Read some = record { read = some; unwritten = Appends-nil v }
  answers_nothing v NoMemory some = inl (record { read = some; unwritten = Appends-nil v })
  answers_nothing v Write some = absurd some
  answers_nothing v Unclosed some = absurd some

  answers_by : (v u : Option (List ℕ)) (r : Reading S F) (o : Result Summary ToolFault) → ReadsTo w reader r → Writes v u (answer r) o → IfErr o (λ e. e ≢ Read) → Answers w answer reader (between v u) o
  answers_by v u r (Ok summary) read wrote other = record { reading = r; read = read; told = record { written = wrote.2; lines = wrote.0; fault = wrote.1 } }
  answers_by v u r (Err Read) read wrote other = absurd (other refl)
  answers_by v u r (Err NoMemory) read wrote other = inr (record { reading = r; read = read; written = wrote })
  answers_by v u r (Err Write) read wrote other = record { reading = r; read = read; written = wrote }
  answers_by v u r (Err Unclosed) read wrote other = absurd wrote

  -- what was found is told
  pub answers_found : (v u : Option (List ℕ)) (x : X) (o : Result Summary ToolFault) → Finds w answer told reader (Ok x) → Writes v u (told x) o → IfErr o (λ e. e ≢ Read) → Answers w answer reader (between v u) o
  answers_found v u x o finds wrote other = answers_by v u finds.reading o finds.read (subst (λ k. Writes v u k o) finds.is wrote) other

-- the whole input
pub answers_whole : {S F : Type 0} (w : Way S F) (answer : Reading S F → Outcome) (reader writer : Stream) (r : Result Summary ToolFault) → Answers w answer reader writer r → AnswersWhole w answer reader writer r
answers_whole w answer reader writer (Ok summary) h =
    of_some reader.before (λ input. h.reading ≡ reading_of w input) (λ input. IsWritten writer (answer (reading_of w input)) summary)
    (λ input is. subst (λ k. IsWritten writer (answer k) summary) is h.told) h.read.input
answers_whole w answer reader writer (Err e) h = tt
