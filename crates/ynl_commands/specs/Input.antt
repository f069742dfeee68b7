-- The lines of an input, and what reading them one after another does.
use Rattle.std.specs.Prelude.{◌≡◌, ◌⊎◌, ℕ, ◌+◌, ◌-◌, ◌<◌, ◌≤◌, List, [], ◌∷◌, ◌++◌, length, take, Bool, true, false, ◌==◌, Option, OnSome, if◌then◌else◌}
use Rattle.std.specs.Io.KnownBytes.{Consumes, IsAtEnd}
use Rattle.ynl_commands.specs.declared.lines_in.Lines.{Lines}
use Rattle.ynl_commands.specs.declared.lines_in.Next.{Next}
use Rattle.ynl_commands.specs.declared.lines_in.Next.TheVariants as next
use Rattle.ynl_commands.specs.Lines.{IsPlain}

-- ---- what an input is

-- a line, or one that has the byte past the limit
pub data Line : Type 0 where
  whole : List ℕ → Line
  too_long : Line

-- a byte before the first line
abbrev pub onto : ℕ → List Line → List Line
onto b [] = whole (b ∷ []) ∷ []
onto b (whole l ∷ ls) = whole (b ∷ l) ∷ ls
onto b (too_long ∷ ls) = too_long ∷ ls

-- the lines of a text, of which so many bytes are read; the last line may lack its newline
unfoldable pub lines_within : List ℕ → ℕ → List Line
lines_within [] budget = []
lines_within (b ∷ bs) budget =
    if budget == 0 then too_long ∷ []
    else if b == 10 then whole [] ∷ lines_within bs (budget - 1)
    else onto b (lines_within bs (budget - 1))

-- how many bytes of an input are read at most
abbrev pub limit : ℕ
limit = 67108864

-- ---- what was read of it

-- What a reader has left, or a writer has taken, before a call and after it, where it tells that.
pub record Stream : Type 0 where
  pub before : Option (List ℕ)
  pub after : Option (List ℕ)

-- a stream with these bytes before and those after
abbrev pub between : Option (List ℕ) → Option (List ℕ) → Stream
between before after = record { before = before; after = after }

-- nothing, or bytes that end with a newline
abbrev pub EndsLine : List ℕ → Type 0
EndsLine bytes = (bytes ≡ []) ⊎ ((front : List ℕ) × (bytes ≡ front ++ 10 ∷ []))

-- one line at most: no newline but at the end
abbrev pub IsOneLine : List ℕ → Type 0
IsOneLine bytes = IsPlain (take (length bytes - 1) bytes)

-- the reader is at the end of its input
abbrev pub MetEnd : Stream → Type 0
MetEnd reader = OnSome reader.before (IsAtEnd reader.after)

-- Whole lines were read, and then one line at most, with its newline or a part of it; and no more than the byte past the limit.
pub record ReadsLines (reader : Stream) : Type 0 where
  pub bytes : List ℕ
  pub last : List ℕ
  pub whole : EndsLine bytes
  pub one_line : IsOneLine last
  pub read : Consumes reader.before reader.after (bytes ++ last)
  pub bound : length (bytes ++ last) ≤ limit + 1

-- the last line was read to its end or to that of the input, or the byte past the limit was read
abbrev pub IsComplete : {reader : Stream} → ReadsLines reader → Type 0
IsComplete {reader} lines = (length (lines.bytes ++ lines.last) ≡ limit + 1) ⊎ (EndsLine lines.last ⊎ MetEnd reader)

-- the last line was broken off: it has no newline, and is not too long
abbrev pub IsBrokenOff : {reader : Stream} → ReadsLines reader → Type 0
IsBrokenOff lines = IsPlain lines.last × (length (lines.bytes ++ lines.last) ≤ limit)

-- ---- one line after another

-- the lines that are left, where these bytes are
abbrev pub lines_left : Lines → List ℕ → List Line
lines_left lines bytes = if lines.at_end then [] else lines_within bytes lines.budget

-- these bytes may come next: none do, once the end was met
abbrev pub MayFollow : Lines → List ℕ → Type 0
MayFollow lines rest = lines.at_end ≡ true → rest ≡ []

-- these bytes end with the newline, and more may come; or the input ended
abbrev pub EndsBy : Stream → List ℕ → Lines → Type 0
EndsBy reader bytes new = (EndsLine bytes × (new.at_end ≡ false)) ⊎ (MetEnd reader × (new.at_end ≡ true))

-- A line was read to its end or to that of the input. It is the first of the lines that were left.
pub record TakesLine (reader : Stream) (old new : Lines) : Type 0 where
  pub bytes : List ℕ
  pub ongoing : old.at_end ≡ false
  pub one_line : IsOneLine bytes
  pub read : Consumes reader.before reader.after bytes
  pub some : 0 < length bytes
  pub plain : IsPlain new.line.items
  pub used : length bytes + new.budget ≡ old.budget
  pub count : new.count ≡ old.count + 1
  pub ended : EndsBy reader bytes new
  pub first : (rest : List ℕ) → MayFollow new rest → lines_left old (bytes ++ rest) ≡ whole new.line.items ∷ lines_left new rest

-- A line was read to the byte past the limit, and no line is left then.
pub record TakesTooLong (reader : Stream) (old new : Lines) : Type 0 where
  pub bytes : List ℕ
  pub ongoing : old.at_end ≡ false
  pub one_line : IsOneLine bytes
  pub read : Consumes reader.before reader.after bytes
  pub full : length bytes ≡ old.budget + 1
  pub count : new.count ≡ old.count + 1
  pub first : (rest : List ℕ) → lines_left old (bytes ++ rest) ≡ too_long ∷ []

-- No line is left: the input is at its end, unless that was met before.
pub record TakesNone (reader : Stream) (old new : Lines) : Type 0 where
  pub read : Consumes reader.before reader.after []
  pub count : new.count ≡ old.count
  pub ended : old.at_end ≡ false → MetEnd reader

-- A part of a line was read, and then an error was met.
pub record BreaksOff (reader : Stream) (old : Lines) : Type 0 where
  pub bytes : List ℕ
  pub ongoing : old.at_end ≡ false
  pub plain : IsPlain bytes
  pub read : Consumes reader.before reader.after bytes
  pub fits : length bytes ≤ old.budget

-- what came next
abbrev pub Takes : Stream → Lines → Lines → Next → Type 0
Takes reader old new next.Line = TakesLine reader old new
Takes reader old new next.TooLong = TakesTooLong reader old new
Takes reader old new next.End = TakesNone reader old new

-- Nothing was read, since no whole line is shown, and the same lines are left.
pub record KeepsPlace (reader : Stream) (old new : Lines) : Type 0 where
  pub read : Consumes reader.before reader.after []
  pub count : new.count ≡ old.count
  pub budget : new.budget ≡ old.budget
  pub at_end : new.at_end ≡ old.at_end
  pub shown : old.at_end ≡ false → new.shows_more ≡ false

-- a line was taken of what was shown, or nothing was
abbrev pub TakesAtHand : Stream → Lines → Lines → Bool → Type 0
TakesAtHand reader old new true = (old.shows_more ≡ true) × TakesLine reader old new
TakesAtHand reader old new false = KeepsPlace reader old new

-- An error was met before anything was read.
pub record FailsAtOnce (reader : Stream) (old : Lines) : Type 0 where
  pub ongoing : old.at_end ≡ false
  pub read : Consumes reader.before reader.after []
