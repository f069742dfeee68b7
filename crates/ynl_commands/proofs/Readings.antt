-- What an input comes to, a line after another.
use Rattle.std.proofs.Common.{◌≡◌, ◌≢◌, inl, inr, ℕ, List, [], ◌∷◌, ◌++◌, Bool, true, false, subst, Option, Some, None, IfNone, Result, Ok, Err, refl, sym, ap, ◌∙◌, arith, append_assoc, append-nil, length-append}
use Rattle.std.proofs.lemmas.List.Elements.{All-nil}
use Rattle.std.specs.Io.KnownBytes.{Consumes}
use Rattle.std.proofs.KnownBytes.{Consumes-nil, Consumes-trans}
use Rattle.ynl_commands.specs.declared.lines_in.Lines.{Lines}
use Rattle.ynl_commands.specs.declared.lines_in.ReadFault.{ReadFault}
use Rattle.ynl_commands.specs.declared.lines_in.ReadFault.TheVariants as reading
use Rattle.ynl_commands.specs.declared.run.ToolFault.{ToolFault}
use Rattle.ynl_commands.specs.declared.run.ToolFault.TheVariants.{Read, Write, NoMemory, Unclosed}
use Rattle.ynl_commands.specs.Input.{Line, whole, lines_within, limit, Stream, between, MetEnd, EndsBy, ReadsLines, IsComplete, lines_left, MayFollow, TakesLine, TakesTooLong, TakesNone, BreaksOff}
use Rattle.ynl_commands.specs.Lines.{tool_fault}
use Rattle.ynl_commands.specs.Readings.{Way, Reading, come_to, unless_faulty, read_on, reading_of, ReadsTo, ReadsSome}
use Rattle.ynl_commands.proofs.Inputs.{SoFar, at_start, follows, reads, used_before, took_whole, took_last, line_met_end, line_complete, none_met_end, still_at_end, left_none, of_input, one_part, both}

-- a fault of reading, or of memory
abbrev pub OfReading : ToolFault → Type 0
OfReading Read = Unit {0}
OfReading NoMemory = Unit {0}
OfReading Write = ⊥
OfReading Unclosed = ⊥

-- These lines were read, and made this; no line before the last one has a fault.
pub record ReadSoFar {S F : Type 0} (w : Way S F) (reader : Stream) (l : Lines) (made : S) : Type 0 where
  pub done : List Line
  pub far : SoFar reader l done
  pub good : (reading_of w far.bytes).fault ≡ None
  pub goes_on : (more : List Line) → read_on w w.start 0 (done ++ more) ≡ read_on w made l.count more

-- no byte comes to what is there at first
pub empty : {S F : Type 0} (w : Way S F) → reading_of w [] ≡ come_to w.start 0 None
unfolding read_on lines_within
empty w = refl

-- before the first line
pub at_first : {S F : Type 0} (w : Way S F) (a : Option (List ℕ)) (l : Lines) → l.count ≡ 0 → l.budget ≡ limit → l.at_end ≡ false → ReadSoFar w (between a a) l w.start
at_first {S = S} {F = F} w a l count budget ongoing = record {
  done = [];
  far = at_start a l count budget ongoing (Consumes-nil a);
  good = ap (λ (r : Reading S F). r.fault) (empty w);
  goes_on = λ more. ap (λ n. read_on w w.start n more) (sym count);
}

-- this comes of it, whatever may follow
read_to : {S F : Type 0} (w : Way S F) (a d : Option (List ℕ)) (r : Reading S F) (lines : ReadsLines (between a d)) (closed : Bool) → (reading_of w lines.bytes).fault ≡ None → IsComplete lines
    → IfNone r.fault (MetEnd (between a d)) → (closed ≡ true → MetEnd (between a d)) → ((rest : List ℕ) → (closed ≡ true → rest ≡ []) → r ≡ reading_of w ((lines.bytes ++ lines.last) ++ rest))
    → ReadsTo w (between a d) r
read_to w a d r lines closed good complete ended met all = record {
  lines = lines;
  good = good;
  complete = complete;
  ended = ended;
  is = all [] (λ _. refl) ∙ ap (reading_of w) (append-nil (lines.bytes ++ lines.last));
  input = of_input a d (lines.bytes ++ lines.last) closed (λ input. r ≡ reading_of w input) lines.read met all;
}

module _ {S F : Type 0} (w : Way S F) (a b d : Option (List ℕ)) (l l' : Lines) (made : S) (so : ReadSoFar w (between a b) l made) where
  pub reads_on : (more rest : List ℕ) → l.at_end ≡ false → reading_of w ((so.far.bytes ++ more) ++ rest) ≡ read_on w made l.count (lines_left l (more ++ rest))
  reads_on more rest ongoing = ap (read_on w w.start 0) (follows a b d l l' so.done so.far more rest ongoing) ∙ so.goes_on (lines_left l (more ++ rest))

  -- what the whole lines came to that were read
  pub here : l.at_end ≡ false → reading_of w so.far.bytes ≡ come_to made l.count None
  unfolding read_on
  here ongoing =
      ap (reading_of w) (sym (append-nil (so.far.bytes ++ []) ∙ append-nil so.far.bytes))
      ∙ reads_on [] [] ongoing
      ∙ ap (read_on w made l.count) (left_none l)

  -- the reader failed in a line
  abbrev pub reading_failed : (e : ToolFault) → OfReading e → BreaksOff (between b d) l → ReadsSome w (between a d) e
  reading_failed e other t = record {
    lines = reads a b d l l' so.done so.far t.bytes t.ongoing t.read (one_part t.bytes t.plain) (let fits = t.fits in omega (arith, fits));
    good = so.good;
    reading = λ _. (t.plain, let fits = t.fits in let used = used_before a b d l l' so.done so.far t.ongoing in omega (arith, fits, used, length-append so.far.bytes t.bytes));
    writing = λ wrote. absurd (subst OfReading wrote other);
  }

  -- the byte past the limit
  module _ (t : TakesTooLong (between b d) l l') where
    abbrev pub long_reads : ReadsLines (between a d)
    long_reads = reads a b d l l' so.done so.far t.bytes t.ongoing t.read t.one_line (let full = t.full in omega (arith, full))

    pub long_complete : IsComplete long_reads
    long_complete = inl (let full = t.full in let used = used_before a b d l l' so.done so.far t.ongoing in omega (arith, full, used, length-append so.far.bytes t.bytes))

    abbrev pub long_failed : (e : ToolFault) → e ≢ Read → ReadsSome w (between a d) e
    long_failed e other = record { lines = long_reads; good = so.good; reading = λ bad. absurd (other bad); writing = λ _. long_complete }

    pub then_long : (rest : List ℕ) → reading_of w ((so.far.bytes ++ t.bytes) ++ rest) ≡ come_to made l'.count (Some w.size)
    unfolding read_on
    then_long rest =
        reads_on t.bytes rest t.ongoing
        ∙ ap (read_on w made l.count) (t.first rest)
        ∙ ap (λ n. come_to made n (Some w.size)) (sym t.count)

    pub ends_too_long : ReadsTo w (between a d) (come_to made l'.count (Some w.size))
    ends_too_long = read_to w a d _ long_reads false so.good long_complete tt (λ no. both false no refl) (λ rest _. sym (then_long rest))

  -- a line
  module _ (t : TakesLine (between b d) l l') where
    abbrev pub line_reads : ReadsLines (between a d)
    line_reads = reads a b d l l' so.done so.far t.bytes t.ongoing t.read t.one_line (let used = t.used in omega (arith, used))

    -- of which nothing came, or not all
    abbrev pub line_failed : (e : ToolFault) → e ≢ Read → ReadsSome w (between a d) e
    line_failed e other = record { lines = line_reads; good = so.good; reading = λ bad. absurd (other bad); writing = λ _. line_complete a b d l l' so.done so.far t }

    -- it goes on with what the line made, or ends with its fault
    after_line : (r : Result S F) → w.add made l'.line.items ≡ r → (more : List Line) → read_on w made l.count (whole l'.line.items ∷ more) ≡ unless_faulty (λ made'. read_on w made' l'.count more) made l'.count r
    unfolding read_on
    after_line r is more =
        ap (λ n. unless_faulty (λ made'. read_on w made' n more) made n (w.add made l'.line.items)) (sym t.count)
        ∙ ap (unless_faulty (λ made'. read_on w made' l'.count more) made l'.count) is

    module _ (next : S) (fine : w.add made l'.line.items ≡ Ok next) where
      pub then_line : (rest : List ℕ) → MayFollow l' rest → reading_of w ((so.far.bytes ++ t.bytes) ++ rest) ≡ read_on w next l'.count (lines_left l' rest)
      then_line rest may =
          reads_on t.bytes rest t.ongoing ∙ ap (read_on w made l.count) (t.first rest may) ∙ after_line (Ok next) fine (lines_left l' rest)

      good_here : (reading_of w (so.far.bytes ++ t.bytes)).fault ≡ None
      unfolding read_on
      good_here =
          ap (λ k. (reading_of w k).fault) (sym (append-nil (so.far.bytes ++ t.bytes)))
          ∙ ap (λ (r : Reading S F). r.fault) (then_line [] (λ _. refl))
          ∙ ap (λ ls. (read_on w next l'.count ls).fault) (left_none l')

      goes_on_more : (more : List Line) → read_on w w.start 0 ((so.done ++ whole l'.line.items ∷ []) ++ more) ≡ read_on w next l'.count more
      goes_on_more more = ap (read_on w w.start 0) (append_assoc so.done (whole l'.line.items ∷ []) more) ∙ so.goes_on (whole l'.line.items ∷ more) ∙ after_line (Ok next) fine more

      took_by : EndsBy (between b d) t.bytes l' → ReadSoFar w (between a d) l' next
      took_by (inl h) = record {
        done = so.done ++ whole l'.line.items ∷ [];
        far = took_whole a b d l l' so.done so.far t h.0 h.1;
        good = good_here;
        goes_on = goes_on_more;
      }
      took_by (inr h) = record {
        done = so.done ++ whole l'.line.items ∷ [];
        far = took_last a b d l l' so.done so.far t h.0 h.1;
        good = so.good;
        goes_on = goes_on_more;
      }

      pub took : ReadSoFar w (between a d) l' next
      took = took_by t.ended

    module _ (f : F) (bad : w.add made l'.line.items ≡ Err f) where
      -- a line with a fault, whatever may follow
      pub then_fault : (rest : List ℕ) → MayFollow l' rest → reading_of w ((so.far.bytes ++ t.bytes) ++ rest) ≡ come_to made l'.count (Some f)
      then_fault rest may =
          reads_on t.bytes rest t.ongoing ∙ ap (read_on w made l.count) (t.first rest may) ∙ after_line (Err f) bad (lines_left l' rest)

      pub ends_faulty : ReadsTo w (between a d) (come_to made l'.count (Some f))
      ends_faulty = read_to w a d _ line_reads l'.at_end so.good (line_complete a b d l l' so.done so.far t) tt (line_met_end a b d l l' so.done so.far t) (λ rest may. sym (then_fault rest may))

  -- what may follow, where no line was begun
  pub reads_rest : (rest : List ℕ) → MayFollow l rest → reading_of w ((so.far.bytes ++ so.far.last) ++ rest) ≡ read_on w made l.count (lines_left l rest)
  reads_rest rest may = ap (read_on w w.start 0) (so.far.goes_on rest may) ∙ so.goes_on (lines_left l rest)

  -- nothing more was read
  module _ (nothing : Consumes b d []) where
    pub all_read : Consumes a d (so.far.bytes ++ so.far.last)
    all_read = subst (Consumes a d) (append-nil (so.far.bytes ++ so.far.last)) (Consumes-trans a b d (so.far.bytes ++ so.far.last) [] so.far.read nothing)

    abbrev pub none_reads : ReadsLines (between a d)
    none_reads = record {
      bytes = so.far.bytes;
      last = so.far.last;
      whole = so.far.whole;
      one_line = so.far.one_line;
      read = all_read;
      bound = let used = so.far.used in omega (arith, used);
    }

    pub still_met_end : l.at_end ≡ true → MetEnd (between a d)
    still_met_end closed = still_at_end a b d (so.far.bytes ++ so.far.last) so.far.read (so.far.ended closed) nothing

    -- the last line had its newline, or the input ended with it
    pub none_complete : IsComplete none_reads
    none_complete = by l.at_end refl
      where
        by : (closed : Bool) → l.at_end ≡ closed → IsComplete none_reads
        by true closed = inr (inr (still_met_end closed))
        by false ongoing = inr (inl (inl (so.far.fresh ongoing)))

  -- the end
  module _ (t : TakesNone (between b d) l l') where
    then_none : (rest : List ℕ) → (true ≡ true → rest ≡ []) → reading_of w ((so.far.bytes ++ so.far.last) ++ rest) ≡ come_to made l'.count None
    unfolding read_on
    then_none rest may =
        ap (λ k. reading_of w ((so.far.bytes ++ so.far.last) ++ k)) (may refl)
        ∙ reads_rest [] (λ _. refl)
        ∙ ap (read_on w made l.count) (left_none l)
        ∙ ap (λ n. come_to made n None) (sym t.count)

    pub ends_well : ReadsTo w (between a d) (come_to made l'.count None)
    ends_well =
        let met = none_met_end a b d l l' so.done so.far t in
        read_to w a d _ (none_reads t.read) true so.good (inr (inr met)) met (λ _. met) (λ rest may. sym (then_none rest may))

-- ---- faults of reading

-- nothing was read
abbrev pub nothing_read : {S F : Type 0} (w : Way S F) (a : Option (List ℕ)) (e : ToolFault) → ReadsSome w (between a a) e
nothing_read {S = S} {F = F} w a e = record {
  lines = record { bytes = []; last = []; whole = inl refl; one_line = one_part [] (All-nil (λ x. x ≢ 10)); read = Consumes-nil a; bound = omega arith };
  good = ap (λ (r : Reading S F). r.fault) (empty w);
  reading = λ _. (All-nil (λ x. x ≢ 10), omega arith);
  writing = λ _. inr (inl (inl refl));
}

pub of_reading : (r : ReadFault) → OfReading (tool_fault r)
of_reading reading.Read = tt
of_reading reading.NoMemory = tt

pub no_read : (r : ReadFault) → r ≡ reading.NoMemory → tool_fault r ≢ Read
no_read reading.Read is e = cc
no_read reading.NoMemory is e = cc
