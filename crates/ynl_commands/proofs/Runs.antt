-- The run of an input, a line after another, and what it writes.
use Rattle.std.proofs.Common.{◌≡◌, ◌≢◌, ℕ, List, [], ◌∷◌, ◌++◌, length, Bool, true, false, Option, Some, None, IfSome, Result, Ok, Err, subst, refl, sym, ap, ◌∙◌, arith, append_assoc, append-nil}
use Rattle.std.specs.Prelude.{IfErr, option_map}
use Rattle.std.specs.List.{concat}
use Rattle.std.proofs.Math.Seq.{take-length}
use Rattle.std.proofs.lemmas.List.Folds.{concat-append}
use Rattle.std.specs.Io.KnownBytes.{Appends, Consumes}
use Rattle.std.proofs.KnownBytes.{Appends-nil, Appends-trans}
use Rattle.ynl_model.specs.declared.events.Event.{Event}
use Rattle.ynl_model.specs.Queues.{Config}
use Rattle.ynl_model.specs.Cluster.{State}
use Rattle.ynl_model.specs.Events.{step, replies, after}
use Rattle.ynl_core.specs.World.{World}
use Rattle.ynl_lines.specs.declared.faults.LineFault.{LineFault}
use Rattle.ynl_lines.specs.declared.faults.InputFault.TheVariants.{Script as InScript}
use Rattle.ynl_lines.specs.declared.faults.LineFault.TheVariants as fault
use Rattle.ynl_lines.specs.Writing.{reply_text, fault_text}
use Rattle.ynl_commands.specs.declared.lines_in.Lines.{Lines}
use Rattle.ynl_commands.specs.declared.run.ToolFault.{ToolFault}
use Rattle.ynl_commands.specs.declared.run.ToolFault.TheVariants.{Read, Write, NoMemory, Unclosed}
use Rattle.ynl_commands.specs.declared.run.Summary.{Summary}
use Rattle.ynl_commands.specs.Input.{Stream, between, MetEnd, lines_left, TakesLine, TakesTooLong, TakesNone, BreaksOff}
use Rattle.ynl_commands.specs.Lines.{AppendsFront, AppendsPart}
use Rattle.ynl_commands.specs.Readings.{come_to, ReadsTo}
use Rattle.ynl_commands.specs.Script.{part, Script, script_way, script_of}
use Rattle.ynl_commands.specs.Run.{line_of, reply_lines, replies_text, fault_lines, faulty, answers_to, run_of}
use Rattle.ynl_commands.specs.Running.{LeavesMore, Writes, IsRunOf, RunsTo, Stops, Runs}
use Rattle.ynl_commands.proofs.Fronts.{front_of_more, part_after, part_of_more}
use Rattle.ynl_commands.proofs.Inputs.{of_input, line_met_end, both}
use Rattle.ynl_commands.proofs.Readings.{OfReading, ReadSoFar, empty, nothing_read, reads_on, here, then_long, then_fault, reading_failed, long_reads, long_failed, line_reads, line_failed, ends_too_long, ends_faulty, ends_well}
use Rattle.ynl_commands.proofs.Scripts.{has_fault, after_events, script, as_after}

-- ---- the text of a run

replies_of_more : (c : Config) (s : State) (es fs : List Event) → reply_lines (replies c s (es ++ fs)) ≡ reply_lines (replies c s es) ++ reply_lines (replies c (after c s es) fs)
replies_of_more c s [] fs = refl
replies_of_more c s (e ∷ es) fs = ap (λ ls. line_of (reply_text (step c s e).reply) ∷ ls) (replies_of_more c (step c s e).state es fs)

-- the text of the replies to some events, and then to more
pub text_of_more : (c : Config) (s : State) (es fs : List Event) → replies_text c s (es ++ fs) ≡ replies_text c s es ++ replies_text c (after c s es) fs
text_of_more c s es fs = ap concat (replies_of_more c s es fs) ∙ concat-append (reply_lines (replies c s es)) (reply_lines (replies c (after c s es) fs))

pub after_more : (c : Config) (s : State) (es fs : List Event) → after c s (es ++ fs) ≡ after c (after c s es) fs
after_more c s [] fs = refl
after_more c s (e ∷ es) fs = after_more c (step c s e).state es fs

-- what is answered to a script that goes on
pub answers_after : (c : Config) (s : State) (es : List Event) (rest : Script) → (answers_to c s (after_events es rest)).text ≡ replies_text c s es ++ (answers_to c (after c s es) rest).text
answers_after c s es rest =
    let more = reply_lines (replies c (after c s es) rest.made) in
    ap (λ ls. concat (ls ++ fault_lines rest)) (replies_of_more c s es rest.made)
    ∙ ap concat (append_assoc (reply_lines (replies c s es)) more (fault_lines rest))
    ∙ concat-append (reply_lines (replies c s es)) (more ++ fault_lines rest)

-- of a script without a fault, the text of the replies
pub text_of_good : (c : Config) (s : State) (es : List Event) (n : ℕ) → (answers_to c s (come_to es n None)).text ≡ replies_text c s es
text_of_good c s es n = ap concat (append-nil (reply_lines (replies c s es)))

-- and else the line of the fault after it
pub text_of_faulty : (c : Config) (s : State) (es : List Event) (n : ℕ) (f : LineFault) → (answers_to c s (come_to es n (Some f))).text ≡ replies_text c s es ++ (faulty (InScript f) n).text
text_of_faulty c s es n f =
    concat-append (reply_lines (replies c s es)) (line_of (fault_text (InScript f) n) ∷ []) ∙ ap (λ l. replies_text c s es ++ l) (append-nil (line_of (fault_text (InScript f) n)))

-- ---- what was written

-- what holds of an input, and what follows from it
pub of_some : (a : Option (List ℕ)) (P Q : List ℕ → Type 0) → ((x : List ℕ) → P x → Q x) → IfSome a P → IfSome a Q
of_some None P Q f h = tt
of_some (Some x) P Q f h = f x h

-- what was written is a front
front_of_text : (w v : Option (List ℕ)) (text front rest : List ℕ) → Appends w v front → text ≡ front ++ rest → AppendsFront w v text
front_of_text w v text front rest written is =
    subst (AppendsFront w v) (sym is)
    (front_of_more w v front rest (record { count = length front; bound = omega arith; appended = subst (Appends w v) (sym (take-length front)) written }))

-- ---- a run that came to an end

-- the text of a script was written, and its lines and its fault are told
pub runs_to : (reader writer : Stream) (c : Config) (s : State) (summary : Summary) (o : Script) → ReadsTo script_way reader o → Appends writer.before writer.after (answers_to c s o).text → summary.lines ≡ o.lines → summary.fault ≡ option_map InScript o.fault
    → RunsTo reader writer c s summary
runs_to reader writer c s summary o read written lines fault =
    let ran : (input : List ℕ) → o ≡ script_of input → IsRunOf writer c s summary input = λ input is. record {
      written = subst (λ k. Appends writer.before writer.after (answers_to c s k).text) is written;
      lines = lines ∙ ap (λ (k : Script). k.lines) is;
      fault = fault ∙ ap (λ (k : Script). option_map InScript k.fault) is;
    } in
    record { script = o; read = read; ran = ran (read.lines.bytes ++ read.lines.last) read.is; input = of_some reader.before (λ input. o ≡ script_of input) (IsRunOf writer c s summary) ran read.input }

-- ---- a run so far

-- The lines that were read were answered, all of it is written, and the cluster is as they left it.
pub record RunSoFar (reader writer : Stream) (c : Config) (s : State) (l : Lines) (core : World) : Type 0 where
  pub events : List Event
  pub read : ReadSoFar script_way reader l events
  pub written : Appends writer.before writer.after (replies_text c s events)
  pub now : core ≡ record { config = c; state = after c s events }

module _ (a b d w v u : Option (List ℕ)) (c : Config) (s : State) (l l' : Lines) (core : World) (so : RunSoFar (between a b) (between w v) c s l core) where
  -- the text of what was read before
  text_here : l.at_end ≡ false → (run_of c s so.read.far.bytes).text ≡ replies_text c s so.events
  text_here ongoing = ap (λ k. (answers_to c s k).text) (here script_way a b d l l' so.events so.read ongoing) ∙ text_of_good c s so.events l.count

  -- and of what may follow
  text_follows : (more rest : List ℕ) → l.at_end ≡ false → (run_of c s ((so.read.far.bytes ++ more) ++ rest)).text ≡ replies_text c s so.events ++ (answers_to c (after c s so.events) (script (lines_left l (more ++ rest)) l.count)).text
  text_follows more rest ongoing =
      ap (λ k. (answers_to c s k).text) (reads_on script_way a b d l l' so.events so.read more rest ongoing ∙ as_after (lines_left l (more ++ rest)) so.events l.count)
      ∙ answers_after c s so.events (script (lines_left l (more ++ rest)) l.count)

  -- nothing more was written
  still_written : Appends v u [] → Appends w u (replies_text c s so.events)
  still_written nothing = subst (Appends w u) (append-nil (replies_text c s so.events)) (Appends-trans w v u (replies_text c s so.events) [] so.written nothing)

  -- an error after which nothing was written of the line
  stops_before : (more : List ℕ) (e : ToolFault) → l.at_end ≡ false → OfReading e → Consumes a d (so.read.far.bytes ++ more) → Appends v u []
      → LeavesMore (between w u) (run_of c s so.read.far.bytes).text (run_of c s (so.read.far.bytes ++ more)).text e × IfSome a (λ input. AppendsFront w u (run_of c s input).text)
  stops_before more e ongoing other read nothing = (
    left e other,
    of_input a d (so.read.far.bytes ++ more) false (λ input. AppendsFront w u (run_of c s input).text) read (λ no. both false no refl)
        (λ rest _. front_of_text w u _ (replies_text c s so.events) _ (still_written nothing) (text_follows more rest ongoing)),
  )
    where
      left : (e : ToolFault) → OfReading e → LeavesMore (between w u) (run_of c s so.read.far.bytes).text (run_of c s (so.read.far.bytes ++ more)).text e
      left Read other = subst (Appends w u) (sym (text_here ongoing)) (still_written nothing)
      left NoMemory other = subst (Appends w u) (sym (text_here ongoing)) (still_written nothing)
      left Write other = absurd other
      left Unclosed other = absurd other

  -- a fault of the writer, in a text that is written next, whatever may follow
  stops_writing : (more told : List ℕ) (closed : Bool) → Consumes a d (so.read.far.bytes ++ more) → (closed ≡ true → MetEnd (between a d)) → AppendsPart v u told
      → ((rest : List ℕ) → (closed ≡ true → rest ≡ []) → (x : List ℕ) × ((run_of c s ((so.read.far.bytes ++ more) ++ rest)).text ≡ replies_text c s so.events ++ (told ++ x)))
      → AppendsPart w u (run_of c s (so.read.far.bytes ++ more)).text × IfSome a (λ input. AppendsFront w u (run_of c s input).text)
  stops_writing more told closed read met part follows =
      let written : (input x : List ℕ) → (run_of c s input).text ≡ replies_text c s so.events ++ (told ++ x) → AppendsPart w u (run_of c s input).text =
      λ input x is. subst (AppendsPart w u) (sym is) (part_after w v u (replies_text c s so.events) (told ++ x) so.written (part_of_more v u told x part)) in
      let all = follows [] (λ _. refl) in (
        written (so.read.far.bytes ++ more) all.0 (ap (λ k. (run_of c s k).text) (sym (append-nil (so.read.far.bytes ++ more))) ∙ all.1),
        of_input a d (so.read.far.bytes ++ more) closed (λ input. AppendsFront w u (run_of c s input).text) read met (λ rest may. let o = follows rest may in (written _ o.0 o.1).front),
      )

  -- the reader failed in a line
  pub reading_stops : (e : ToolFault) → OfReading e → BreaksOff (between b d) l → Appends v u [] → Stops (between a d) (between w u) c s e
  reading_stops e other t nothing =
      let read = reading_failed script_way a b d l l' so.events so.read e other t in
      let left = stops_before t.bytes e t.ongoing other read.lines.read nothing in
      record { read = reading_failed script_way a b d l l' so.events so.read e other t; written = left.0; front = left.1 }

  -- the fault of a line is reported, whatever may follow
  reported : (more : List ℕ) (f : LineFault) (closed : Bool) → l.at_end ≡ false → Consumes a d (so.read.far.bytes ++ more) → (closed ≡ true → MetEnd (between a d))
      → ((rest : List ℕ) → (closed ≡ true → rest ≡ []) → script_of ((so.read.far.bytes ++ more) ++ rest) ≡ come_to so.events l'.count (Some f))
      → ReadsTo script_way (between a d) (come_to so.events l'.count (Some f))
      → ((e : ToolFault) → e ≢ Read → LeavesMore (between w u) (run_of c s so.read.far.bytes).text (run_of c s (so.read.far.bytes ++ more)).text e × IfSome a (λ input. AppendsFront w u (run_of c s input).text) → Stops (between a d) (between w u) c s e)
      → (r : Result Summary ToolFault) → Writes v u (faulty (InScript f) l'.count) r → IfErr r (λ e. e ≢ Read) → Runs (between a d) (between w u) c s r
  reported more f closed ongoing read met follows whole stops (Ok summary) wrote other =
      runs_to (between a d) (between w u) c s summary _ whole
      (subst (Appends w u) (sym (text_of_faulty c s so.events l'.count f)) (Appends-trans w v u (replies_text c s so.events) (faulty (InScript f) l'.count).text so.written wrote.2)) wrote.0 wrote.1
  reported more f closed ongoing read met follows whole stops (Err Read) wrote other = absurd (other refl)
  reported more f closed ongoing read met follows whole stops (Err Unclosed) wrote other = absurd wrote
  reported more f closed ongoing read met follows whole stops (Err NoMemory) wrote other = stops NoMemory other (stops_before more NoMemory ongoing tt read wrote)
  reported more f closed ongoing read met follows whole stops (Err Write) wrote other =
      stops Write other
      (stops_writing more (faulty (InScript f) l'.count).text closed read met wrote
      (λ rest may. ([], ap (λ k. (answers_to c s k).text) (follows rest may) ∙ text_of_faulty c s so.events l'.count f ∙ ap (λ k. replies_text c s so.events ++ k) (sym (append-nil (faulty (InScript f) l'.count).text)))))

  -- of a line with the byte past the limit
  pub long_reported : TakesTooLong (between b d) l l' → (r : Result Summary ToolFault) → Writes v u (faulty (InScript fault.Size) l'.count) r → IfErr r (λ e. e ≢ Read) → Runs (between a d) (between w u) c s r
  long_reported t =
      reported t.bytes fault.Size false t.ongoing (long_reads script_way a b d l l' so.events so.read t).read (λ no. both false no refl) (λ rest _. then_long script_way a b d l l' so.events so.read t rest) (ends_too_long script_way a b d l l' so.events so.read t)
      (λ e other left. record { read = long_failed script_way a b d l l' so.events so.read t e other; written = left.0; front = left.1 })

  -- the input is at its end
  pub ends : TakesNone (between b d) l l' → (summary : Summary) → summary.lines ≡ l'.count → summary.fault ≡ None → RunsTo (between a d) (between w v) c s summary
  ends t summary lines fault =
      runs_to (between a d) (between w v) c s summary _ (ends_well script_way a b d l l' so.events so.read t) (subst (Appends w v) (sym (text_of_good c s so.events l'.count)) so.written) lines fault

  module _ (t : TakesLine (between b d) l l') where
    -- a line with a fault
    pub fault_reported : (f : LineFault) → (part l'.line.items).fault ≡ Some f → (r : Result Summary ToolFault) → Writes v u (faulty (InScript f) l'.count) r → IfErr r (λ e. e ≢ Read) → Runs (between a d) (between w u) c s r
    fault_reported f bad =
        let adds = has_fault so.events l'.line.items f bad in
        reported t.bytes f l'.at_end t.ongoing (line_reads script_way a b d l l' so.events so.read t).read (line_met_end a b d l l' so.read.done so.read.far t) (then_fault script_way a b d l l' so.events so.read t f adds) (ends_faulty script_way a b d l l' so.events so.read t f adds)
        (λ e other left. record { read = line_failed script_way a b d l l' so.events so.read t e other; written = left.0; front = left.1 })

    -- a line was read, and there was no memory for its reply
    pub no_reply : Appends v u [] → Stops (between a d) (between w u) c s NoMemory
    no_reply nothing =
        let left = stops_before t.bytes NoMemory t.ongoing tt (line_reads script_way a b d l l' so.events so.read t).read nothing in
        record { read = line_failed script_way a b d l l' so.events so.read t NoMemory (λ e. cc); written = left.0; front = left.1 }

-- ---- a run that stops before it reads anything

-- what holds of any input
for_any : (a : Option (List ℕ)) (P : List ℕ → Type 0) → ((x : List ℕ) → P x) → IfSome a P
for_any None P h = tt
for_any (Some x) P h = h x

pub stops_at_once : (a w : Option (List ℕ)) (c : Config) (s : State) → Stops (between a a) (between w w) c s NoMemory
stops_at_once a w c s = record {
  read = nothing_read script_way a NoMemory;
  written = subst (Appends w w) (sym (ap (λ k. (answers_to c s k).text) (empty script_way))) (Appends-nil w);
  front = for_any a (λ input. AppendsFront w w (run_of c s input).text) (λ input. record { count = 0; bound = omega arith; appended = Appends-nil w });
}
