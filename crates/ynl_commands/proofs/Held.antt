-- The run of an input, a line after another, while text of it is held back.
use Rattle.std.proofs.Common.{◌≡◌, inl, inr, ℕ, List, [], ◌++◌, Bool, true, false, Option, None, Err, subst, refl, sym, ap, ◌∙◌, append_assoc, append-nil}
use Rattle.std.specs.Io.KnownBytes.{Appends, Consumes}
use Rattle.std.proofs.KnownBytes.{Appends-nil, Appends-trans}
use Rattle.ynl_model.specs.declared.events.Event.{Event}
use Rattle.ynl_model.specs.Queues.{Config}
use Rattle.ynl_model.specs.Cluster.{State}
use Rattle.ynl_model.specs.Events.{after}
use Rattle.ynl_core.specs.World.{World}
use Rattle.ynl_commands.specs.declared.lines_in.Lines.{Lines}
use Rattle.ynl_commands.specs.declared.run.ToolFault.{ToolFault}
use Rattle.ynl_commands.specs.declared.run.ToolFault.TheVariants.{Read, Write, NoMemory, Unclosed}
use Rattle.ynl_commands.specs.Input.{Stream, between, limit, MetEnd, ReadsLines, IsComplete, lines_left, TakesLine}
use Rattle.ynl_commands.specs.Lines.{AppendsFront, AppendsPart}
use Rattle.ynl_commands.specs.Readings.{reading_of}
use Rattle.ynl_commands.specs.Script.{part, script_way}
use Rattle.ynl_commands.specs.Run.{replies_text, answers_to, run_of}
use Rattle.ynl_commands.specs.Running.{IsAnswered, HoldsOn, GoesOn, Stops}
use Rattle.ynl_commands.proofs.Fronts.{part_after, part_of_more}
use Rattle.ynl_commands.proofs.Inputs.{of_input, line_met_end, line_complete}
use Rattle.ynl_commands.proofs.Readings.{ReadSoFar, at_first, reads_on, reads_rest, none_reads, none_complete, still_met_end, line_reads, took}
use Rattle.ynl_commands.proofs.Scripts.{adds_events, script, as_after}
use Rattle.ynl_commands.proofs.Runs.{RunSoFar, reading_stops, text_of_more, after_more, answers_after}

-- The lines that were read were answered: what is written, and then what is held back, is the text of it.
pub record HeldSoFar (reader writer : Stream) (c : Config) (s : State) (l : Lines) (core : World) (held : List ℕ) : Type 0 where
  pub events : List Event
  pub read : ReadSoFar script_way reader l events
  pub sent : List ℕ
  pub written : Appends writer.before writer.after sent
  pub all : sent ++ held ≡ replies_text c s events
  pub now : core ≡ record { config = c; state = after c s events }

pub held_at_start : (a w : Option (List ℕ)) (core : World) (l : Lines) (held : List ℕ) → l.count ≡ 0 → l.budget ≡ limit → l.at_end ≡ false → held ≡ [] → HeldSoFar (between a a) (between w w) core.config core.state l core held
held_at_start a w core l held count budget ongoing none = record {
  events = [];
  read = at_first script_way a l count budget ongoing;
  sent = [];
  written = Appends-nil w;
  all = none;
  now = refl;
}

module _ (a b d w v u : Option (List ℕ)) (c : Config) (s : State) (l l' : Lines) (core : World) (held : List ℕ) (so : HeldSoFar (between a b) (between w v) c s l core held) where
  -- the text that was held back is written
  pub released : Appends v u held → RunSoFar (between a b) (between w u) c s l core
  released wrote = record {
    events = so.events;
    read = so.read;
    written = subst (Appends w u) so.all (Appends-trans w v u so.sent held so.written wrote);
    now = so.now;
  }

  -- it is as it was, or it is written
  pub holds_on : (kept : List ℕ) → HoldsOn (between v u) l held kept → HeldSoFar (between a b) (between w u) c s l core kept
  holds_on kept (inl h) = record {
    events = so.events;
    read = so.read;
    sent = so.sent;
    written = subst (λ k. Appends w k so.sent) (sym h.0) so.written;
    all = ap (λ k. so.sent ++ k) h.1 ∙ so.all;
    now = so.now;
  }
  holds_on kept (inr h) = record {
    events = so.events;
    read = so.read;
    sent = so.sent ++ held;
    written = Appends-trans w v u so.sent held so.written h.0;
    all = ap (λ k. (so.sent ++ held) ++ k) h.1 ∙ append-nil (so.sent ++ held) ∙ so.all;
    now = so.now;
  }

  -- a fault of the writer in it, whatever may follow what was read
  stops_in : (lines : ReadsLines (between a d)) (closed : Bool) → (reading_of script_way lines.bytes).fault ≡ None → IsComplete lines → (closed ≡ true → MetEnd (between a d)) → AppendsPart v u held
      → ((rest : List ℕ) → (closed ≡ true → rest ≡ []) → (x : List ℕ) × ((run_of c s ((lines.bytes ++ lines.last) ++ rest)).text ≡ replies_text c s so.events ++ x))
      → Stops (between a d) (between w u) c s Write
  stops_in lines closed good complete met wrote follows =
      let text = replies_text c s so.events in
      let some : AppendsPart w u text = subst (AppendsPart w u) so.all (part_after w v u so.sent held so.written wrote) in
      let written : (input x : List ℕ) → (run_of c s input).text ≡ text ++ x → AppendsPart w u (run_of c s input).text =
      λ input x is. subst (AppendsPart w u) (sym is) (part_of_more w u text x some) in
      let all = follows [] (λ _. refl) in
      record {
        read = record { lines = lines; good = good; reading = λ bad. absurd (let no : Write ≡ Read = bad in cc); writing = λ _. complete };
        written = written (lines.bytes ++ lines.last) all.0 (ap (λ k. (run_of c s k).text) (sym (append-nil (lines.bytes ++ lines.last))) ∙ all.1);
        front = of_input a d (lines.bytes ++ lines.last) closed (λ input. AppendsFront w u (run_of c s input).text) lines.read met (λ rest may. let o = follows rest may in (written _ o.0 o.1).front);
      }

  -- before more was read
  pub stops_waiting : Consumes b d [] → AppendsPart v u held → Stops (between a d) (between w u) c s Write
  stops_waiting nothing wrote =
      stops_in (none_reads script_way a b d l l' so.events so.read nothing) l.at_end so.read.good (none_complete script_way a b d l l' so.events so.read nothing) (still_met_end script_way a b d l l' so.events so.read nothing) wrote
      (λ rest may. let left = script (lines_left l rest) l.count in (
        (answers_to c (after c s so.events) left).text,
        ap (λ k. (answers_to c s k).text) (reads_rest script_way a b d l l' so.events so.read rest may ∙ as_after (lines_left l rest) so.events l.count) ∙ answers_after c s so.events left,
      ))

  -- the run did not go on
  pub going_stops : (kept : List ℕ) (e : ToolFault) → GoesOn (between b d) (between v u) l l' held kept (Err e) → Stops (between a d) (between w u) c s e
  going_stops kept Write h = stops_waiting h.0 h.1
  going_stops kept Read h = reading_stops a b d w u u c s l l' core (released h.1) Read tt h.0 (Appends-nil u)
  going_stops kept NoMemory h = reading_stops a b d w u u c s l l' core (released h.1) NoMemory tt h.0 (Appends-nil u)
  going_stops kept Unclosed h = absurd h

  module _ (t : TakesLine (between b d) l l') where
    -- once a line was read that is not answered
    pub stops_after_line : AppendsPart v u held → Stops (between a d) (between w u) c s Write
    stops_after_line wrote =
        stops_in (line_reads script_way a b d l l' so.events so.read t) l'.at_end so.read.good (line_complete a b d l l' so.read.done so.read.far t) (line_met_end a b d l l' so.read.done so.read.far t) wrote
        (λ rest _. let left = script (lines_left l (t.bytes ++ rest)) l.count in (
          (answers_to c (after c s so.events) left).text,
          ap (λ k. (answers_to c s k).text) (reads_on script_way a b d l l' so.events so.read t.bytes rest t.ongoing ∙ as_after (lines_left l (t.bytes ++ rest)) so.events l.count) ∙ answers_after c s so.events left,
        ))

    -- a line was answered, in the text that is held back
    pub holds_more : (next : World) (text kept : List ℕ) → text ≡ l'.line.items → IsAnswered core.config core.state next text (kept ≡ held ++ replies_text core.config core.state (part text).events) → HeldSoFar (between a d) (between w v) c s l' next kept
    holds_more next text kept same h =
        let es = so.events in
        let fs = (part l'.line.items).events in
        let done = subst (λ k. IsAnswered c (after c s es) next k (kept ≡ held ++ replies_text c (after c s es) (part k).events)) same
        (subst (λ (k : World). IsAnswered k.config k.state next text (kept ≡ held ++ replies_text k.config k.state (part text).events)) so.now h) in
        record {
          events = es ++ fs;
          read = took script_way a b d l l' es so.read t (es ++ fs) (adds_events es l'.line.items done.0);
          sent = so.sent;
          written = so.written;
          all =
              ap (λ k. so.sent ++ k) done.2
              ∙ sym (append_assoc so.sent held (replies_text c (after c s es) fs))
              ∙ ap (λ k. k ++ replies_text c (after c s es) fs) so.all
              ∙ sym (text_of_more c s es fs);
          now = done.1 ∙ ap (λ k. record { config = c; state = k }) (sym (after_more c s es fs));
        }
