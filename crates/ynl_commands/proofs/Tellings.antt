-- Lines of events that are written one after another.
use Rattle.std.proofs.Common.{◌≡◌, ◌≢◌, ℕ, ◌+◌, ◌<◌, ◌≤◌, List, [], ◌∷◌, ◌++◌, length, take, drop, Bool, Option, Some, None, Result, Ok, Err, refl, sym, ap, subst, ◌∙◌, arith, append-nil, append_assoc, length-append, get_or, inr}
use Rattle.std.specs.Prelude.{IsTrue, IfErr, option_map}
use Rattle.std.specs.List.{concat}
use Rattle.std.specs.Io.KnownBytes.{Appends}
use Rattle.std.proofs.KnownBytes.{Appends-nil, Appends-trans}
use Rattle.std.proofs.lemmas.List.Folds.{concat-append}
use Rattle.std.proofs.lemmas.List.{drop_all, drop_more, take-append-le, take_at}
use Rattle.std.proofs.Math.Seq.{take-append-add}
use Rattle.ynl_resource.specs.declared.names.Name.{Name}
use Rattle.ynl_resource.specs.declared.labels.Label.{Label}
use Rattle.ynl_model.specs.declared.events.Event.{Event}
use Rattle.ynl_model.specs.Queues.{Config}
use Rattle.ynl_model.specs.Accepted.{is_accepted}
use Rattle.ynl_model.specs.View.{Viewed, is_sole, seen_of, track_step, view_from, with_seen}
use Rattle.ynl_laws.proofs.Isolating.Isolated.{is_isolated}
use Rattle.ynl_core.specs.World.{World}
use Rattle.ynl_commands.specs.declared.run.ToolFault.{ToolFault}
use Rattle.ynl_commands.specs.declared.run.ToolFault.TheVariants.{Read, Write, NoMemory, Unclosed}
use Rattle.ynl_lines.specs.declared.faults.LineFault.{LineFault}
use Rattle.ynl_lines.specs.declared.faults.InputFault.TheVariants.{Script as InScript}
use Rattle.ynl_lines.specs.Writing.{fault_text}
use Rattle.ynl_commands.specs.declared.run.Summary.{Summary}
use Rattle.ynl_commands.specs.declared.tenant.Stand.{Stand}
use Rattle.ynl_commands.specs.Lines.{AppendsPart, HoldsBack}
use Rattle.ynl_commands.specs.Input.{Stream, between}
use Rattle.ynl_commands.specs.Run.{line_of, faulty, fault_lines_of, fault_lines}
use Rattle.ynl_commands.specs.Running.{Writes}
use Rattle.ynl_commands.specs.Readings.{ReadsTo}
use Rattle.ynl_commands.specs.Script.{Script, script_way, script_of}
use Rattle.ynl_commands.specs.Telling.{lines_from, seen_lines_from, sight_lines, stepped_by, view_lines, tenant_lines, AppendsLines, IsOpened, HoldsSight, LeavesLines, MovesOn, SaysLines, IsToldOf, TellsAll, TellsWhole, TellsTenant}
use Rattle.ynl_commands.proofs.Fronts.{part_of_more, part_after}
use Rattle.ynl_commands.proofs.Runs.{of_some}

-- ---- lines, and more lines

-- lines from the front are lines from the front of more
lines_of_more : (a b : Option (List ℕ)) (xs ys : List (List ℕ)) → AppendsLines a b xs → AppendsLines a b (xs ++ ys)
lines_of_more a b xs ys h = record {
  count = h.count;
  bound = omega (arith, h.bound, length-append xs ys);
  appended = subst (λ ls. Appends a b (concat ls)) (sym (take-append-le h.count xs ys h.bound)) h.appended;
}

-- all of the lines, and none of what follows
pub all_of_more : (a b : Option (List ℕ)) (xs ys : List (List ℕ)) → Appends a b (concat xs) → AppendsLines a b (xs ++ ys)
all_of_more a b xs ys h = record {
  count = length xs;
  bound = omega (arith, length-append xs ys);
  appended = subst (λ ls. Appends a b (concat ls)) (sym (take_at xs ys (length xs) refl)) h;
}

-- what is left of some lines is left of more
pub leaves_more : (a b : Option (List ℕ)) (xs ys : List (List ℕ)) (e : ToolFault) → LeavesLines a b xs e → LeavesLines a b (xs ++ ys) e
leaves_more a b xs ys Read h = h
leaves_more a b xs ys Unclosed h = h
leaves_more a b xs ys NoMemory h = lines_of_more a b xs ys h
leaves_more a b xs ys Write h = subst (AppendsPart a b) (sym (concat-append xs ys)) (part_of_more a b (concat xs) (concat ys) h)

-- lines, and then a front of the next
failed_after : (a b c : Option (List ℕ)) (done : List (List ℕ)) (line : List ℕ) → Appends a b (concat done) → AppendsPart b c line → LeavesLines a c (done ++ line ∷ []) Write
failed_after a b c done line before h = subst (AppendsPart a c) (sym (concat-append done (line ∷ []))) (part_after a b c (concat done) (line ++ []) before (part_of_more b c line [] h))

-- lines, and one more
one_more : (a b c : Option (List ℕ)) (done : List (List ℕ)) (line : List ℕ) → Appends a b (concat done) → Appends b c line → Appends a c (concat (done ++ line ∷ []))
one_more a b c done line before h =
    subst (Appends a c) (sym (concat-append done (line ∷ []) ∙ ap (λ l. concat done ++ l) (append-nil line))) (Appends-trans a b c (concat done) line before h)

-- lines, and then some of more
some_after : (a b c : Option (List ℕ)) (xs ys : List (List ℕ)) → Appends a b (concat xs) → AppendsLines b c ys → AppendsLines a c (xs ++ ys)
some_after a b c xs ys before h = record {
  count = length xs + h.count;
  bound = omega (arith, h.bound, length-append xs ys);
  appended = subst (λ ls. Appends a c ls) (sym (ap concat (take-append-add xs ys h.count) ∙ concat-append xs (take h.count ys))) (Appends-trans a b c (concat xs) (concat (take h.count ys)) before h.appended);
}

-- lines, and then what is said of more
pub says_after : {A : Type 0} (a b c : Option (List ℕ)) (xs ys : List (List ℕ)) (r : Result A ToolFault) → Appends a b (concat xs) → SaysLines b c ys r → SaysLines a c (xs ++ ys) r
says_after a b c xs ys (Ok x) before h = subst (Appends a c) (sym (concat-append xs ys)) (Appends-trans a b c (concat xs) (concat ys) before h)
says_after a b c xs ys (Err Read) before h = h
says_after a b c xs ys (Err Unclosed) before h = h
says_after a b c xs ys (Err NoMemory) before h = some_after a b c xs ys before h
says_after a b c xs ys (Err Write) before h = subst (AppendsPart a c) (sym (concat-append xs ys)) (part_after a b c (concat xs) (concat ys) before h)

-- ---- lines that are held back

-- more lines are held back
pub held_more : (a b : Option (List ℕ)) (lines more : List (List ℕ)) (held kept : List ℕ) → HoldsBack a b held (concat lines) → kept ≡ held ++ concat more → HoldsBack a b kept (concat (lines ++ more))
held_more a b lines more held kept so is = record {
  sent = so.sent;
  written = so.written;
  all = ap (λ k. so.sent ++ k) is ∙ sym (append_assoc so.sent held (concat more)) ∙ ap (λ k. k ++ concat more) so.all ∙ sym (concat-append lines more);
}

module _ (a b c : Option (List ℕ)) (lines : List (List ℕ)) (held : List ℕ) (so : HoldsBack a b held (concat lines)) where
  -- some of what is held back is written
  pub held_on : (kept : List ℕ) → HoldsBack b c kept held → HoldsBack a c kept (concat lines)
  held_on kept h = record {
    sent = so.sent ++ h.sent;
    written = Appends-trans a b c so.sent h.sent so.written h.written;
    all = append_assoc so.sent h.sent kept ∙ ap (λ k. so.sent ++ k) h.all ∙ so.all;
  }

  -- all of it is
  pub held_written : Appends b c held → Appends a c (concat lines)
  held_written wrote = subst (Appends a c) so.all (Appends-trans a b c so.sent held so.written wrote)

  -- there was no memory for what follows, and all of it is written
  pub held_refused : (rest : List (List ℕ)) → Appends b c held → LeavesLines a c (lines ++ rest) NoMemory
  held_refused rest wrote = all_of_more a c lines rest (held_written wrote)

  -- a write failed in it
  pub held_failed : (rest : List (List ℕ)) → AppendsPart b c held → LeavesLines a c (lines ++ rest) Write
  held_failed rest part =
      subst (AppendsPart a c) (sym (concat-append lines rest))
      (part_of_more a c (concat lines) (concat rest) (subst (AppendsPart a c) so.all (part_after a b c so.sent held so.written part)))

-- ---- events, one after another

module _ (core : World) (place : ℕ) where
  -- the line of what is first, if it is seen, and those of the rest
  found_first : (found : Option Event) (rest : List Viewed) → seen_lines_from core (with_seen place found rest) ≡ sight_lines core place found ++ seen_lines_from (stepped_by core found) rest
  found_first None rest = refl
  found_first (Some e) rest = refl

-- The lines of the events so far were written, up to what is held back of them, and the others are left.
pub record ToldSoFar (old new : Option (List ℕ)) (held : List ℕ) (c : Config) (t : Name) (p : Label) (first now : Stand) (events : List Event) (place : ℕ) : Type 0 where
  pub done : List (List ℕ)
  pub goes_on : lines_from c t p first.core 0 first.track events ≡ done ++ lines_from c t p now.core place now.track (drop place events)
  pub holds : HoldsBack old new held (concat done)

pub none_told : (a : Option (List ℕ)) (held : List ℕ) (c : Config) (t : Name) (p : Label) (stand : Stand) (events : List Event) → held ≡ [] → ToldSoFar a a held c t p stand stand events 0
none_told a held c t p stand events none = record { done = []; goes_on = refl; holds = record { sent = []; written = Appends-nil a; all = none } }

module _ (a b : Option (List ℕ)) (held : List ℕ) (c : Config) (t : Name) (p : Label) (first now : Stand) (events : List Event) (place : ℕ) (so : ToldSoFar a b held c t p first now events place) where
  module _ (event : Event) (more : place < length events) (at : event ≡ get_or events place event) where
    abbrev found : Option Event
    found = seen_of t p c now.track event

    abbrev rest : List Viewed
    rest = view_from t p c (place + 1) (track_step c now.track event) (drop (place + 1) events)

    next : drop place events ≡ event ∷ drop (place + 1) events
    next = drop_more events place event more ∙ ap (λ e. e ∷ drop (place + 1) events) (sym at)

    -- the next event is told, if it is seen, and then the rest
    then_next : lines_from c t p first.core 0 first.track events ≡ so.done ++ (sight_lines now.core place found ++ seen_lines_from (stepped_by now.core found) rest)
    then_next =
        so.goes_on
        ∙ ap (λ es. so.done ++ lines_from c t p now.core place now.track es) next
        ∙ ap (λ ls. so.done ++ ls) (found_first now.core place found rest)

    told_more : (after : Stand) (kept : List ℕ) → MovesOn c t p now after event → kept ≡ held ++ concat (sight_lines now.core place found) → ToldSoFar a b kept c t p first after events (place + 1)
    told_more after kept moved told = record {
      done = so.done ++ sight_lines now.core place found;
      goes_on =
          then_next
          ∙ sym (append_assoc so.done (sight_lines now.core place found) (seen_lines_from (stepped_by now.core found) rest))
          ∙ ap (λ core. (so.done ++ sight_lines now.core place found) ++ seen_lines_from core rest) (sym moved.core)
          ∙ ap (λ track. (so.done ++ sight_lines now.core place found) ++ lines_from c t p after.core (place + 1) track (drop (place + 1) events)) (sym moved.track);
      holds = held_more a b so.done (sight_lines now.core place found) held kept so.holds told;
    }

    pub event_told : {A E : Type 0} (after : Stand) (kept : List ℕ) (r : Result A E) (x : A) → r ≡ Ok x → HoldsSight held kept c t p now after place event r → ToldSoFar a b kept c t p first after events (place + 1)
    event_told after kept r x is told = let h = subst (HoldsSight held kept c t p now after place event) is told in told_more after kept h.0 h.1

  -- what is held back is as it was
  told_same : (kept : List ℕ) → kept ≡ held → ToldSoFar a b kept c t p first now events place
  told_same kept is = subst (λ k. ToldSoFar a b k c t p first now events place) (sym is) so

  pub event_refused : {A E : Type 0} (event : Event) (after : Stand) (kept : List ℕ) (r : Result A E) (f : E) → r ≡ Err f → HoldsSight held kept c t p now after place event r → ToldSoFar a b kept c t p first now events place
  event_refused event after kept r f is told = told_same kept (subst (HoldsSight held kept c t p now after place event) is told)

  module _ (d : Option (List ℕ)) where
    -- some of it is written
    pub told_on : (kept : List ℕ) → HoldsBack b d kept held → ToldSoFar a d kept c t p first now events place
    told_on kept h = record { done = so.done; goes_on = so.goes_on; holds = held_on a b d so.done held so.holds kept h }

    -- there was no memory for the next line
    pub told_refused : Appends b d held → LeavesLines a d (lines_from c t p first.core 0 first.track events) NoMemory
    told_refused wrote = subst (λ ls. LeavesLines a d ls NoMemory) (sym so.goes_on) (held_refused a b d so.done held so.holds (lines_from c t p now.core place now.track (drop place events)) wrote)

    -- a write failed
    pub told_failed : AppendsPart b d held → LeavesLines a d (lines_from c t p first.core 0 first.track events) Write
    told_failed part = subst (λ ls. LeavesLines a d ls Write) (sym so.goes_on) (held_failed a b d so.done held so.holds (lines_from c t p now.core place now.track (drop place events)) part)

    -- no event is left
    pub told_all : length events ≤ place → Appends b d held → Appends a d (concat (lines_from c t p first.core 0 first.track events))
    told_all past wrote =
        subst (λ ls. Appends a d (concat ls)) (sym (so.goes_on ∙ ap (λ es. so.done ++ lines_from c t p now.core place now.track es) (drop_all place events past) ∙ append-nil so.done))
        (held_written a b d so.done held so.holds wrote)

-- the lines from the beginning are those of the view
pub told_of_view : {A : Type 0} (a b : Option (List ℕ)) (c : Config) (t : Name) (p : Label) (stand : Stand) (events : List Event) (r : Result A ToolFault) → IsOpened c t stand
    → SaysLines a b (lines_from c t p stand.core 0 stand.track events) r → SaysLines a b (view_lines c t p events) r
told_of_view a b c t p stand events r opened said =
    subst (λ core. SaysLines a b (lines_from c t p core 0 [] events) r) opened.core
    (subst (λ track. SaysLines a b (lines_from c t p stand.core 0 track events) r) opened.track said)

-- ---- a script that was read, and what the tenant is told of it

module _ (reader : Stream) (w0 w1 : Option (List ℕ)) (c : Config) (t : Name) (p : Label) (accepted : Bool) (s : Script) (read : ReadsTo script_way reader s) where
  abbrev seen : List (List ℕ)
  seen = view_lines c t p s.made

  pub fails : (e : ToolFault) → LeavesLines w0 w1 (tenant_lines c t p s) e → TellsTenant reader (between w0 w1) accepted c t p (Err e)
  fails Read left = absurd left
  fails Unclosed left = absurd left
  fails NoMemory left = inr (record { script = s; read = read; written = left })
  fails Write left = record { script = s; read = read; written = left }

  -- an error in what is seen
  pub fails_early : (e : ToolFault) → LeavesLines w0 w1 seen e → TellsTenant reader (between w0 w1) accepted c t p (Err e)
  fails_early e left = fails e (leaves_more w0 w1 seen (fault_lines s) e left)

  module _ (sole : IsTrue (is_sole c t p)) (known : IsTrue accepted → IsTrue (is_accepted c)) where
    ends_well : (summary : Summary) → summary.lines ≡ s.lines → summary.fault ≡ option_map InScript s.fault → Appends w0 w1 (concat (tenant_lines c t p s)) → TellsAll reader (between w0 w1) accepted c t p summary
    ends_well summary lines fault written = record {
      script = s;
      read = read;
      written = written;
      lines = lines;
      fault = fault;
      same = λ is. is_isolated c s.made t p (known is) sole;
      input = of_some reader.before (λ input. s ≡ script_of input) (IsToldOf (between w0 w1) accepted c t p summary)
          (λ input is. record {
            written = subst (λ (k : Script). Appends w0 w1 (concat (tenant_lines c t p k))) is written;
            lines = lines ∙ ap (λ (k : Script). k.lines) is;
            fault = fault ∙ ap (λ (k : Script). option_map InScript k.fault) is;
            same = λ is. is_isolated c (script_of input).made t p (known is) sole;
          })
          read.input;
    }

    -- no line has a fault
    pub ends_whole : (summary : Summary) → summary.lines ≡ s.lines → summary.fault ≡ option_map InScript s.fault → s.fault ≡ None → Appends w0 w1 (concat seen) → TellsAll reader (between w0 w1) accepted c t p summary
    ends_whole summary lines fault none h =
        ends_well summary lines fault
        (subst (λ ls. Appends w0 w1 (concat ls)) (sym (ap (λ f. seen ++ fault_lines_of s.lines f) none ∙ append-nil seen)) h)

    -- what was seen is written, and then the line of the fault
    pub ends_broken : (wm : Option (List ℕ)) (f : LineFault) (r : Result Summary ToolFault) → s.fault ≡ Some f → Appends w0 wm (concat seen) → Writes wm w1 (faulty (InScript f) s.lines) r → IfErr r (λ e. e ≢ Read)
        → TellsTenant reader (between w0 w1) accepted c t p r
    ends_broken wm f (Ok summary) some h w other =
        ends_well summary w.0 (w.1 ∙ ap (option_map InScript) (sym some))
        (subst (λ ls. Appends w0 w1 (concat ls)) (sym (ap (λ f. seen ++ fault_lines_of s.lines f) some)) (one_more w0 wm w1 seen (line_of (fault_text (InScript f) s.lines)) h w.2))
    ends_broken wm f (Err Read) some h w other = absurd (other refl)
    ends_broken wm f (Err Unclosed) some h w other = absurd w
    ends_broken wm f (Err NoMemory) some h w other =
        fails NoMemory
        (all_of_more w0 w1 seen (fault_lines s) (subst (Appends w0 w1) (append-nil (concat seen)) (Appends-trans w0 wm w1 (concat seen) [] h w)))
    ends_broken wm f (Err Write) some h w other =
        fails Write (subst (λ ls. LeavesLines w0 w1 ls Write) (sym (ap (λ f. seen ++ fault_lines_of s.lines f) some)) (failed_after w0 wm w1 seen (line_of (fault_text (InScript f) s.lines)) h w))

-- what the tenant is told of the whole input
pub tells_whole : (reader writer : Stream) (accepted : Bool) (c : Config) (t : Name) (p : Label) (r : Result Summary ToolFault) → TellsTenant reader writer accepted c t p r → TellsWhole reader writer accepted c t p r
tells_whole reader writer accepted c t p (Ok summary) h = h.input
tells_whole reader writer accepted c t p (Err e) h = tt
