-- The script of an input, a line after another.
use Rattle.std.proofs.Common.{◌≡◌, ℕ, ◌+◌, List, [], ◌∷◌, ◌++◌, Option, Some, None, Result, Ok, Err, refl, sym, ap, ◌∙◌, append_assoc, append-nil}
use Rattle.ynl_model.specs.declared.events.Event.{Event}
use Rattle.ynl_lines.specs.declared.faults.LineFault.{LineFault}
use Rattle.ynl_commands.specs.declared.lines_in.ReadFault.{ReadFault}
use Rattle.ynl_commands.specs.declared.script_in.Script.{Script as Kept}
use Rattle.ynl_commands.specs.Input.{Line, whole, too_long, between}
use Rattle.ynl_commands.specs.Readings.{come_to, unless_faulty, read_on}
use Rattle.ynl_commands.specs.Script.{part, Script, joined, add_events, script_way, ReadsScript, ReadsWhole}

-- a line without a fault adds its events
pub adds_events : (events : List Event) (line : List ℕ) → (part line).fault ≡ None → add_events events line ≡ Ok (events ++ (part line).events)
adds_events events line fine = ap (joined events (part line).events) fine

-- a line with one adds none
pub has_fault : (events : List Event) (line : List ℕ) (f : LineFault) → (part line).fault ≡ Some f → add_events events line ≡ Err f
has_fault events line f bad = ap (joined events (part line).events) bad

-- ---- a script that goes on

-- a script after some events
abbrev pub after_events : List Event → Script → Script
after_events events rest = come_to (events ++ rest.made) rest.lines rest.fault

-- the script of these lines, after n lines
abbrev pub script : List Line → ℕ → Script
script ls n = read_on script_way [] n ls

-- what is left of a script does not depend on the events before it
shifted_by : (events more new : List Event) (n : ℕ) (f : Option LineFault) (rest : List Event → Script) → ((gs : List Event) → rest (events ++ gs) ≡ after_events events (rest gs))
    → unless_faulty rest (events ++ more) n (joined (events ++ more) new f) ≡ after_events events (unless_faulty rest more n (joined more new f))
shifted_by events more new n None rest same = ap rest (append_assoc events more new) ∙ same (more ++ new)
shifted_by events more new n (Some f) rest same = refl

shifted : (ls : List Line) (events more : List Event) (n : ℕ) → read_on script_way (events ++ more) n ls ≡ after_events events (read_on script_way more n ls)
unfolding read_on
shifted [] events more n = refl
shifted (too_long ∷ ls) events more n = refl
shifted (whole l ∷ ls) events more n = shifted_by events more (part l).events (n + 1) (part l).fault (λ gs. read_on script_way gs (n + 1) ls) (λ gs. shifted ls events gs (n + 1))

pub as_after : (ls : List Line) (events : List Event) (n : ℕ) → read_on script_way events n ls ≡ after_events events (script ls n)
as_after ls events n = ap (λ es. read_on script_way es n ls) (sym (append-nil events)) ∙ shifted ls events [] n

-- the script of the whole input
pub reads_whole : (a d : Option (List ℕ)) (r : Result Kept ReadFault) → ReadsScript (between a d) r → ReadsWhole (between a d) r
reads_whole a d (Ok s) h = h.input
reads_whole a d (Err e) h = tt
