-- Clusters that events are applied to, one line after another.
use Rattle.std.proofs.Common.{◌≡◌, ℕ, List, [], ◌++◌, Option, Some, None, Result, Ok, Err, inr, refl, sym, ap, subst, ◌∙◌}
use Rattle.std.specs.Prelude.{◌≢◌, IfErr}
use Rattle.ynl_model.specs.declared.events.Event.{Event}
use Rattle.ynl_model.specs.Queues.{Config}
use Rattle.ynl_model.specs.Cluster.{State}
use Rattle.ynl_model.specs.Events.{after}
use Rattle.ynl_core.specs.World.{World}
use Rattle.ynl_lines.specs.declared.faults.LineFault.{LineFault}
use Rattle.ynl_saved_text.specs.declared.faults.StateFault.{StateFault}
use Rattle.ynl_words.specs.declared.words.Question.{Question}
use Rattle.ynl_commands.specs.declared.clusters.AppliedScript.{AppliedScript}
use Rattle.ynl_commands.specs.declared.lines_in.Lines.{Lines}
use Rattle.ynl_commands.specs.declared.run.ToolFault.{ToolFault}
use Rattle.ynl_commands.specs.declared.run.ToolFault.TheVariants.{Read, Write, NoMemory, Unclosed}
use Rattle.ynl_commands.specs.declared.run.Summary.{Summary}
use Rattle.ynl_commands.specs.Clusters.{cluster_after, rest_of, AppliesAll}
use Rattle.ynl_commands.specs.Explaining.{explanation, Explains, ExplainsSome, IsExplained, ExplainsWhole}
use Rattle.ynl_commands.specs.Input.{Stream}
use Rattle.ynl_commands.specs.Readings.{come_to}
use Rattle.ynl_commands.specs.Running.{Writes, LeavesFront}
use Rattle.ynl_commands.specs.Saving.{Saves, SavesRead, SavesScript, SavesWhole}
use Rattle.ynl_commands.specs.Script.{Script, script_way, script_of}
use Rattle.ynl_commands.proofs.Readings.{ReadSoFar}
use Rattle.ynl_commands.proofs.Runs.{after_more, of_some}

-- The lines that were read gave these events, and the cluster is the one after them.
pub record AppliedSoFar (reader : Stream) (l : Lines) (first core : World) : Type 0 where
  pub events : List Event
  pub now : core ≡ cluster_after first events
  pub read : ReadSoFar script_way reader l events

-- events, and then more
pub more_after : (first : World) (events more : List Event) → cluster_after (cluster_after first events) more ≡ cluster_after first (events ++ more)
more_after first events more =
    let state = sym (after_more first.config first.state events more) in
    λ i. record { config = first.config; state = state i }

-- what a line says was applied after the lines before it
pub applied_more : (first core next : World) (events more : List Event) → core ≡ cluster_after first events → next ≡ cluster_after core more → next ≡ cluster_after first (events ++ more)
applied_more first core next events more is left = left ∙ ap (λ (w : World). cluster_after w more) is ∙ more_after first events more

-- ---- what is written of a script whose events were applied

module _ (core first : World) (events : List Event) (n : ℕ) (f : Option LineFault) (is : core ≡ cluster_after first events) where
  -- why an application waits after them
  pub explained_after : (q : Question) → explanation core.config core.state q (come_to [] n f) ≡ explanation first.config first.state q (come_to events n f)
  explained_after q = ap (λ (w : World). explanation w.config w.state q (come_to [] n f)) is ∙ by f
    where
      by : (g : Option LineFault) → explanation first.config (after first.config first.state events) q (come_to [] n g) ≡ explanation first.config first.state q (come_to events n g)
      by None = refl
      by (Some g) = refl

  -- the state after them
  pub saved_after : (old new : Option (List ℕ)) (r : Result (Result Summary StateFault) ToolFault) → Saves old new core.config core.state (come_to [] n f) r → Saves old new first.config first.state (come_to events n f) r
  saved_after old new r h = by f r (subst (λ (w : World). Saves old new w.config w.state (come_to [] n f) r) is h)
    where
      by : (g : Option LineFault) (r : Result (Result Summary StateFault) ToolFault) → Saves old new first.config (after first.config first.state events) (come_to [] n g) r → Saves old new first.config first.state (come_to events n g) r
      by None (Ok (Ok summary)) h = h
      by (Some g) (Ok (Ok summary)) h = h
      by g (Ok (Err fault)) h = record { size = h.size; whole = h.whole; long = h.long; unwritten = h.unwritten }
      by None (Err e) h = h
      by (Some g) (Err e) h = h

module _ (reader writer : Stream) (first : World) (s : AppliedScript) (all : AppliesAll reader first s) where
  -- what was read
  abbrev script : Script
  script = come_to all.events s.lines s.fault

  saves_read : (r : Result (Result Summary StateFault) ToolFault) → Saves writer.before writer.after s.core.config s.core.state (rest_of s) r → SavesRead reader writer first.config first.state r
  saves_read r h = record { script = script; read = all.read; saves = saved_after s.core first all.events s.lines s.fault all.core writer.before writer.after r h }

  -- the state that the script left was written
  pub saves_script : (r : Result (Result Summary StateFault) ToolFault) → Saves writer.before writer.after s.core.config s.core.state (rest_of s) r → IfErr r (λ e. e ≢ Read) → SavesScript reader writer first.config first.state r
  saves_script (Ok ended) h other = saves_read (Ok ended) h
  saves_script (Err Read) h other = absurd (other refl)
  saves_script (Err NoMemory) h other = inr (saves_read (Err NoMemory) h)
  saves_script (Err Write) h other = saves_read (Err Write) h
  saves_script (Err Unclosed) h other = h

  explains_some : (q : Question) (e : ToolFault) → LeavesFront writer.before writer.after (explanation s.core.config s.core.state q (rest_of s)).text e → ExplainsSome reader writer first.config first.state q e
  explains_some q e h = record {
    script = script;
    read = all.read;
    written = subst (λ o. LeavesFront writer.before writer.after o.text e) (explained_after s.core first all.events s.lines s.fault all.core q) h;
  }

  -- why an application waits was told of the cluster that the script left
  pub explains_script : (q : Question) (r : Result Summary ToolFault) → Writes writer.before writer.after (explanation s.core.config s.core.state q (rest_of s)) r → IfErr r (λ e. e ≢ Read) → Explains reader writer first.config first.state q r
  explains_script q (Ok summary) h other =
      let told = subst (λ o. Writes writer.before writer.after o (Ok summary)) (explained_after s.core first all.events s.lines s.fault all.core q) h in
      record { script = script; read = all.read; explained = record { written = told.2; lines = told.0; fault = told.1 } }
  explains_script q (Err Read) h other = absurd (other refl)
  explains_script q (Err NoMemory) h other = inr (explains_some q NoMemory h)
  explains_script q (Err Write) h other = explains_some q Write h
  explains_script q (Err Unclosed) h other = h

-- ---- the whole input, where the reader tells its bytes

pub saves_whole : (reader writer : Stream) (c : Config) (s : State) (r : Result (Result Summary StateFault) ToolFault) → SavesScript reader writer c s r → SavesWhole reader writer c s r
saves_whole reader writer c s (Ok ended) h =
    of_some reader.before (λ input. h.script ≡ script_of input) (λ input. Saves writer.before writer.after c s (script_of input) (Ok ended))
    (λ input is. subst (λ script. Saves writer.before writer.after c s script (Ok ended)) is h.saves) h.read.input
saves_whole reader writer c s (Err e) h = tt

pub explains_whole : (reader writer : Stream) (c : Config) (s : State) (q : Question) (r : Result Summary ToolFault) → Explains reader writer c s q r → ExplainsWhole reader writer c s q r
explains_whole reader writer c s q (Ok summary) h =
    of_some reader.before (λ input. h.script ≡ script_of input) (λ input. IsExplained writer c s q summary (script_of input))
    (λ input is. subst (IsExplained writer c s q summary) is h.explained) h.read.input
explains_whole reader writer c s q (Err e) h = tt
